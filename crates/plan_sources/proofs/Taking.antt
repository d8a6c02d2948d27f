-- Readings one after another: what stops the whole where a part is stopped, and what the whole gives.
use Rattle.std.proofs.Common.{◌≡◌, ℕ, ◌+◌, ◌<◌, ◌≤◌, ◌⊎◌, inl, inr, List, length, replicate, refl, sym, ap, ◌∙◌, subst, arith, Option, Some, None, Result, Ok, Err}
use Rattle.std.specs.Prelude.{IfSome, if◌then◌else◌}
use Rattle.std.proofs.lemmas.Bool.{le-leb}
use Rattle.std.proofs.lemmas.Bool.Decides.{leb_tells}
use Rattle.std.proofs.Math.ListN.{length-replicate}
use Rattle.plain_list.specs.Results.{◌>>=◌}
use Rattle.shelf_io.specs.Shelf.{Told, Untold, Missing, Holds, MayHold}
use Rattle.shelf_io.specs.declared.shelf_fault.ShelfFault.{ShelfFault}
use Rattle.shelf_io.specs.declared.shelf_fault.ShelfFault.TheVariants as fault
use Rattle.ppddl_lex.specs.declared.lexer.TheConstants.{MOST_TEXT}
use Rattle.ground_model.specs.Ground.{Ground}
use Rattle.plan_request.specs.Asked.{Sources}
use Rattle.plan_request.specs.declared.stop.Stop.{Stop}
use Rattle.plan_request.specs.declared.stop.Stop.TheVariants.{BadWords, ReadFailed, WriteFailed, NoMemory, Refused, NotAccepted, SecondNotAccepted, Limit}
use Rattle.plan_sources.specs.declared.texts.Texts.{Texts}
use Rattle.plan_sources.specs.Endings.{MayEnd, MayGive, IsFault}
use Rattle.plan_sources.specs.Problems.{AreShort, text_within, second_within, texts_within, one_text, problem_in, problem_of}
use Rattle.plan_sources.specs.Sources.{MayBeSecond, MayGiveSecond, MayGiveTexts, MayGiveProblem}

-- ---- endings

-- what stops a part stops the whole
pub stops_whole : {A B : Type 0} (lacks lacks' : Type 0) (part : Result A Stop → Type 0) (whole : Result B Stop → Type 0)
    → (lacks → lacks') → ((e : Stop) → part (Err e) → whole (Err e)) → (e : Stop) → MayEnd lacks part (Err e) → MayEnd lacks' whole (Err e)
stops_whole lacks lacks' part whole f h NoMemory ends = tt
stops_whole lacks lacks' part whole f h ReadFailed ends = f ends
stops_whole lacks lacks' part whole f h BadWords ends = h BadWords ends
stops_whole lacks lacks' part whole f h WriteFailed ends = h WriteFailed ends
stops_whole lacks lacks' part whole f h (Refused code file line) ends = h (Refused code file line) ends
stops_whole lacks lacks' part whole f h (NotAccepted code row) ends = h (NotAccepted code row) ends
stops_whole lacks lacks' part whole f h (SecondNotAccepted code row) ends = h (SecondNotAccepted code row) ends
stops_whole lacks lacks' part whole f h (Limit code most) ends = h (Limit code most) ends

-- what a part answers the whole answers, where the part is its last
pub ends_whole : {A : Type 0} (lacks lacks' : Type 0) (part whole : Result A Stop → Type 0)
    → (lacks → lacks') → ((r : Result A Stop) → part r → whole r) → (r : Result A Stop) → MayEnd lacks part r → MayEnd lacks' whole r
ends_whole lacks lacks' part whole f h (Ok x) ends = h (Ok x) ends
ends_whole lacks lacks' part whole f h (Err e) ends = stops_whole lacks lacks' part whole f (λ stop. h (Err stop)) e ends

-- a fault of a later call, as one of all calls since
pub fault_since : {S : Type 0} (reads : S → ℕ) (old mid new : S) (lacks lacks' : Type 0) → reads old ≤ reads mid → (lacks → lacks')
    → IsFault reads mid new lacks → IsFault reads old new lacks'
fault_since reads old mid new lacks lacks' later f (inl missing) = inl (f missing)
fault_since reads old mid new lacks lacks' later f (inr rose) = inr (omega (arith, later, rose))

-- so is a fault of an earlier one
pub fault_before : {S : Type 0} (reads : S → ℕ) (old mid new : S) (lacks lacks' : Type 0) → reads mid ≤ reads new → (lacks → lacks')
    → IsFault reads old mid lacks → IsFault reads old new lacks'
fault_before reads old mid new lacks lacks' later f (inl missing) = inl (f missing)
fault_before reads old mid new lacks lacks' later f (inr rose) = inr (omega (arith, later, rose))

-- ---- bytes above a limit

longer_held : (told : Told) (limit : ℕ) → (told ≡ Missing → ⊥) → ((bytes : List ℕ) → told ≡ Holds bytes → limit < length bytes)
    → (bytes : List ℕ) × MayHold told bytes × (limit < length bytes)
longer_held Untold limit there over = (replicate (limit + 1) 0, inl refl, simp length-replicate (omega arith))
longer_held Missing limit there over = absurd (there refl)
longer_held (Holds bytes) limit there over = (bytes, inr refl, over bytes refl)

-- a shelf that answered that a name is too long holds, or may hold, more bytes than the limit
pub too_long_held : {T : Type 0} (told : Told) (limit : ℕ) (result : Result T ShelfFault) → result ≡ Err fault.TooLong
    → (told ≡ Missing → (result ≡ Err fault.Failed) ⊎ (result ≡ Err fault.Memory))
    → (result ≡ Err fault.TooLong → (bytes : List ℕ) → told ≡ Holds bytes → limit < length bytes)
    → (bytes : List ℕ) × MayHold told bytes × (limit < length bytes)
too_long_held told limit result is missing over =
    longer_held told limit (λ e. elim (missing e) [ inl failed ↦ absurd (cc (is, failed)) | inr memory ↦ absurd (cc (is, memory)) ]) (over is)

-- ---- texts within their limit

pub short_text : (text : List ℕ) → length text ≤ MOST_TEXT → text_within text ≡ Ok text
short_text text short = ap (λ b. if b then Ok text else Err (Limit 28 MOST_TEXT)) (le-leb (length text) MOST_TEXT short)

pub long_text : (text : List ℕ) → MOST_TEXT < length text → text_within text ≡ Err (Limit 28 MOST_TEXT)
long_text text long = elim (leb_tells (length text) MOST_TEXT) [
  | inl (fits, within) ↦ absurd (omega (arith, long, within))
  | inr (over, above) ↦ ap (λ b. if b then Ok text else Err (Limit 28 MOST_TEXT)) over
]

-- a text that is given is within its limit
pub given_text : (text found : List ℕ) → text_within text ≡ Ok found → (found ≡ text) × (length text ≤ MOST_TEXT)
given_text text found is = elim (leb_tells (length text) MOST_TEXT) [
  | inl (fits, within) ↦ (let same : text ≡ found = cc (is, short_text text within) in sym same, within)
  | inr (over, above) ↦ absurd (cc (is, long_text text above))
]

second_short : (second : Option (List ℕ)) → IfSome second (λ text. length text ≤ MOST_TEXT) → second_within second ≡ Ok second
second_short None short = refl
second_short (Some text) short = ap (λ r. r >>= λ text. Ok (Some text)) (short_text text short)

pub given_second : (second found : Option (List ℕ)) → second_within second ≡ Ok found
    → (found ≡ second) × IfSome second (λ text. length text ≤ MOST_TEXT)
given_second None found is = (let same : None ≡ found = cc is in sym same, tt)
given_second (Some text) found is = elim (leb_tells (length text) MOST_TEXT) [
  | inl (fits, within) ↦ (let same : Some text ≡ found = cc (is, second_short (Some text) within) in sym same, within)
  | inr (over, above) ↦ absurd (cc (is, ap (λ r. r >>= λ text. Ok (Some text)) (long_text text above)))
]

module _ (t : Texts) where
  abbrev behind_first : Result (List ℕ) Stop → Result Texts Stop
  behind_first r = r >>= λ _. second_within t.second >>= λ _. Ok t

  abbrev behind_second : Result (Option (List ℕ)) Stop → Result Texts Stop
  behind_second r = r >>= λ _. Ok t

  pub first_too_long : (e : Stop) → text_within t.first ≡ Err e → texts_within t ≡ Err e
  first_too_long e is = ap behind_first is

  pub second_too_long : (e : Stop) → length t.first ≤ MOST_TEXT → second_within t.second ≡ Err e → texts_within t ≡ Err e
  second_too_long e short is = ap behind_first (short_text t.first short) ∙ ap behind_second is

  pub short_texts : AreShort t → texts_within t ≡ Ok t
  short_texts short = ap behind_first (short_text t.first short.first) ∙ ap behind_second (second_short t.second short.second)

  pub short_problem : (s : Sources) → AreShort t → problem_of s t ≡ problem_in s t
  unfolding problem_of
  short_problem s short = ap (λ r. r >>= problem_in s) (short_texts short)

  pub long_problem : (s : Sources) (e : Stop) → texts_within t ≡ Err e → problem_of s t ≡ Err e
  unfolding problem_of
  long_problem s e is = ap (λ r. r >>= problem_in s) is

behind_given : {A E : Type 0} (t u : Texts) (r : Result A E) → (r >>= λ _. Ok t) ≡ Ok u → u ≡ t
behind_given t u (Ok x) is = let same : t ≡ u = cc is in sym same
behind_given t u (Err e) is = absurd (cc is)

behind_both : (t u : Texts) (r : Result (List ℕ) Stop) → behind_first t r ≡ Ok u → u ≡ t
behind_both t u (Ok x) is = behind_given t u (second_within t.second) is
behind_both t u (Err e) is = absurd (cc is)

-- texts that are given are those that were read
pub given_texts : (t u : Texts) → texts_within t ≡ Ok u → u ≡ t
given_texts t u is = behind_both t u (text_within t.first) is

-- ---- the second text

module _ (held : List ℕ → Told) (name : List ℕ) where
  pub second_gives : (r : Result (List ℕ) Stop) → MayGive text_within (held name) r → MayGiveSecond held (Some name) (r >>= λ text. Ok (Some text))
  second_gives r (text, holds, is) = (Some text, (text, holds, refl), ap (λ x. x >>= λ text. Ok (Some text)) is)

-- ---- the texts of a request

module _ (held : List ℕ → Told) (s : Sources) where
  pub first_stops : (e : Stop) → MayGive text_within (held s.domain) (Err e) → MayGiveTexts held s (Err e)
  first_stops e (text, holds, is) =
      let t : Texts = record { first = text; second = None } in (
        t,
        record { first = holds; second = λ short. absurd (cc (is, short_text text short)) },
        first_too_long t e is,
      )

  module _ (first : List ℕ) (given : MayGive text_within (held s.domain) (Ok first)) where
    abbrev short_first : length first ≤ MOST_TEXT
    short_first =
        let read = given_text given.0 first given.2 in
        subst (λ text. length text ≤ MOST_TEXT) (sym read.0) read.1

    abbrev first_held : MayHold (held s.domain) first
    first_held = subst (MayHold (held s.domain)) (sym (given_text given.0 first given.2).0) given.1

    pub first_is_short : (text : List ℕ) × MayHold (held s.domain) text × (length text ≤ MOST_TEXT)
    first_is_short = (first, first_held, short_first)

    pub second_stops : (e : Stop) → MayGiveSecond held s.problem (Err e) → MayGiveTexts held s (Err e)
    second_stops e (second, holds, is) =
        let t : Texts = record { first = first; second = second } in
        (t, record { first = first_held; second = λ _. holds }, second_too_long t e short_first is)

    module _ (second : Option (List ℕ)) (also : MayGiveSecond held s.problem (Ok second)) where
      abbrev both : Texts
      both = record { first = first; second = second }

      pub both_short : AreShort both
      both_short =
          let read = given_second also.0 second also.2 in
          record { first = short_first; second = subst (λ o. IfSome o (λ text. length text ≤ MOST_TEXT)) (sym read.0) read.1 }

      pub both_given : MayGiveTexts held s (Ok both)
      both_given = (
        both,
        record { first = first_held; second = λ _. subst (MayBeSecond held s.problem) (sym (given_second also.0 second also.2).0) also.1 },
        short_texts both both_short,
      )

  -- what the texts give, their problem gives
  pub texts_stop : (e : Stop) → MayGiveTexts held s (Err e) → MayGiveProblem held s (Err e)
  texts_stop e (t, are, is) = (t, are, long_problem t s e is)

  pub problem_given : (t : Texts) → MayGiveTexts held s (Ok t) → (r : Result Ground Stop) → problem_in s t ≡ r → MayGiveProblem held s r
  unfolding problem_of
  problem_given t (u, are, is) r gives = (u, are, ap (λ x. x >>= problem_in s) is ∙ gives)

-- ---- one text that is at hand

pub long_alone : (s : Sources) (text : List ℕ) → MOST_TEXT < length text → problem_of s (one_text text) ≡ Err (Limit 28 MOST_TEXT)
long_alone s text long = long_problem (one_text text) s (Limit 28 MOST_TEXT) (first_too_long (one_text text) (Limit 28 MOST_TEXT) (long_text text long))

pub short_alone : (text : List ℕ) → length text ≤ MOST_TEXT → AreShort (one_text text)
short_alone text short = record { first = short; second = tt }

pub problem_alone : (s : Sources) (text : List ℕ) → length text ≤ MOST_TEXT → (r : Result Ground Stop)
    → MayEnd ⊥ (λ r. problem_in s (one_text text) ≡ r) r → MayEnd ⊥ (λ r. problem_of s (one_text text) ≡ r) r
problem_alone s text short r ends =
    ends_whole ⊥ ⊥ (λ r. problem_in s (one_text text) ≡ r) (λ r. problem_of s (one_text text) ≡ r) (λ never. never)
    (λ r is. short_problem (one_text text) s (short_alone text short) ∙ is) r ends
