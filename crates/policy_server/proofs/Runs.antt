-- Runs, one turn after another, and what ends them.
use Rattle.std.proofs.Common.{◌≡◌, ℕ, ◌+◌, ◌<◌, ◌≤◌, Bool, true, false, cond, nat_lt, List, [], ◌∷◌, ◌++◌, length, take, Option, inl, inr, refl, sym, ap, ◌∙◌, subst, append_assoc, length-append, arith}
use Rattle.std.specs.List.{AllByRecursion}
use Rattle.std.specs.Io.KnownBytes.{Appends}
use Rattle.std.proofs.KnownBytes.{Consumes-nil, Consumes-trans, Appends-nil, Appends-trans}
use Rattle.std.proofs.lemmas.Bool.{ne_eqb, cases_Bool, ltb-true, ltb-false}
use Rattle.std.proofs.lemmas.List.{append-nil}
use Rattle.shelf_io.specs.Causes.{one_more}
use Rattle.ground_model.specs.Packed.{State}
use Rattle.ground_model.specs.Ground.{Ground}
use Rattle.word_table.specs.declared.view.View.{View}
use Rattle.word_table.specs.declared.view.notes.Look.TheVariants.{Empty}
use Rattle.word_table.specs.view.Laws.{HasMore}
use Rattle.word_table.proofs.lemmas.view.Seen.{has_state_more, more_is_later}
use Rattle.word_table.specs.Seen.{Board, Knowledge, IsOf}
use Rattle.bound_words.specs.declared.bounds.Interval.{Interval}
use Rattle.state_interner.specs.Interned.{AddsLooks}
use Rattle.policy_server.specs.declared.limits.TheConstants.{MOST_QUERIES, MOST_LINE}
use Rattle.policy_server.specs.declared.serve_end.ServeEnd.{ServeEnd}
use Rattle.policy_server.specs.declared.serve_end.ServeEnd.TheVariants as stop
use Rattle.policy_server.specs.declared.served.Served.{Served}
use Rattle.policy_server.specs.Lines.{Cut, cut_with, cut_of, in_front, last_line, fed, IsWhole}
use Rattle.policy_server.specs.Queries.{query_of}
use Rattle.policy_server.specs.Replies.{Reply, NoQuery, NoAtom, Unvisited, Found, text_of, texts, Fits, FitEach, loads_in, loads_of, IsTold, IsUnvisited, IsFound, Follows, FollowEach, Serves}
use Rattle.policy_server.specs.Serving.{Input, Took, long_line, long_text, due, EndsBy, is_read_fault, IsCutShort, IsFault, Puts, IsRun}
use Rattle.policy_server.specs.Parts.{IsLine, IsServed, IsRefused, IsLongTurn, TellsStop}
use Rattle.policy_server.proofs.Looked.{more_then, adds_then, looked_since, looked_still, clear_later, id_later, serves_nothing}

-- ---- lists

all_last : {X : Type 0} (P : X → Type 0) (xs : List X) (y : X) → AllByRecursion P xs → P y → AllByRecursion P (xs ++ y ∷ [])
all_last P [] y all one = (one, tt)
all_last P (x ∷ xs) y all one = (all.0, all_last P xs y all.1 one)

pub all_weaker : {X : Type 0} (P Q : X → Type 0) → ((x : X) → P x → Q x) → (xs : List X) → AllByRecursion P xs → AllByRecursion Q xs
all_weaker P Q f [] all = tt
all_weaker P Q f (x ∷ xs) all = (f x all.0, all_weaker P Q f xs all.1)

take_all : {X : Type 0} (xs : List X) → take (length xs) xs ≡ xs
take_all [] = refl
take_all (x ∷ xs) = ap (λ l. x ∷ l) (take_all xs)

take_front : {X : Type 0} (xs ys : List X) → take (length xs) (xs ++ ys) ≡ xs
take_front [] ys = refl
take_front (x ∷ xs) ys = ap (λ l. x ∷ l) (take_front xs ys)

-- ---- lines

abbrev pub feds : List (List ℕ) → List ℕ
feds [] = []
feds (line ∷ lines) = fed line ++ feds lines

feds_last : (lines : List (List ℕ)) (line : List ℕ) → feds (lines ++ line ∷ []) ≡ feds lines ++ fed line
feds_last [] line = append-nil (fed line)
feds_last (l ∷ lines) line = ap (λ x. fed l ++ x) (feds_last lines line) ∙ sym (append_assoc (fed l) (feds lines) (fed line))

cut_rest : (rest : List ℕ) → IsWhole rest → cut_of rest ≡ cut_with [] rest
cut_rest [] whole = refl
cut_rest (b ∷ bs) whole =
    ap (λ t. cond t (cut_with ([] ∷ (cut_of bs).lines) (cut_of bs).rest) (in_front b (cut_of bs).lines (cut_of bs).rest)) (ne_eqb b 10 whole.0)
    ∙ ap (λ (c : Cut). in_front b c.lines c.rest) (cut_rest bs whole.1)

cut_line : (line bs : List ℕ) → IsWhole line → cut_of (fed line ++ bs) ≡ cut_with (line ∷ (cut_of bs).lines) (cut_of bs).rest
cut_line [] bs whole = refl
cut_line (b ∷ line) bs whole =
    let more = fed line ++ bs in
    ap (λ t. cond t (cut_with ([] ∷ (cut_of more).lines) (cut_of more).rest) (in_front b (cut_of more).lines (cut_of more).rest)) (ne_eqb b 10 whole.0)
    ∙ ap (λ (c : Cut). in_front b c.lines c.rest) (cut_line line bs whole.1)

cut_lines : (lines : List (List ℕ)) (rest : List ℕ) → AllByRecursion IsLine lines → IsWhole rest → cut_of (feds lines ++ rest) ≡ cut_with lines rest
cut_lines [] rest are whole = cut_rest rest whole
cut_lines (line ∷ lines) rest are whole =
    ap cut_of (append_assoc (fed line) (feds lines) rest) ∙ (cut_line line (feds lines ++ rest) are.0.whole
    ∙ ap (λ (c : Cut). cut_with (line ∷ c.lines) c.rest) (cut_lines lines rest are.1 whole))

last_is : (line : List ℕ) → 0 < length line → last_line true line ≡ line ∷ []
last_is [] some = absurd (omega arith)
last_is (b ∷ bs) some = refl

-- ---- what is taken

pub took_nothing : (i : Input) → Took i i [] false false
took_nothing i = record { consumed = Consumes-nil i.left; ends = refl; faults = refl; nothing = λ e. absurd cc }

pub took_then : (i j m : Input) (xs ys : List ℕ) (ended failed : Bool) → Took i j xs false false → Took j m ys ended failed → Took i m (xs ++ ys) ended failed
took_then i j m xs ys ended failed first second = record {
  consumed = Consumes-trans i.left j.left m.left xs ys first.consumed second.consumed;
  ends = second.ends ∙ ap (λ n. cond ended (one_more n) n) first.ends;
  faults = second.faults ∙ ap (λ n. cond failed (one_more n) n) first.faults;
  nothing = second.nothing;
}

-- ---- replies

texts_last : (g : Ground) (rs : List Reply) (r : Reply) → texts g (rs ++ r ∷ []) ≡ texts g rs ++ text_of g r
texts_last g [] r = append-nil (text_of g r)
texts_last g (x ∷ rs) r = ap (λ l. text_of g x ++ l) (texts_last g rs r) ∙ sym (append_assoc (text_of g x) (texts g rs) (text_of g r))

loads_last : (rs : List Reply) (r : Reply) → loads_of (rs ++ r ∷ []) ≡ loads_in r ++ loads_of rs
loads_last [] r = sym (append-nil (loads_in r))
loads_last (x ∷ rs) r = ap (λ l. l ++ loads_in x) (loads_last rs r) ∙ append_assoc (loads_in r) (loads_of rs) (loads_in x)

fit_last : (g : Ground) (lines : List (List ℕ)) (line : List ℕ) (rs : List Reply) (r : Reply) → FitEach g lines rs → Fits (query_of g line) r
    → FitEach g (lines ++ line ∷ []) (rs ++ r ∷ [])
fit_last g [] line [] r each one = (one, tt)
fit_last g [] line (x ∷ rs) r each one = absurd each
fit_last g (l ∷ lines) line [] r each one = absurd each
fit_last g (l ∷ lines) line (x ∷ rs) r each one = (each.0, fit_last g lines line rs r each.1 one)

told_until : (g : Ground) (u v w : View) (r : Reply) → HasMore v w → AddsLooks v w → IsTold g u v r → IsTold g u w r
told_until g u v w NoQuery more looks told = tt
told_until g u v w NoAtom more looks told = tt
told_until g u v w (Unvisited s) more looks told = record {
  bucket = told.bucket;
  empty = looked_still u v w (Empty told.bucket) told.empty looks;
  clear = clear_later v w s told.bucket more told.clear;
  none = told.none;
}
told_until g u v w (Found s id i) more looks told = let later = more_is_later v w more in record {
  is_id = id_later v w s id more told.is_id;
  is_code = told.is_code;
  lower_since = told.lower_since;
  upper_since = told.upper_since;
  lower_until = (let a = later.lower s in let b = told.lower_until in omega arith);
  upper_until = (let a = later.upper s in let b = told.upper_until in omega arith);
  ordered = told.ordered;
  within_quit = told.within_quit;
  covers = told.covers;
  worth = told.worth;
}

told_since : (g : Ground) (u v w : View) (r : Reply) → HasMore u v → AddsLooks u v → IsTold g v w r → IsTold g u w r
told_since g u v w NoQuery more looks told = tt
told_since g u v w NoAtom more looks told = tt
told_since g u v w (Unvisited s) more looks told = record {
  bucket = told.bucket;
  empty = looked_since u v w (Empty told.bucket) looks told.empty;
  clear = told.clear;
  none = λ id has. told.none id (has_state_more u v more id s has);
}
told_since g u v w (Found s id i) more looks told = let later = more_is_later u v more in record {
  is_id = told.is_id;
  is_code = told.is_code;
  lower_since = (let a = later.lower s in let b = told.lower_since in omega arith);
  upper_since = (let a = later.upper s in let b = told.upper_since in omega arith);
  lower_until = told.lower_until;
  upper_until = told.upper_until;
  ordered = told.ordered;
  within_quit = told.within_quit;
  covers = told.covers;
  worth = told.worth;
}

found_follows : (g : Ground) (u v w : View) (s t : State) (id k : ℕ) (i j : Interval) → IsFound g u s id i v → IsFound g v t k j w → Follows (Found s id i) (Found t k j)
found_follows g u v w s t id k i j first second same =
    let again : IsFound g u t id i v = subst (λ (x : State). IsFound g u x id i v) same first in
    let a = again.lower_until in let b = second.lower_since in let c = again.upper_until in let d = second.upper_since in
    (omega arith, omega arith)

not_unvisited : (g : Ground) (u v w : View) (s t : State) (id : ℕ) (i : Interval) → IsFound g u s id i v → IsUnvisited v t w → Follows (Found s id i) (Unvisited t)
not_unvisited g u v w s t id i first second same = second.none id (subst (λ (x : State). IsFound g u x id i v) same first).is_id.state

follows : (g : Ground) (u v w : View) (x r : Reply) → IsTold g u v x → IsTold g v w r → Follows x r
follows g u v w NoQuery r first second = tt
follows g u v w NoAtom r first second = tt
follows g u v w (Unvisited s) r first second = tt
follows g u v w (Found s id i) NoQuery first second = tt
follows g u v w (Found s id i) NoAtom first second = tt
follows g u v w (Found s id i) (Unvisited t) first second = not_unvisited g u v w s t id i first second
follows g u v w (Found s id i) (Found t k j) first second = found_follows g u v w s t id k i j first second

follow_last : (rs : List Reply) (r : Reply) → FollowEach rs → AllByRecursion (λ x. Follows x r) rs → FollowEach (rs ++ r ∷ [])
follow_last [] r each last = (tt, tt)
follow_last (x ∷ rs) r each last = (all_last (Follows x) rs r each.0 last.0, follow_last rs r each.1 last.1)

pub serves_again : (b : Board) (k l m : Knowledge) (rs : List Reply) (r : Reply) → Serves b k l rs → Serves b l m (r ∷ []) → Serves b k m (rs ++ r ∷ [])
serves_again b k l m rs r first second = record {
  here = second.here;
  noted = more_then k.view l.view m.view first.noted second.noted;
  rights = second.rights ∙ first.rights;
  spare = second.spare ∙ first.spare;
  loads = second.loads ∙ (ap (λ x. loads_in r ++ x) first.loads
      ∙ (sym (append_assoc (loads_in r) (loads_of rs) k.view.loads) ∙ ap (λ x. x ++ k.view.loads) (sym (loads_last rs r))));
  looks = adds_then k.view l.view m.view first.looks second.looks;
  told = all_last (IsTold b.problem k.view m.view) rs r
      (all_weaker (IsTold b.problem k.view l.view) (IsTold b.problem k.view m.view) (λ x told. told_until b.problem k.view l.view m.view x second.noted second.looks told) rs first.told)
      (told_since b.problem k.view l.view m.view r first.noted first.looks second.told.0);
  in_turn = follow_last rs r first.in_turn
      (all_weaker (IsTold b.problem k.view l.view) (λ x. Follows x r) (λ x told. follows b.problem k.view l.view m.view x r told second.told.0) rs first.told);
}

-- ---- so far

-- these whole lines were taken and answered
pub record SoFar (b : Board) (k l : Knowledge) (i j : Input) (old new : Option (List ℕ)) (n : ℕ) : Type 0 where
  pub lines : List (List ℕ)
  pub replies : List Reply
  pub are_lines : AllByRecursion IsLine lines
  pub took : Took i j (feds lines) false false
  pub fit : FitEach b.problem lines replies
  pub serves : Serves b k l replies
  pub put : Appends old new (texts b.problem replies)
  pub count : length replies ≡ n

pub so_far_begins : (b : Board) (k : Knowledge) (i : Input) (old : Option (List ℕ)) → IsOf b k → SoFar b k k i i old old 0
so_far_begins b k i old here = record {
  lines = [];
  replies = [];
  are_lines = tt;
  took = took_nothing i;
  fit = tt;
  serves = serves_nothing b k here;
  put = Appends-nil old;
  count = refl;
}

pub so_far_more : (b : Board) (k l m : Knowledge) (i j o : Input) (old mid new : Option (List ℕ)) (n : ℕ) → SoFar b k l i j old mid n
    → IsServed b l m j o mid new false → SoFar b k m i o old new (n + 1)
so_far_more b k l m i j o old mid new n so one = record {
  lines = so.lines ++ one.line ∷ [];
  replies = so.replies ++ one.told ∷ [];
  are_lines = all_last IsLine so.lines one.line so.are_lines one.answered.is_line;
  took = subst (λ (bs : List ℕ). Took i o bs false false) (sym (feds_last so.lines one.line))
      (took_then i j o (feds so.lines) (fed one.line) false false so.took one.answered.took);
  fit = fit_last b.problem so.lines one.line so.replies one.told so.fit one.answered.fits;
  serves = serves_again b k l m so.replies one.told so.serves one.answered.serves;
  put = subst (Appends old new) (sym (texts_last b.problem so.replies one.told))
      (Appends-trans old mid new (texts b.problem so.replies) (text_of b.problem one.told) so.put one.put);
  count = length-append so.replies (one.told ∷ []) ∙ ap (λ x. x + 1) so.count;
}

-- ---- ends

module _ (b : Board) (k l : Knowledge) (i j : Input) (old new : Option (List ℕ)) (served : Served) (lines : List (List ℕ)) (rest : List ℕ) (ended : Bool) (rs : List Reply) where
  pub run_is : AllByRecursion IsLine lines → IsWhole rest → Took i j (feds lines ++ rest) ended (is_read_fault served.end)
      → FitEach b.problem (lines ++ last_line ended rest) rs → Serves b k l rs → Puts b.problem old new rest rs served
      → EndsBy served.end rest ended (length rs) → IsRun b k l i j old new served
  run_is are whole took fit serves puts end =
      let cut : cut_of (feds lines ++ rest) ≡ cut_with lines rest = cut_lines lines rest are whole in record {
        replies = rs;
        answered = record {
          bytes = feds lines ++ rest;
          ended = ended;
          took = took;
          short = subst (λ (c : Cut). AllByRecursion (λ line. length line ≤ MOST_LINE) c.lines) (sym cut)
              (all_weaker IsLine (λ line. length line ≤ MOST_LINE) (λ line is. is.short) lines are);
          fit = subst (λ (c : Cut). FitEach b.problem (c.lines ++ last_line ended c.rest) rs) (sym cut) fit;
          puts = subst (λ (c : Cut). Puts b.problem old new c.rest rs served) (sym cut) puts;
          end = subst (λ (c : Cut). EndsBy served.end c.rest ended (length rs)) (sym cut) end;
        };
        serves = serves;
      }

short_text : (rest : List ℕ) → length rest ≤ MOST_LINE → long_text rest ≡ []
short_text rest short = elim (cases_Bool (nat_lt MOST_LINE (length rest))) [
  | inl is ↦ absurd (let a = ltb-true MOST_LINE (length rest) is in omega arith)
  | inr is ↦ ap (λ t. cond t long_line []) is
]

is_long_text : (rest : List ℕ) → length rest ≡ MOST_LINE + 1 → long_text rest ≡ long_line
is_long_text rest long = elim (cases_Bool (nat_lt MOST_LINE (length rest))) [
  | inl is ↦ ap (λ t. cond t long_line []) is
  | inr is ↦ absurd (let a = ltb-false MOST_LINE (length rest) is in omega arith)
]

due_short : (g : Ground) (rest : List ℕ) (rs : List Reply) → length rest ≤ MOST_LINE → due g rest rs ≡ texts g rs
due_short g rest rs short = ap (λ l. texts g rs ++ l) (short_text rest short) ∙ append-nil (texts g rs)

due_long : (g : Ground) (rest : List ℕ) (rs : List Reply) → length rest ≡ MOST_LINE + 1 → due g rest rs ≡ texts g rs ++ long_line
due_long g rest rs long = ap (λ l. texts g rs ++ l) (is_long_text rest long)

abbrev pub served_by : ServeEnd → ℕ → Served
served_by end n = record { end = end; queries = n }

no_more : {X : Type 0} (P : List X → Type 0) (xs : List X) → P xs → P (xs ++ [])
no_more P xs h = subst P (sym (append-nil xs)) h

module _ (b : Board) (k l m : Knowledge) (i j o : Input) (old mid new : Option (List ℕ)) (n : ℕ) (so : SoFar b k l i j old mid n) where
  abbrev g : Ground
  g = b.problem

  puts_short : (rest : List ℕ) → length rest ≤ MOST_LINE → new ≡ mid → Appends old new (due g rest so.replies)
  puts_short rest short same = subst (Appends old new) (sym (due_short g rest so.replies short)) (subst (λ x. Appends old x (texts g so.replies)) (sym same) so.put)

  stays : m ≡ l → Serves b k m so.replies
  stays same = subst (λ (x : Knowledge). Serves b k x so.replies) (sym same) so.serves

  -- the input ended, and no line was begun
  pub ends_at_input : n < MOST_QUERIES → Took j o [] true false → m ≡ l → new ≡ mid → IsRun b k m i o old new (served_by stop.Input n)
  ends_at_input few took same put = run_is b k m i o old new (served_by stop.Input n) so.lines [] true so.replies so.are_lines tt
      (took_then i j o (feds so.lines) [] true false so.took took)
      (no_more (λ ls. FitEach g ls so.replies) so.lines so.fit) (stays same)
      (puts_short [] (omega arith) put, sym so.count)
      (refl, (let a = so.count in omega arith), omega arith)

  pub ends_at_fault : n < MOST_QUERIES → (line : List ℕ) → IsLine line → Took j o line false true → m ≡ l → new ≡ mid → IsRun b k m i o old new (served_by stop.ReadFault n)
  ends_at_fault few line is_line took same put = run_is b k m i o old new (served_by stop.ReadFault n) so.lines line false so.replies so.are_lines is_line.whole
      (took_then i j o (feds so.lines) line false true so.took took)
      (no_more (λ ls. FitEach g ls so.replies) so.lines so.fit) (stays same)
      (puts_short line is_line.short put, sym so.count)
      (refl, (let a = so.count in omega arith), is_line.short)

  pub ends_long : n < MOST_QUERIES → IsLongTurn l m j o → Appends mid new long_line → IsRun b k m i o old new (served_by stop.LongLine n)
  ends_long few long put = run_is b k m i o old new (served_by stop.LongLine n) so.lines long.line false so.replies so.are_lines long.is_long.whole
      (took_then i j o (feds so.lines) long.line false false so.took long.took)
      (no_more (λ ls. FitEach g ls so.replies) so.lines so.fit) (stays long.same)
      (subst (Appends old new) (sym (due_long g long.line so.replies long.is_long.long)) (Appends-trans old mid new (texts g so.replies) long_line so.put put), sym so.count)
      (refl, (let a = so.count in omega arith), long.is_long.long)

  one_longer : (r : Reply) → length (so.replies ++ r ∷ []) ≡ n + 1
  one_longer r = length-append so.replies (r ∷ []) ∙ ap (λ x. x + 1) so.count

  -- the last line was answered
  module _ (one : IsServed b l m j o mid new true) where
    last_puts : Appends old new (due g one.line (so.replies ++ one.told ∷ []))
    last_puts = subst (Appends old new)
        (sym (due_short g one.line (so.replies ++ one.told ∷ []) one.answered.is_line.short ∙ texts_last g so.replies one.told))
        (Appends-trans old mid new (texts g so.replies) (text_of g one.told) so.put one.put)

    last_fits : FitEach g (so.lines ++ last_line true one.line) (so.replies ++ one.told ∷ [])
    last_fits = subst (λ ls. FitEach g (so.lines ++ ls) (so.replies ++ one.told ∷ [])) (sym (last_is one.line (one.answered.some refl)))
        (fit_last g so.lines one.line so.replies one.told so.fit one.answered.fits)

    pub ends_at_last : n + 1 < MOST_QUERIES → IsRun b k m i o old new (served_by stop.Input (n + 1))
    ends_at_last few = run_is b k m i o old new (served_by stop.Input (n + 1)) so.lines one.line true (so.replies ++ one.told ∷ []) so.are_lines one.answered.is_line.whole
        (took_then i j o (feds so.lines) one.line true false so.took one.answered.took)
        last_fits (serves_again b k l m so.replies one.told so.serves one.answered.serves)
        (last_puts, sym (one_longer one.told))
        (refl, (let a = one_longer one.told in omega arith), one.answered.is_line.short)

    pub ends_at_most : n + 1 ≡ MOST_QUERIES → IsRun b k m i o old new (served_by stop.Queries MOST_QUERIES)
    ends_at_most all = run_is b k m i o old new (served_by stop.Queries MOST_QUERIES) so.lines one.line true (so.replies ++ one.told ∷ []) so.are_lines one.answered.is_line.whole
        (took_then i j o (feds so.lines) one.line true false so.took one.answered.took)
        last_fits (serves_again b k l m so.replies one.told so.serves one.answered.serves)
        (last_puts, sym (one_longer one.told ∙ all))
        (one_longer one.told ∙ all, one.answered.is_line.short, inr (inl refl))

  take_so_far : take n so.replies ≡ so.replies
  take_so_far = ap (λ x. take x so.replies) (sym so.count) ∙ take_all so.replies

  take_before : (r : Reply) → take n (so.replies ++ r ∷ []) ≡ so.replies
  take_before r = ap (λ x. take x (so.replies ++ r ∷ [])) (sym so.count) ∙ take_front so.replies (r ∷ [])

  cut_behind : (front last : List ℕ) → front ≡ texts g so.replies → IsCutShort mid new [] last → IsCutShort old new front last
  cut_behind front last is short = record {
    count = short.count;
    fewer = short.fewer;
    put = subst (λ x. Appends old new (x ++ take short.count last)) (sym is) (Appends-trans old mid new (texts g so.replies) (take short.count last) so.put short.put);
  }

  -- the line of a line that is too long was cut short
  pub ends_long_fault : n < MOST_QUERIES → IsLongTurn l m j o → IsCutShort mid new [] long_line → IsRun b k m i o old new (served_by stop.WriteFault n)
  ends_long_fault few long short = run_is b k m i o old new (served_by stop.WriteFault n) so.lines long.line false so.replies so.are_lines long.is_long.whole
      (took_then i j o (feds so.lines) long.line false false so.took long.took)
      (no_more (λ ls. FitEach g ls so.replies) so.lines so.fit) (stays long.same)
      record {
        last = long_line;
        whole = ap (λ x. texts g x ++ long_line) take_so_far ∙ sym (due_long g long.line so.replies long.is_long.long);
        short = cut_behind (texts g (take n so.replies)) long_line (ap (texts g) take_so_far) short;
        replied = inl (sym so.count);
      }
      ((let a = so.count in omega arith), inr (inr long.is_long.long))

  -- the line of an answer was cut short
  module _ (one : IsRefused b l m j o mid new) (few : n < MOST_QUERIES) where
    refused_serves : Serves b k m (so.replies ++ one.told ∷ [])
    refused_serves = serves_again b k l m so.replies one.told so.serves one.answered.serves

    is_fault : (rest : List ℕ) → length rest ≤ MOST_LINE → IsFault g old new rest (so.replies ++ one.told ∷ []) n
    is_fault rest short = record {
      last = text_of g one.told;
      whole = ap (λ x. texts g x ++ text_of g one.told) (take_before one.told)
          ∙ sym (due_short g rest (so.replies ++ one.told ∷ []) short ∙ texts_last g so.replies one.told);
      short = cut_behind (texts g (take n (so.replies ++ one.told ∷ []))) (text_of g one.told) (ap (texts g) (take_before one.told)) one.put;
      replied = inr (sym (one_longer one.told), short);
    }

    few_replies : length (so.replies ++ one.told ∷ []) ≤ MOST_QUERIES
    few_replies = let a = one_longer one.told in omega arith

    refused_last : one.ended ≡ true → IsRun b k m i o old new (served_by stop.WriteFault n)
    refused_last is = let line = one.line in
        run_is b k m i o old new (served_by stop.WriteFault n) so.lines one.line true (so.replies ++ one.told ∷ []) so.are_lines one.answered.is_line.whole
        (took_then i j o (feds so.lines) one.line true false so.took
        (subst (λ (e : Bool). Took j o (cond e one.line (fed one.line)) e false) is one.answered.took))
        (subst (λ ls. FitEach g (so.lines ++ ls) (so.replies ++ one.told ∷ [])) (sym (last_is one.line (one.answered.some is)))
        (fit_last g so.lines one.line so.replies one.told so.fit one.answered.fits))
        refused_serves (is_fault one.line one.answered.is_line.short) (few_replies, inr (inl refl))

    refused_whole : one.ended ≡ false → IsRun b k m i o old new (served_by stop.WriteFault n)
    refused_whole is =
        run_is b k m i o old new (served_by stop.WriteFault n) (so.lines ++ one.line ∷ []) [] false (so.replies ++ one.told ∷ [])
        (all_last IsLine so.lines one.line so.are_lines one.answered.is_line) tt
        (subst (λ (bs : List ℕ). Took i o bs false false) (sym (append-nil (feds (so.lines ++ one.line ∷ [])) ∙ feds_last so.lines one.line))
        (took_then i j o (feds so.lines) (fed one.line) false false so.took
        (subst (λ (e : Bool). Took j o (cond e one.line (fed one.line)) e false) is one.answered.took)))
        (no_more (λ ls. FitEach g ls (so.replies ++ one.told ∷ [])) (so.lines ++ one.line ∷ [])
        (fit_last g so.lines one.line so.replies one.told so.fit one.answered.fits))
        refused_serves (is_fault [] (omega arith)) (few_replies, inl refl)

    pub ends_refused : IsRun b k m i o old new (served_by stop.WriteFault n)
    ends_refused = elim (cases_Bool one.ended) [ inl is ↦ refused_last is | inr is ↦ refused_whole is ]

pub ends_at_queries : (b : Board) (k l : Knowledge) (i j : Input) (old new : Option (List ℕ)) (n : ℕ) → SoFar b k l i j old new n → n ≡ MOST_QUERIES
    → IsRun b k l i j old new (served_by stop.Queries MOST_QUERIES)
ends_at_queries b k l i j old new n so all = run_is b k l i j old new (served_by stop.Queries MOST_QUERIES) so.lines [] false so.replies so.are_lines tt
    (subst (λ (bs : List ℕ). Took i j bs false false) (sym (append-nil (feds so.lines))) so.took)
    (no_more (λ ls. FitEach b.problem ls so.replies) so.lines so.fit) so.serves
    (subst (Appends old new) (sym (due_short b.problem [] so.replies (omega arith))) so.put, sym (so.count ∙ all))
    (so.count ∙ all, omega arith, inl refl)

-- a stop, whatever it is
pub ends_by : (b : Board) (k l m : Knowledge) (i j o : Input) (old mid new : Option (List ℕ)) (n : ℕ) → SoFar b k l i j old mid n → n < MOST_QUERIES
    → (end : ServeEnd) → TellsStop b l m j o mid new end → IsRun b k m i o old new (served_by end n)
ends_by b k l m i j o old mid new n so few stop.Input (took, same, put) = ends_at_input b k l m i j o old mid new n so few took same put
ends_by b k l m i j o old mid new n so few stop.Queries told = absurd told
ends_by b k l m i j o old mid new n so few stop.LongLine (long, put) = ends_long b k l m i j o old mid new n so few long put
ends_by b k l m i j o old mid new n so few stop.ReadFault (line, is_line, took, same, put) =
    ends_at_fault b k l m i j o old mid new n so few line is_line took same put
ends_by b k l m i j o old mid new n so few stop.WriteFault told = elim told [
  | inl one ↦ ends_refused b k l m i j o old mid new n so one few
  | inr long ↦ ends_long_fault b k l m i j o old mid new n so few long.0 long.1
]
