-- Each kind of step notes more, and what is written or given is had.
use Rattle.std.proofs.Common.{◌≡◌, ℕ, zero, suc, ◌+◌, ◌<◌, true, ◌&&◌, nat_eq, List, [], ◌∷◌, ◌++◌, length, Some, refl, sym, ap, ◌∙◌, subst, arith}
use Rattle.std.specs.Prelude.{Contains, IsTrue}
use Rattle.std.specs.Option.{unwrap_or}
use Rattle.std.specs.List.{slice_get}
use Rattle.std.proofs.lemmas.Bool.{eq-eqb}
use Rattle.std.proofs.lemmas.List.{ext_get_or}
use Rattle.std.proofs.lemmas.List.Elements.{Contains-append_left, Contains-append_right}
use Rattle.std.proofs.lemmas.List.Folds.{list_any-append}
use Rattle.std.proofs.lemmas.List.FromFn.{length-range_with_len, get_or-range_with_len, length-map-range_with_len, get_or-map-range_with_len}
use Rattle.std.proofs.lemmas.Option.{slice_get_within}
use Rattle.ground_model.specs.Packed.{State}
use Rattle.word_table.specs.declared.view.notes.StateWord.{StateWord}
use Rattle.word_table.specs.declared.view.View.{View}
use Rattle.word_table.specs.view.Views.{state_word, is_word, has_word, has_words, knows, written_at, drafted, IsWritten, number, held}
use Rattle.word_table.specs.view.Steps.{words_of, words_of_all, with_published}
use Rattle.word_table.specs.view.Laws as laws
use Rattle.word_table.proofs.lemmas.view.Lists.{is_first, is_later, both, either_first, either_second}
use Rattle.word_table.proofs.lemmas.view.Seen.{has_words_more}

pub has_word_left : (ns ms : List StateWord) (id place x : ℕ) → IsTrue (has_word ns id place x) → IsTrue (has_word (ns ++ ms) id place x)
has_word_left ns ms id place x has =
    list_any-append (is_word id place x) ns ms ∙ either_first (has_word ns id place x) (has_word ms id place x) has

pub has_word_right : (ns ms : List StateWord) (id place x : ℕ) → IsTrue (has_word ms id place x) → IsTrue (has_word (ns ++ ms) id place x)
has_word_right ns ms id place x has =
    list_any-append (is_word id place x) ns ms ∙ either_second (has_word ns id place x) (has_word ms id place x) has

-- ---- what is noted

same : {X : Type 0} (xs : List X) (x : X) → Contains xs x → Contains xs x
same xs x there = there

same_words : (ns : List StateWord) (id place x : ℕ) → IsTrue (has_word ns id place x) → IsTrue (has_word ns id place x)
same_words ns id place x has = has

pub noted_is_more : laws.NotedIsMore
noted_is_more v = record {
  rights = record { problem = refl; layout = refl; known = same v.known; held = same v.held; words = same_words v.words; lower = same v.lower; upper = same v.upper };
  richer = λ w. record { problem = refl; layout = refl; known = same v.known; held = same v.held; words = same_words v.words; lower = same v.lower; upper = same v.upper };
  lower_load = λ id n. record { problem = refl; layout = refl; known = same v.known; held = same v.held; words = same_words v.words; lower = λ m. is_later (number id n) m v.lower; upper = same v.upper };
  upper_load = λ id n. record { problem = refl; layout = refl; known = same v.known; held = same v.held; words = same_words v.words; lower = same v.lower; upper = λ m. is_later (number id n) m v.upper };
  lower = λ id n. record { problem = refl; layout = refl; known = same v.known; held = same v.held; words = same_words v.words; lower = λ m. is_later (number id n) m v.lower; upper = same v.upper };
  upper = λ id n. record { problem = refl; layout = refl; known = same v.known; held = same v.held; words = same_words v.words; lower = same v.lower; upper = λ m. is_later (number id n) m v.upper };
  count = λ n. record { problem = refl; layout = refl; known = same v.known; held = same v.held; words = same_words v.words; lower = same v.lower; upper = same v.upper };
  spare = λ id. record { problem = refl; layout = refl; known = same v.known; held = same v.held; words = same_words v.words; lower = same v.lower; upper = same v.upper };
  written = λ place x. record { problem = refl; layout = refl; known = same v.known; held = same v.held; words = same_words v.words; lower = same v.lower; upper = same v.upper };
  held = λ bucket id. record { problem = refl; layout = refl; known = λ i. is_later id i v.known; held = λ n. is_later (held bucket id) n v.held; words = same_words v.words; lower = same v.lower; upper = same v.upper };
  empty = λ bucket. record { problem = refl; layout = refl; known = same v.known; held = same v.held; words = same_words v.words; lower = same v.lower; upper = same v.upper };
  state_word = λ id place x. record { problem = refl; layout = refl; known = same v.known; held = same v.held; words = λ i p y. either_second (is_word i p y (state_word id place x)) (has_word v.words i p y); lower = same v.lower; upper = same v.upper };
  published = λ bucket. let id : ℕ = unwrap_or v.spare 0 in record { problem = refl; layout = refl; known = λ i. is_later id i v.known; held = λ n. is_later (held bucket id) n v.held; words = has_word_right (words_of id 0 (drafted v)) v.words; lower = same v.lower; upper = same v.upper };
}

pub united_is_more : laws.UnitedIsMore
united_is_more v w problem layout = (
  record { problem = refl; layout = refl; known = Contains-append_left v.known w.known; held = Contains-append_left v.held w.held; words = has_word_left v.words w.words; lower = Contains-append_left v.lower w.lower; upper = Contains-append_left v.upper w.upper },
  record { problem = sym problem; layout = sym layout; known = Contains-append_right v.known w.known; held = Contains-append_right v.held w.held; words = has_word_right v.words w.words; lower = Contains-append_right v.lower w.lower; upper = Contains-append_right v.upper w.upper },
)

-- ---- what is had

own_word : (id place x : ℕ) → is_word id place x (state_word id place x) ≡ true
own_word id place x = both (nat_eq id id && nat_eq place place) (nat_eq x x)
    (both (nat_eq id id) (nat_eq place place) (eq-eqb id id refl) (eq-eqb place place refl)) (eq-eqb x x refl)

own_words : (id place : ℕ) (s : State) → IsTrue (has_words (words_of id place s) id place s)
own_words id place [] = refl
own_words id place (x ∷ xs) =
    let rest : List StateWord = words_of id (place + 1) xs in
    let all : List StateWord = state_word id place x ∷ rest in
    both (has_word all id place x) (has_words all id (place + 1) xs)
    (either_first (is_word id place x (state_word id place x)) (has_word rest id place x) (own_word id place x))
    (has_words_more rest all id (λ p y. either_second (is_word id p y (state_word id place x)) (has_word rest id p y)) (place + 1) xs (own_words id (place + 1) xs))

given_words : (base : ℕ) (states : List State) (i : ℕ) (s : State) → slice_get states i ≡ Some s
    → IsTrue (has_words (words_of_all base states) (base + i) 0 s)
given_words base [] i s there = absurd cc
given_words base (t ∷ states) zero s there =
    let first : t ≡ s = cc in
    let at : base ≡ base + 0 = omega arith in
    subst (λ n. IsTrue (has_words (words_of_all base (t ∷ states)) n 0 s)) at
    (subst (λ u. IsTrue (has_words (words_of_all base (t ∷ states)) base 0 u)) first
    (has_words_more (words_of base 0 t) (words_of_all base (t ∷ states)) base
    (has_word_left (words_of base 0 t) (words_of_all (base + 1) states) base) 0 t (own_words base 0 t)))
given_words base (t ∷ states) (suc i) s there =
    let at : base + 1 + i ≡ base + suc i = omega arith in
    subst (λ n. IsTrue (has_words (words_of_all base (t ∷ states)) n 0 s)) at
    (has_words_more (words_of_all (base + 1) states) (words_of_all base (t ∷ states)) (base + 1 + i)
    (has_word_right (words_of base 0 t) (words_of_all (base + 1) states) (base + 1 + i)) 0 s (given_words (base + 1) states i s there))

pub given_is_had : laws.GivenIsHad
given_is_had g l rights states id s there wide =
    let below : id < length states = slice_get_within states id s there in
    let at : 0 + id ≡ id = omega arith in (
      (id, omega (arith, length-range_with_len 0 (length states)), get_or-range_with_len 0 (length states) id id below ∙ at),
      both (nat_eq (length s) l.width) (has_words (words_of_all 0 states) id 0 s) (eq-eqb (length s) l.width wide)
          (subst (λ n. IsTrue (has_words (words_of_all 0 states) n 0 s)) at (given_words 0 states id s there)),
    )

pub drafted_is : (v : View) (s : State) → IsWritten v s → drafted v ≡ s
drafted_is v s whole =
    let f : ℕ → ℕ = λ place. unwrap_or (written_at v.draft place) 0 in
    let wide : length (drafted v) ≡ v.layout.width = length-map-range_with_len f 0 v.layout.width in
    let same_length = whole.whole in
    ext_get_or 0 (drafted v) s (wide ∙ sym whole.whole)
    (λ i below. get_or-map-range_with_len f 0 v.layout.width i i 0 (omega arith) (omega arith) ∙ ap (λ o. unwrap_or o 0) (whole.words i (omega arith)))

pub draft_is_had : laws.DraftIsHad
draft_is_had v s id bucket whole spare =
    let is : drafted v ≡ s = drafted_is v s whole in
    let own : unwrap_or v.spare 0 ≡ id = ap (λ o. unwrap_or o 0) spare in
    let n : ℕ = unwrap_or v.spare 0 in
    let all : List StateWord = words_of n 0 (drafted v) ++ v.words in (
      is,
      subst (λ i. knows (with_published v bucket) i) own (is_first n v.known),
      both (nat_eq (length s) v.layout.width) (has_words all id 0 s) (eq-eqb (length s) v.layout.width whole.whole)
          (subst (λ i. IsTrue (has_words all i 0 s)) own (subst (λ u. IsTrue (has_words all n 0 u)) is
          (has_words_more (words_of n 0 (drafted v)) all n (has_word_left (words_of n 0 (drafted v)) v.words n) 0 (drafted v) (own_words n 0 (drafted v))))),
    )
