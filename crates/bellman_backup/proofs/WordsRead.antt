-- The words of a state that was read.
use Rattle.std.proofs.Common.{◌≡◌, ℕ, suc, ◌+◌, ◌<◌, nat_eq, List, [], ◌∷◌, length, get_or, slice_set, refl, sym, subst, arith}
use Rattle.std.specs.Prelude.{IsTrue}
use Rattle.std.proofs.lemmas.Bool.{and_from, eq-eqb}
use Rattle.std.proofs.lemmas.List.{get_or-set_same, get_or-set_other}
use mathlib.Core.Logic.{dite}
use native.Mathlib.Decide.{ℕ_discrete}
use Rattle.ground_model.specs.Packed.{State}
use Rattle.word_table.specs.declared.view.notes.StateWord.{StateWord}
use Rattle.word_table.specs.declared.view.View.{View}
use Rattle.word_table.specs.view.Views.{state_word, has_word, has_words, has_state}
use Rattle.word_table.specs.view.Laws.{IsLater}
use Rattle.word_table.specs.rule.Told.{HasOneState}
use Rattle.bellman_backup.specs.Backups.{IsStateOf}

-- the first n words of a state were noted
abbrev pub AreNoted : List StateWord → ℕ → State → ℕ → Type 0
AreNoted ns id s n = (k : ℕ) → k < n → IsTrue (has_word ns id k (get_or s k 0))

words_noted : (ns : List StateWord) (id from : ℕ) (s : State) → ((k : ℕ) → k < length s → IsTrue (has_word ns id (from + k) (get_or s k 0)))
    → IsTrue (has_words ns id from s)
words_noted ns id from [] each = refl
words_noted ns id from (x ∷ xs) each =
    let first : from + 0 ≡ from = omega arith in
    and_from (has_word ns id from x) (has_words ns id (from + 1) xs)
    (subst (λ p. IsTrue (has_word ns id p x)) first (each 0 (omega arith)))
    (words_noted ns id (from + 1) xs (λ k below.
    let next : from + suc k ≡ from + 1 + k = omega arith in
    subst (λ p. IsTrue (has_word ns id p (get_or xs k 0))) next (each (suc k) (omega arith))))

pub has_noted : (v : View) (id : ℕ) (s : State) → length s ≡ v.layout.width → AreNoted v.words id s (length s) → IsTrue (has_state v id s)
has_noted v id s long noted = and_from (nat_eq (length s) v.layout.width) (has_words v.words id 0 s) (eq-eqb (length s) v.layout.width long)
    (words_noted v.words id 0 s (λ k below. let same : k ≡ 0 + k = omega arith in subst (λ p. IsTrue (has_word v.words id p (get_or s k 0))) same (noted k below)))

first_word_is : (ns : List StateWord) (id place x : ℕ) → IsTrue (has_word (state_word id place x ∷ ns) id place x)
first_word_is ns id place x = grind (arith, eq-eqb id id refl, eq-eqb place place refl, eq-eqb x x refl)

later_word_is : (ns : List StateWord) (n : StateWord) (id place x : ℕ) → IsTrue (has_word ns id place x) → IsTrue (has_word (n ∷ ns) id place x)
later_word_is ns n id place x has = grind (arith, has)

-- one word more
pub noted_more : (ns : List StateWord) (id : ℕ) (s : State) (place x : ℕ) → place < length s → AreNoted ns id s place
    → AreNoted (state_word id place x ∷ ns) id (slice_set s place x) (place + 1)
noted_more ns id s place x inside noted k below = dite (ℕ_discrete k place)
    (λ here. subst (λ p. IsTrue (has_word (state_word id place x ∷ ns) id p (get_or (slice_set s place x) p 0))) (sym here)
    (subst (λ y. IsTrue (has_word (state_word id place x ∷ ns) id place y)) (sym (get_or-set_same s place x 0 inside)) (first_word_is ns id place x)))
    (λ other. subst (λ y. IsTrue (has_word (state_word id place x ∷ ns) id k y)) (sym (get_or-set_other s place k x 0 other))
    (later_word_is ns (state_word id place x) id k (get_or s k 0) (noted k (omega arith))))

pub state_is_read : (v w : View) (id : ℕ) (s : State) → IsLater v w → HasOneState w → IsTrue (has_state w id s) → IsStateOf v w id s
state_is_read v w id s later one has = record { has = has; one = λ t had. one id t s (later.states id t had) has }
