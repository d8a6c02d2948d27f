-- The first word, and those behind it.
use Rattle.std.proofs.Common.{◌≡◌, ℕ, List, [], ◌∷◌, ◌++◌, length, refl, sym, ap, ◌∙◌, arith}
use Rattle.ground_step.specs.Atoms.{words_atoms, true_atoms}
use Rattle.ground_step.proofs.Ranges.{words_atoms-true, words_atoms-cons, words_atoms-nil, word_atoms-zero}
use Rattle.ground_step.proofs.true_bits.true_atoms.Goals as goal

none : (words : List ℕ) → length words ≡ 0 → words ≡ []
none [] long = refl
none (w ∷ words) long = absurd (omega arith)

pub returns-in-None : goal.returns-in-None
returns-in-None c =
    (λ i. word_atoms-zero 0 i ++ words_atoms 64 (none c.words-words.result.now c.in-None.ensures.cases i))
    ∙ words_atoms-nil 64
    ∙ sym (ap true_atoms (sym c.words-words.ensures ∙ none c.words-words.result.now c.in-None.ensures.cases))

pub returns-in-Some : goal.returns-in-Some
returns-in-Some c =
    sym (words_atoms-cons 0 c.in-Some.first.now c.in-Some.others.now)
    ∙ ap (words_atoms 0) (sym c.in-Some.ensures.cases.0 ∙ c.words-words.ensures)
    ∙ words_atoms-true c.args.state.now
