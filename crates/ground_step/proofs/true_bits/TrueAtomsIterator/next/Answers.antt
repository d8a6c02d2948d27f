-- Words without a bit are passed over, and the lowest bit of the next is taken.
use Rattle.std.proofs.Common.{◌≡◌, ℕ, ◌+◌, List, [], ◌∷◌, ◌++◌, length, refl, sym, ap, ◌∙◌, arith, rules}
use Rattle.ground_step.specs.Atoms.{word_atoms, words_atoms}
use Rattle.ground_step.proofs.Ranges.{words_atoms-cons, words_atoms-nil, word_atoms-zero, word_atoms-lowest}
use Rattle.ground_step.proofs.true_bits.TrueAtomsIterator.next.Goals as goal

none : (words : List ℕ) → length words ≡ 0 → words ≡ []
none [] long = refl
none (w ∷ words) long = absurd (omega arith)

pub loop-self-preserved : goal.loop-self-preserved
loop-self-preserved c =
    let now = c.loop-self.self-inside in
    let more : now.words.now ≡ c.in_ok-first.first.now ∷ c.in_ok-first.others.now = c.in_ok-first.ensures.cases.0 in
    record {
      numbers_fit = omega (arith, c.loop-self.invariant.numbers_fit, ap length more);
      left = sym (words_atoms-cons (now.base + 64) c.in_ok-first.first.now c.in_ok-first.others.now)
          ∙ ap (words_atoms (now.base + 64)) (sym more)
          ∙ sym (ap (λ qs. qs ++ words_atoms (now.base + 64) now.words.now)
          (ap (word_atoms now.base) c.loop-self-test.true ∙ word_atoms-zero now.base))
          ∙ c.loop-self.invariant.left;
    }

pub returns-in_err-first-clause-steps : goal.returns-in_err-first-clause-steps
returns-in_err-first-clause-steps c =
    let now = c.loop-self.self-inside in
    let nothing : word_atoms now.base now.word ++ words_atoms (now.base + 64) now.words.now ≡ [] =
    (λ i. word_atoms now.base (c.loop-self-test.true i) ++ words_atoms (now.base + 64) (none now.words.now c.in_err-first.ensures.cases i))
    ∙ (λ i. word_atoms-zero now.base i ++ words_atoms-nil (now.base + 64) i) in
    rw c.from_residual.ensures (sym c.self.view_is ∙ sym c.loop-self.invariant.left ∙ nothing, nothing)

pub returns-clause-steps : goal.returns-clause-steps
returns-clause-steps c =
    let now = c.loop-self.self-inside in
    sym c.self.view_is ∙ sym c.loop-self.invariant.left
    ∙ ap (λ qs. qs ++ words_atoms (now.base + 64) now.words.now)
    (word_atoms-lowest now.base now.word (omega arith) (omega arith))

pub returns-clause-goes : goal.returns-clause-goes
returns-clause-goes c =
    let now = c.loop-self.self-inside in
    let step = sym c.self.view_is ∙ sym c.loop-self.invariant.left
    ∙ ap (λ qs. qs ++ words_atoms (now.base + 64) now.words.now)
    (word_atoms-lowest now.base now.word (omega arith) (omega arith)) in
    let shorter = ap length step in search rules
