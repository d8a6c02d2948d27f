use Rattle.std.proofs.Common.{ℕ, List, ◌+◌, ◌++◌, drop, sym, ap, ◌∙◌}
use Rattle.ground_meaning.specs.choices.Numbering.{Numbering}
use Rattle.outcome_dist.specs.conditions.Bindings.{numbering_of}
use Rattle.grounder.specs.starts.Growing.{numbers_each}
use Rattle.grounder.proofs.lemmas.starts.Drawing.{drop_at, numbers_more}
use Rattle.grounder.proofs.starts.items.numbers_each.Goals as goal

pub loop-atom-preserved : goal.loop-atom-preserved
loop-atom-preserved c =
    let n : Numbering = numbering_of c.args.within.now in
    let i : ℕ = c.loop-atom.atom-index in
    let done : List ℕ = c.loop-atom.numbers.items in
    numbers_more n done c.extend_from_slice.new.self.items c.in_ok-found.found.items c.atom-item.result (drop (i + 1) c.args.atoms.now) c.args.atoms.now
    (c.in_ok-extend_from_slice.ensures.items ∙ ap (λ l. done ++ l) c.as_slice.ensures.value) c.in_ok-found.ensures
    (ap (λ l. done ++ numbers_each n l) (sym (drop_at c.args.atoms.now i c.atom-item.result c.atom-item.result c.loop-atom-test.true c.atom-item.is))
    ∙ c.loop-atom.invariant)
