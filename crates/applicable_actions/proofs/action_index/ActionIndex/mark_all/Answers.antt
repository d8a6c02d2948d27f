-- The runs of the true atoms are visited, and those entries that no atom leads to.
use Rattle.std.proofs.Common.{ap, subst, sym, ◌∙◌, length}
use Rattle.std.specs.List.{All}
use Rattle.ground_step.specs.Atoms.{true_atoms}
use Rattle.ground_step.specs.Edits.{with_atoms}
use Rattle.applicable_actions.specs.Index.{HasPlace, open_codes, IsIndex}
use Rattle.applicable_actions.specs.Runs.{run_at}
use Rattle.applicable_actions.proofs.Marks.{seen_index, have_places, visits, visit_more, visits_end, all_marked}
use Rattle.applicable_actions.proofs.action_index.ActionIndex.mark_all.Goals as goal

pub mark-requires : goal.mark-requires
mark-requires c =
    let is : IsIndex c.args.self.now c.as_slice-conditions.result.now c.self.inside.runs = seen_index c.self.view_is c.as_slice-conditions.ensures c.self.invariant in
    subst (All (HasPlace c.as_slice-conditions.result.now)) (sym c.always.ensures)
    (have_places c.args.self.now c.args.state.now c.as_slice-conditions.result.now c.self.inside.runs.always is.always_are)

pub mark-requires-in-loop-atom : goal.mark-requires-in-loop-atom
mark-requires-in-loop-atom c =
    let is : IsIndex c.args.self.now c.as_slice-conditions.result.now c.self.inside.runs = seen_index c.self.view_is c.as_slice-conditions.ensures c.self.invariant in
    subst (All (HasPlace c.as_slice-conditions.result.now)) (sym c.run.ensures)
    (have_places c.args.self.now c.args.state.now c.as_slice-conditions.result.now (run_at c.self.inside.runs c.in-Some.atom)
    (is.runs_are c.in-Some.atom))

pub loop-atom-preserved : goal.loop-atom-preserved
loop-atom-preserved c =
    let is : IsIndex c.args.self.now c.as_slice-conditions.result.now c.self.inside.runs = seen_index c.self.view_is c.as_slice-conditions.ensures c.self.invariant in record {
      callable = tt;
      finite = tt;
      marked = visit_more c.args.self.now c.args.state.now c.as_slice-conditions.result.now c.self.inside.runs is
          c.loop-atom.marks c.mark-in-loop-atom.new.marks c.run.result.now c.in-Some.atom c.next.new.self c.loop-atom.atom-iterator
          c.mark-in-loop-atom.ensures c.run.ensures c.in-Some.ensures.steps
          ∙ c.loop-atom.invariant.marked;
    }

pub returns : goal.returns
returns c =
    let index = c.args.self.now in
    let s = c.args.state.now in
    let conditions = c.as_slice-conditions.result.now in
    let runs = c.self.inside.runs in
    let is : IsIndex index conditions runs = seen_index c.self.view_is c.as_slice-conditions.ensures c.self.invariant in
    visits_end index s conditions runs is c.loop-atom.marks c.mark.new.marks c.loop-atom.atom-iterator
    c.in-None.ensures.steps.0 c.loop-atom.invariant.marked
    ∙ ap (λ marks. with_atoms marks (visits index s runs (true_atoms s)))
    (c.mark.ensures
    ∙ (λ i. with_atoms (c.make_all_false.ensures i) (open_codes conditions s (c.always.ensures i))))
    ∙ all_marked index s conditions runs is (length c.args.marks.now)
