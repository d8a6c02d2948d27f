-- Each action that is not left out has an entry, in the run of an atom that it requires or among those that no atom leads to.
use Rattle.std.proofs.Common.{◌≡◌, ◌+◌, ◌∷◌, ◌++◌, List, [], not, Some, Contains, IfSome, ap, sym, subst, ◌∙◌, length, length-append, arith, get_or, Vec}
use Rattle.std.specs.List.{slice_get}
use Rattle.std.proofs.lemmas.Option.{slice_get_read}
use Rattle.ground_model.specs.declared.action.GroundAction.{GroundAction}
use Rattle.applicable_actions.specs.Index.{AreRuns}
use Rattle.applicable_actions.specs.LeftOut.{index_of, is_left_out}
use Rattle.applicable_actions.specs.Masks.{IsMaskOf}
use Rattle.applicable_actions.proofs.Building.{none_are, put_action, left_out_are}
use Rattle.applicable_actions.proofs.action_index.ActionIndex.new.Goals.{then-not-is_left_out+in_ok-condition+in_ok-put+in_ok-push, else-not-is_left_out}
use Rattle.applicable_actions.proofs.action_index.ActionIndex.new.Goals as goal

pub loop-code-init : goal.loop-code-init
loop-code-init c = record {
  few = omega (arith, ap length c.in_ok-conditions.ensures.items);
  runs_are = subst (λ runs. AreRuns (index_of c.args.problem.now c.args.left_out) c.in_ok-conditions.conditions.items runs 0)
      (sym c.in_ok-runs.ensures)
      (none_are (index_of c.args.problem.now c.args.left_out) c.in_ok-conditions.conditions.items (length c.atoms.result.now));
}

pub loop-code-preserved : goal.loop-code-preserved
loop-code-preserved c =
    let index = index_of c.args.problem.now c.args.left_out in
    let k = c.loop-code.code in
    let a = c.index-actions-code.result in
    let listed = c.actions-actions.ensures.value in
    let here : slice_get index.problem.actions k ≡ Some a
    = slice_get_read index.problem.actions (length c.actions-actions.result.now) k a (ap length listed)
    (omega (arith, c.loop-code-test.true))
    (c.index-actions-code.is ∙ ap (λ (actions : List GroundAction). get_or actions k a) listed) in
    let gone : is_left_out index.left_out k ≡ c.is_left_out.result
    = sym (c.is_left_out.ensures ∙ ap (λ marks. is_left_out marks k) c.as_slice-in-loop-code.ensures) in
    elim c.if-not-is_left_out.branch [
      | then-not-is_left_out+in_ok-condition+in_ok-put+in_ok-push w ↦
          let entry = w.new-then-not-is_left_out.result in
          let masked = w.in_ok-condition.ensures.masked in
          let pushed : c.if-not-is_left_out.conditions.items ≡ c.loop-code.conditions.items ++ a.condition ∷ []
          = ap (λ (v : Vec _ _). v.items) w.conditions-is ∙ w.in_ok-push.ensures.items
          ∙ ap (λ m. c.loop-code.conditions.items ++ m ∷ []) masked in
          record {
            few = omega (arith, ap length pushed, length-append c.loop-code.conditions.items (a.condition ∷ []), c.loop-code.invariant.few);
            runs_are = subst (λ conditions. AreRuns index conditions c.if-not-is_left_out.runs (k + 1)) (sym pushed)
                (subst (λ runs. AreRuns index (c.loop-code.conditions.items ++ a.condition ∷ []) runs (k + 1))
                (sym (w.runs-is ∙ w.in_ok-put.ensures))
                (put_action index c.loop-code.conditions.items c.loop-code.runs k a c.loop-code.invariant.runs_are here
                (ap not (gone ∙ w.if-not-is_left_out.true)) entry w.new-then-not-is_left_out.ensures.code
                (w.new-then-not-is_left_out.ensures.place ∙ w.len-place.ensures ∙ c.loop-code.conditions.ok.0)
                (subst (IsMaskOf (entry.test ∷ []) entry.is_whole) masked w.new-then-not-is_left_out.ensures.head)
                w.in_ok-condition.required w.rarest-atom.result w.in_ok-condition.ensures.atoms
                (subst (λ atoms. IfSome w.rarest-atom.result (Contains atoms)) w.as_slice-then-not-is_left_out-2.ensures
                w.rarest-atom.ensures)));
          }
      | else-not-is_left_out w ↦
          let same : c.if-not-is_left_out.conditions.items ≡ c.loop-code.conditions.items
          = ap (λ (v : Vec _ _). v.items) w.conditions-is in
          record {
            few = omega (arith, ap length same, c.loop-code.invariant.few);
            runs_are = subst (λ conditions. AreRuns index conditions c.if-not-is_left_out.runs (k + 1)) (sym same)
                (subst (λ runs. AreRuns index c.loop-code.conditions.items runs (k + 1)) (sym w.runs-is)
                (left_out_are index c.loop-code.conditions.items c.loop-code.runs k c.loop-code.invariant.runs_are
                (gone ∙ w.if-not-is_left_out.false)));
          }
    ]
