use Rattle.std.proofs.Common.{◌≡◌, ◌∙◌, ap, arith, length-append, ◌∷◌, [], ◌++◌}
use Rattle.ppddl_forms.proofs.Seen.{replicate_next}
use Rattle.ppddl_forms.proofs.variables.give_types.Goals as goal

pub loop-kinds-preserved : goal.loop-kinds-preserved
loop-kinds-preserved c =
    let xs = c.loop-kinds.kinds.items in
    let copied : c.in_ok-clone.field-0 ≡ c.args.given.now = c.in_ok-clone.ensures.cases in
    let pushed : c.push.new.self.items ≡ xs ++ c.args.given.now ∷ [] = c.in_ok-push.ensures.items ∙ ap (λ x. xs ++ x ∷ []) copied in
    record {
      given = rw pushed (replicate_next xs c.args.count c.args.given.now (omega arith) ∙ c.loop-kinds.invariant.given);
      within = rw pushed (omega (arith, length-append xs (c.args.given.now ∷ [])));
    }
