-- Where each part has a mark, none is left out.
use Rattle.std.proofs.Common.{refl, take, length, arith}
use Rattle.std.proofs.lemmas.List.{length-take}
use Rattle.ground_step.proofs.ActingParts.{all_act}
use Rattle.ground_step.proofs.steps.apply.Goals as goal

pub apply_acting-requires-clause-acting : goal.apply_acting-requires-clause-acting
apply_acting-requires-clause-acting c =
    let long = length-take 64 c.args.choice.now.guarded in
    all_act 64 18446744073709551615 (take 64 c.args.choice.now.guarded) refl (omega arith)
