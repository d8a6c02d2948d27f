use Rattle.std.proofs.Common.{ℕ, take, length, sym, ap, ◌∙◌, subst, arith}
use Rattle.std.specs.Int.{div_ceil}
use Rattle.std.proofs.lemmas.List.{length-take}
use Rattle.std.proofs.lemmas.List.Elements.{All-take}
use Rattle.std.specs.List.{All}
use Rattle.kept_transitions.specs.Unpacked.{all_unpacked, HasPlace}
use Rattle.kept_transitions.proofs.Unpacked.{all_unpacked-take}
use Rattle.kept_transitions.proofs.stored_actions.StoredActions.cut.Goals as goal

pub invariant_of-self : goal.invariant_of-self
invariant_of-self c =
    let k = c.self.inside in let n = c.args.count in
    let stored = c.truncate.ensures.items in
    let bases = c.truncate-2.ensures.items ∙ ap (λ (m : ℕ). take m k.bases.items) c.div_ceil.ensures in
    let long = ap length stored ∙ length-take n k.stored.items in
    let blocks = ap length bases ∙ length-take (div_ceil n 16) k.bases.items in
    let was = c.self.invariant.2.blocks in
    let all = (λ j. all_unpacked (bases j) (stored j)) ∙ all_unpacked-take k.bases.items k.stored.items n in
    let room = c.self.invariant.0 in let most = c.truncate.ensures.capacity in (
      record { within = omega arith; fits = omega arith },
      omega arith,
      record {
        blocks = omega arith;
        places = subst (All HasPlace) (sym all) (All-take HasPlace n (all_unpacked k.bases.items k.stored.items) c.self.invariant.2.places);
      },
    )

pub returns : goal.returns
returns c =
    let k = c.self.inside in let n = c.args.count in
    let stored = c.truncate.ensures.items in
    let bases = c.truncate-2.ensures.items ∙ ap (λ (m : ℕ). take m k.bases.items) c.div_ceil.ensures in
    (λ j. all_unpacked (bases j) (stored j)) ∙ all_unpacked-take k.bases.items k.stored.items n
    ∙ ap (take n) c.self.view_is
