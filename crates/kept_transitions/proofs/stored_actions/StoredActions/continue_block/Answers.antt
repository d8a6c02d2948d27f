use Rattle.std.proofs.Common.{◌≡◌, ◌/◌, ◌<◌, ◌∷◌, ◌++◌, [], ℕ, List, length, get_or, refl, sym, ap, ◌∙◌, subst, arith}
use Rattle.std.proofs.lemmas.List.{length_push, get_or_default}
use Rattle.kept_transitions.specs.declared.unpacked_action.UnpackedAction.{UnpackedAction}
use Rattle.kept_transitions.specs.Unpacked.{unpacked, all_unpacked, AreStored}
use Rattle.kept_transitions.proofs.Unpacked.{length-all_unpacked, all_unpacked-push, are_stored-push}
use Rattle.kept_transitions.proofs.stored_actions.StoredActions.continue_block.Goals as goal

-- the base that is read is that of the block of the next action
same_base : (bases : List ℕ) (n m base : ℕ) → m ≡ n → n / 16 < length bases → base ≡ get_or bases (m / 16) base → get_or bases (n / 16) 0 ≡ base
same_base bases n m base same below read =
    get_or_default bases (n / 16) 0 base below ∙ ap (λ (i : ℕ). get_or bases (i / 16) base) (sym same) ∙ sym read

pub index-base-requires : goal.index-base-requires
index-base-requires c =
    let k = c.self.inside in let long = length-all_unpacked k.bases.items k.stored.items in
    let now = ap length c.self.view_is in let blocks = c.self.invariant.2.blocks in omega arith

pub invariant_of-self : goal.invariant_of-self
invariant_of-self c =
    let k = c.self.inside in let long = length-all_unpacked k.bases.items k.stored.items in
    let now = ap length c.self.view_is in let blocks = c.self.invariant.2.blocks in
    let n = length k.stored.items in let stored = c.in-Some.stored in
    let base = same_base k.bases.items n c.count.result c.index-base.result.now (omega arith) (omega arith) c.index-base.ensures in
    let packed = ap (λ (base : ℕ). unpacked base stored) base ∙ c.in-Some.ensures.packed in
    let longer = length_push k.stored.items stored in let more = ap length c.push_reserved.ensures.items in
    let room = c.self.invariant.0 in let most = c.self.invariant.1 in let free = c.if-len-capacity.false in
    let other = c.push_reserved.ensures.capacity in
    let is = are_stored-push k.bases.items k.bases.items k.stored.items stored c.args.action (λ i below. refl) packed
    (omega arith) c.self.invariant.2.places c.pack.ensures.place in (
      record { within = omega arith; fits = omega arith },
      omega arith,
      subst (AreStored k.bases.items) (sym c.push_reserved.ensures.items) is,
    )

pub returns : goal.returns
returns c =
    let k = c.self.inside in let long = length-all_unpacked k.bases.items k.stored.items in
    let now = ap length c.self.view_is in let blocks = c.self.invariant.2.blocks in
    let n = length k.stored.items in let stored = c.in-Some.stored in
    let base = same_base k.bases.items n c.count.result c.index-base.result.now (omega arith) (omega arith) c.index-base.ensures in
    let packed = ap (λ (base : ℕ). unpacked base stored) base ∙ c.in-Some.ensures.packed in
    ap (all_unpacked k.bases.items) c.push_reserved.ensures.items
    ∙ all_unpacked-push k.bases.items k.bases.items k.stored.items stored c.args.action (λ i below. refl) packed
    ∙ ap (λ (xs : List UnpackedAction). xs ++ c.args.action ∷ []) c.self.view_is
