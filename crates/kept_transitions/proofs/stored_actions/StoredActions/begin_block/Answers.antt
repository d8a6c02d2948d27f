use Rattle.std.proofs.Common.{◌≡◌, ◌*◌, ◌/◌, ◌<◌, ◌∷◌, ◌++◌, [], ℕ, List, length, get_or, sym, ap, ◌∙◌, subst, arith}
use Rattle.std.proofs.lemmas.List.{length_push, get_or_append_left, get_or_push}
use Rattle.kept_transitions.specs.declared.unpacked_action.UnpackedAction.{UnpackedAction}
use Rattle.kept_transitions.specs.Unpacked.{unpacked, all_unpacked, AreStored}
use Rattle.kept_transitions.proofs.Unpacked.{length-all_unpacked, all_unpacked-push, are_stored-push}
use Rattle.kept_transitions.proofs.stored_actions.StoredActions.begin_block.Goals as goal

-- the base of a block that begins is read behind those of full blocks
module _ (bases : List ℕ) (n first : ℕ) (full : 16 * length bases ≡ n) where
  same : (i : ℕ) → i < n → get_or (bases ++ first ∷ []) (i / 16) 0 ≡ get_or bases (i / 16) 0
  same i below = get_or_append_left bases (first ∷ []) 0 (i / 16) (omega arith)

  last : get_or (bases ++ first ∷ []) (n / 16) 0 ≡ first
  last = get_or_push bases first 0 (n / 16) (omega arith)

pub push_reserved-requires : goal.push_reserved-requires
push_reserved-requires c =
    let k = c.self.inside in let long = length-all_unpacked k.bases.items k.stored.items in
    let now = ap length c.self.view_is in let blocks = c.self.invariant.2.blocks in let most = c.self.invariant.1 in omega arith

pub invariant_of-self : goal.invariant_of-self
invariant_of-self c =
    let k = c.self.inside in let long = length-all_unpacked k.bases.items k.stored.items in
    let now = ap length c.self.view_is in let blocks = c.self.invariant.2.blocks in
    let n = length k.stored.items in let first = c.args.action.first in let stored = c.in-Some.stored in
    let full : 16 * length k.bases.items ≡ n = omega arith in
    let packed = ap (λ (base : ℕ). unpacked base stored) (last k.bases.items n first full) ∙ c.in-Some.ensures.packed in
    let longer = length_push k.bases.items first in let longest = length_push k.stored.items stored in
    let more = ap length c.push_reserved-2.ensures.items in
    let room = c.self.invariant.0 in let most = c.self.invariant.1 in let free = c.if-len-capacity.false in
    let one = c.push_reserved.ensures.capacity in let other = c.push_reserved-2.ensures.capacity in
    let is = are_stored-push k.bases.items (k.bases.items ++ first ∷ []) k.stored.items stored c.args.action
    (same k.bases.items n first full) packed (omega arith) c.self.invariant.2.places c.pack.ensures.place in (
      record { within = omega arith; fits = omega arith },
      omega arith,
      subst (λ (bs : List ℕ). AreStored bs c.push_reserved-2.new.self.items) (sym c.push_reserved.ensures.items)
          (subst (AreStored (k.bases.items ++ first ∷ [])) (sym c.push_reserved-2.ensures.items) is),
    )

pub returns : goal.returns
returns c =
    let k = c.self.inside in let long = length-all_unpacked k.bases.items k.stored.items in
    let now = ap length c.self.view_is in let blocks = c.self.invariant.2.blocks in
    let n = length k.stored.items in let first = c.args.action.first in let stored = c.in-Some.stored in
    let full : 16 * length k.bases.items ≡ n = omega arith in
    let packed = ap (λ (base : ℕ). unpacked base stored) (last k.bases.items n first full) ∙ c.in-Some.ensures.packed in
    (λ j. all_unpacked (c.push_reserved.ensures.items j) (c.push_reserved-2.ensures.items j))
    ∙ all_unpacked-push k.bases.items (k.bases.items ++ first ∷ []) k.stored.items stored c.args.action
    (same k.bases.items n first full) packed
    ∙ ap (λ (xs : List UnpackedAction). xs ++ c.args.action ∷ []) c.self.view_is
