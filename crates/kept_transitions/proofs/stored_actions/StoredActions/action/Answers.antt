use Rattle.std.proofs.Common.{Some, List, length, sym, ap, ◌∙◌, subst, arith}
use Rattle.std.specs.List.{slice_get}
use Rattle.std.proofs.lemmas.Option.{slice_get-get_or}
use Rattle.kept_transitions.specs.declared.unpacked_action.UnpackedAction.{UnpackedAction}
use Rattle.kept_transitions.specs.Unpacked.{unpacked, all_unpacked, HasPlace}
use Rattle.kept_transitions.proofs.Unpacked.{length-all_unpacked, read_unpacked}
use Rattle.kept_transitions.proofs.stored_actions.StoredActions.action.Goals as goal

pub index-base-requires : goal.index-base-requires
index-base-requires c =
    let k = c.self.inside in let long = length-all_unpacked k.bases.items k.stored.items in
    let same = ap length c.self.view_is in let blocks = c.self.invariant.2.blocks in omega arith

pub index-requires : goal.index-requires
index-requires c =
    let k = c.self.inside in let long = length-all_unpacked k.bases.items k.stored.items in
    let same = ap length c.self.view_is in omega arith

pub unpack-requires : goal.unpack-requires
unpack-requires c =
    let k = c.self.inside in let long = length-all_unpacked k.bases.items k.stored.items in
    let same = ap length c.self.view_is in let blocks = c.self.invariant.2.blocks in
    let action = unpacked c.index-base.result.now c.index.result.now in
    let read = read_unpacked k.bases.items k.stored.items c.args.index c.index-base.result.now c.index.result.now action
    (omega arith) (omega arith) c.index-base.ensures c.index.ensures in
    subst HasPlace read (c.self.invariant.2.places c.args.index action (omega arith))

pub returns : goal.returns
returns c =
    let k = c.self.inside in let long = length-all_unpacked k.bases.items k.stored.items in
    let same = ap length c.self.view_is in let blocks = c.self.invariant.2.blocks in
    let action = unpacked c.index-base.result.now c.index.result.now in
    let read = read_unpacked k.bases.items k.stored.items c.args.index c.index-base.result.now c.index.result.now action
    (omega arith) (omega arith) c.index-base.ensures c.index.ensures in
    ap (λ (xs : List UnpackedAction). slice_get xs c.args.index) (sym c.self.view_is)
    ∙ slice_get-get_or (all_unpacked k.bases.items k.stored.items) c.args.index action (omega arith)
    ∙ ap Some (read ∙ sym c.unpack.ensures)
