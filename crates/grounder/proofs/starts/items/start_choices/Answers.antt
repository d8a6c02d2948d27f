use Rattle.std.proofs.Common.{ℕ, List, ◌+◌, ◌∷◌, drop}
use Rattle.ppddl_model.specs.declared.tree.InitItem.{InitItem}
use Rattle.ground_meaning.specs.choices.Numbering.{Numbering}
use Rattle.outcome_dist.specs.conditions.Bindings.{numbering_of}
use Rattle.grounder.proofs.lemmas.starts.Drawing.{drop_at}
use Rattle.grounder.proofs.lemmas.starts.Walking.{walk_start, walk_list, walk_one}
use Rattle.grounder.proofs.starts.items.start_choices.Goals as goal

pub loop-item-init : goal.loop-item-init
loop-item-init c = walk_start (numbering_of c.args.within.now) c.in_ok-start.start c.args.items.now c.in_ok-start.ensures

pub loop-item-preserved : goal.loop-item-preserved
loop-item-preserved c =
    let n : Numbering = numbering_of c.args.within.now in
    let x : InitItem = c.item-item.result in
    let i : ℕ = c.loop-item.item-index in
    let items : List InitItem = c.args.items.now in
    walk_one n c.loop-item.grown c.in_ok-grown.grown x (drop (i + 1) items) items
    (walk_list n c.loop-item.grown (drop i items) (x ∷ drop (i + 1) items) items
    (drop_at items i x x c.loop-item-test.true c.item-item.is) c.loop-item.invariant)
    c.in_ok-grown.ensures.put c.in_ok-grown.ensures.few
