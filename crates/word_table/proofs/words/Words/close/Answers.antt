use Rattle.std.proofs.Common.{ℕ, sym, subst}
use Rattle.std.specs.Mem.Slots.{slots_items}
use Rattle.atomic_table.specs.Table.{Final, Seen}
use Rattle.ground_model.specs.Ground.{Ground}
use Rattle.bound_core.specs.declared.image.Image.{Image}
use Rattle.word_table.specs.declared.layout.Layout.{Layout}
use Rattle.word_table.specs.rule.Rule.{Holds}
use Rattle.word_table.specs.Seen.{Board, Knowledge}
use Rattle.word_table.specs.Closed.{IsImage, image_in}
use Rattle.word_table.proofs.Calls.{own_view}
use Rattle.word_table.proofs.Ending.{final_closed, final_image}
use Rattle.word_table.proofs.words.Words.close.Goals as goal

pub read_image-image-requires-clause-words : goal.read_image-image-requires-clause-words
read_image-image-requires-clause-words c =
    let i = c.self.invariant in
    let t = c.self.inside.table.shared in
    let seat = c.pass.inside.seat in
    let ws = slots_items c.close_with-closed.result.words in
    let xs = slots_items c.close_with-closed.result.slots in
    let g = c.self.inside.problem.now in
    let l = c.self.inside.layout in
    final_closed g l c.self.inside.rights seat.id seat.me.0 ws xs (own_view _ _ _ _ _ _ _ _ c.self.view_is c.pass.view_is c.requires)
    (subst (λ (n : ℕ). Final (Seen (Holds g l n) seat.id seat.me.0) ws xs) i.5
    (subst (λ (m : Layout). Final (Seen (Holds g m t.key.rights) seat.id seat.me.0) ws xs) i.4
    (subst (λ (h : Ground). Final (Seen (Holds h t.key.layout t.key.rights) seat.id seat.me.0) ws xs) i.3 c.close_with-closed.ensures.values.2)))

pub returns-clause-ok : goal.returns-clause-ok
returns-clause-ok c =
    let i = c.self.invariant in
    let t = c.self.inside.table.shared in
    let seat = c.pass.inside.seat in
    let ws = slots_items c.close_with-closed.result.words in
    let xs = slots_items c.close_with-closed.result.slots in
    let g = c.self.inside.problem.now in
    let l = c.self.inside.layout in
    let made = final_image g l c.self.inside.rights seat.id seat.me.0 ws xs t.table_id (own_view _ _ _ _ _ _ _ _ c.self.view_is c.pass.view_is c.requires)
    (subst (λ (n : ℕ). Final (Seen (Holds g l n) seat.id seat.me.0) ws xs) i.5
    (subst (λ (m : Layout). Final (Seen (Holds g m t.key.rights) seat.id seat.me.0) ws xs) i.4
    (subst (λ (h : Ground). Final (Seen (Holds h t.key.layout t.key.rights) seat.id seat.me.0) ws xs) i.3 c.close_with-closed.ensures.values.2))) in
    subst (λ (x : Image). IsImage c.args.self c.args.pass.view x) (sym c.read_image-image.ensures)
    (subst (λ (k : Knowledge). IsImage c.args.self k.view (image_in g l ws)) c.pass.view_is
    (subst (λ (b : Board). IsImage b seat.me.0 (image_in g l ws)) c.self.view_is made))
