use Rattle.std.proofs.Common.{◌≡◌, Some, sym, ap, ◌∙◌, subst}
use Rattle.std.specs.Arc.{arc_value}
use Rattle.ground_model.specs.Ground.{Ground}
use Rattle.word_table.specs.view.Laws.{HasMore}
use Rattle.word_table.specs.Seen.{Knowledge}
use Rattle.kept_transitions.specs.Rows.{IsKept, Transitions}
use Rattle.bellman_backup.specs.Scratches.{ScratchView, AreBuffers}
use Rattle.bellman_backup.specs.Kept.{IsKeptState, IsKeeping}
use Rattle.bellman_backup.specs.Places.{near_of}
use Rattle.bellman_backup.proofs.KeptRows.{keeping_more, keeping_later}
use Rattle.bellman_backup.proofs.learning.learn.Goals as goal

pub invariant_of-scratch : goal.invariant_of-scratch
invariant_of-scratch c =
    let b = c.args.words.now in let g : Ground = arc_value c.scratch.inside.index in
    let old = c.scratch.inside.witness in let k = c.find_row-row.new.pass in let w = c.with_news.result in
    let t = c.scratch.inside.kept in let u = c.find_row-row.new.kept in let row = c.find_row-row.result in
    let same : g ≡ b.problem = ap (λ (v : ScratchView). v.problem) c.scratch.view_is ∙ c.requires.scratch.problem in
    let stays : (o : Knowledge) → old ≡ Some o → HasMore o.view w.view = λ o is. c.with_news.ensures.stays o (c.take-witness.ensures.value ∙ is) in
    let new : IsKept row → IsKeptState g k.view c.args.id u row = λ kept. subst (λ (p : Ground). IsKeptState p k.view c.args.id u row) (sym same) (c.find_row-row.ensures.row kept) in (
      subst (λ (p : Ground). AreBuffers p c.find_row-row.new.codes c.find_row-row.new.state c.find_row-row.new.next) c.deref.ensures c.find_row-row.ensures.buffers,
      subst (λ (x : Transitions). IsKeeping g (Some w) x) (sym c.set_row.ensures)
          (keeping_more g old k w t u c.args.id row c.find_row-row.ensures.grown c.scratch.invariant.1 stays c.with_news.ensures.heard new),
      c.scratch.invariant.2,
      keeping_later g old w (near_of c.scratch.inside.near) stays c.scratch.invariant.3,
    )
