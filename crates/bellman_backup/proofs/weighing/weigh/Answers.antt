use Rattle.std.proofs.Common.{◌≡◌, ◌∙◌, false, sym, ap, subst, arith}
use Rattle.ground_model.specs.Ground.{Ground}
use Rattle.ground_model.specs.Steps.{ground_process}
use Rattle.applicable_actions.specs.distinct.Enough.{AreEnough}
use Rattle.bellman_backup.specs.Scratches.{ScratchView}
use Rattle.bellman_backup.proofs.Keeping.{keeps_again}
use Rattle.bellman_backup.proofs.Finishing.{has_weighed}
use Rattle.bellman_backup.proofs.weighing.weigh.Goals as goal

pub fill-requires-clause-words : goal.fill-requires-clause-words
fill-requires-clause-words c =
    let long = c.read_state.ensures.fits in let wide = c.read_state.ensures.table.width in
    let within = c.read_state.ensures.table.layout.words_within in omega arith

pub returns-clause-keeps : goal.returns-clause-keeps
returns-clause-keeps c =
    keeps_again c.args.words.now c.args.pass.now c.read_state.new.pass c.best_of-best.new.pass c.read_state.ensures.keeps c.best_of-best.ensures.keeps

pub returns-clause-told : goal.returns-clause-told
returns-clause-told c =
    let b = c.args.words.now in let g = b.problem in let k = c.args.pass.now in let k1 = c.read_state.new.pass in
    let s = c.read_state.new.into in let k2 = c.best_of-best.new.pass in
    let same : c.deref.result.now ≡ g = c.deref.ensures ∙ ap (λ (v : ScratchView). v.problem) c.scratch.view_is ∙ c.requires.problem in
    let off : (ground_process g).goal s ≡ false
    = sym (c.is_goal.ensures ∙ ap (λ (p : Ground). (ground_process p).goal s) c.problem.ensures) ∙ c.if-is_goal.false in
    let codes = c.as_slice.result.now in
    let enough : AreEnough g s codes
    = subst (AreEnough g s) (sym c.as_slice.ensures) (subst (λ (p : Ground). AreEnough p s c.fill.new.into.codes) same c.fill.ensures.codes) in
    let r = c.read_state.ensures in let d = c.best_of-best.ensures in
    has_weighed b k k1 k2 c.args.id s codes c.best_of-best.new.chosen c.best_of-best.result r.table.problem off r.keeps r.state r.loads d.keeps d.best enough
