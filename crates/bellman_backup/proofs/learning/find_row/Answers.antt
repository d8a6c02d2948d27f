use Rattle.std.proofs.Common.{◌≡◌, false, sym, ap, ◌∙◌}
use Rattle.ground_model.specs.Ground.{Ground}
use Rattle.ground_model.specs.Steps.{ground_process}
use Rattle.state_interner.specs.Interned.{IsIdOf}
use Rattle.kept_transitions.proofs.Growth.{grown_all}
use Rattle.bellman_backup.proofs.Keeping.{keeps_again}
use Rattle.bellman_backup.proofs.KeptRows.{id_later, is_id_off_goal}
use Rattle.bellman_backup.proofs.learning.find_row.Goals as goal

pub returns-then-is_goal-clause-grown : goal.returns-then-is_goal-clause-grown
returns-then-is_goal-clause-grown c = grown_all c.args.kept.now

pub returns-clause-keeps : goal.returns-clause-keeps
returns-clause-keeps c =
    keeps_again c.args.words.now c.args.pass.now c.read_state.new.pass c.expand.new.pass c.read_state.ensures.keeps c.expand.ensures.keeps

pub returns-clause-spare : goal.returns-clause-spare
returns-clause-spare c = λ find. c.expand.ensures.spare find ∙ c.read_state.ensures.spare

pub returns-clause-row : goal.returns-clause-row
returns-clause-row c = λ kept.
    let g = c.args.words.now.problem in let s = c.read_state.new.into in let k = c.read_state.new.pass in
    let off : (ground_process g).goal s ≡ false
    = sym (c.is_goal.ensures ∙ ap (λ (p : Ground). (ground_process p).goal s) c.problem.ensures) ∙ c.if-is_goal.false in
    let own : IsIdOf k.view s c.args.id = is_id_off_goal k.view g s c.args.id c.read_state.ensures.keeps.here.view.problem off
    (c.read_state.ensures.keeps.noted.known c.args.id c.requires.known) c.read_state.ensures.state.has in
    record {
      state = s;
      is = id_later k.view c.expand.new.pass.view c.expand.ensures.keeps.noted s c.args.id own;
      off_goal = off;
      actions = c.expand.ensures.row c.args.id own kept;
    }
