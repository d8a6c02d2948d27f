use Rattle.std.proofs.Common.{◌∙◌}
use Rattle.bellman_backup.specs.Races.{has_all}
use Rattle.trial_workers.proofs.Passes.{same_rights, own_is_ready, raced_stays, raced_is_of}
use Rattle.trial_workers.proofs.trying.race.Goals as goal

pub new-bounds-requires : goal.new-bounds-requires
new-bounds-requires c =
    own_is_ready c.args.words.now c.args.pass.now c.replace-own.result c.args.scratch (c.replace-own.ensures.value ∙ (c.split-copy.ensures.old ∙ same_rights c.args.pass.now)) c.requires.ready

pub returns-clause-stays : goal.returns-clause-stays
returns-clause-stays c =
    let b = c.args.words.now in let own = c.replace-own.ensures.value ∙ (c.split-copy.ensures.old ∙ same_rights c.args.pass.now) in
    raced_stays b c.args.pass.now c.args.scratch c.new-bounds.result.words.now c.new-bounds.result.pass c.new-bounds.result.scratch
    c.trial.new.bounds.words.now c.trial.new.bounds.pass c.trial.new.bounds.scratch c.requires.ready.here
    c.new-bounds.ensures.words (c.new-bounds.ensures.pass ∙ own) c.trial.ensures.later

pub returns-clause-trial : goal.returns-clause-trial
returns-clause-trial c = record {
  from = c.new-bounds.result;
  to = c.trial.new.bounds;
  over = c.new-bounds.ensures.words;
  noted = has_all c.trial.new.bounds.pass.view;
  end = c.trial.result.end;
  is = c.trial.ensures.trial;
  unplaced = c.trial.ensures.unplaced;
}

pub returns-clause-scratch : goal.returns-clause-scratch
returns-clause-scratch c =
    raced_is_of c.args.words.now c.new-bounds.result.words.now c.new-bounds.result.pass c.new-bounds.result.scratch
    c.trial.new.bounds.words.now c.trial.new.bounds.pass c.trial.new.bounds.scratch c.new-bounds.ensures.words c.trial.ensures.later c.trial.new.bounds.ready.scratch
