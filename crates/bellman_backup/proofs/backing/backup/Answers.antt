use Rattle.bellman_backup.proofs.Finishing.{narrows_at_goal, backed_at_goal, choices_at_goal, known_at_goal, settled_keeps, settled_narrows, settled_places, settled_choices, settled_known, settled_backed}
use Rattle.bellman_backup.proofs.Placing.{places_at_goal}
use Rattle.bellman_backup.proofs.backing.backup.Goals as goal

pub settle-requires-clause-can : goal.settle-requires-clause-can
settle-requires-clause-can c = record {
  before = c.args.pass.now;
  here = c.requires.here;
  known = c.requires.known;
  keeps = c.in-Some.ensures.keeps;
  last = c.weigh_kept.new.scratch.last;
  weighed = c.in-Some.ensures.told;
}

pub returns-in-None-clause-choices : goal.returns-in-None-clause-choices
returns-in-None-clause-choices c = choices_at_goal c.args.words.now c.args.pass.now c.weigh_kept.new.pass c.args.id c.weigh_kept.new.scratch.last c.in-None.ensures.keeps.here c.in-None.ensures.told

pub returns-in-None-clause-known : goal.returns-in-None-clause-known
returns-in-None-clause-known c = known_at_goal c.args.words.now c.args.pass.now c.weigh_kept.new.pass c.args.id c.weigh_kept.new.scratch.last c.in-None.ensures.keeps.here c.in-None.ensures.told

pub returns-in-None-clause-backed : goal.returns-in-None-clause-backed
returns-in-None-clause-backed c = backed_at_goal c.args.words.now c.args.pass.now c.weigh_kept.new.pass c.args.id c.weigh_kept.new.scratch.last c.in-None.ensures.keeps.here c.in-None.ensures.told

pub returns-in-None-clause-narrows : goal.returns-in-None-clause-narrows
returns-in-None-clause-narrows c = narrows_at_goal c.args.words.now c.args.pass.now c.weigh_kept.new.pass c.args.id c.weigh_kept.new.scratch.last c.in-None.ensures.keeps.here c.in-None.ensures.told

pub returns-in-Some-clause-keeps : goal.returns-in-Some-clause-keeps
returns-in-Some-clause-keeps c = settled_keeps c.args.words.now c.args.pass.now c.weigh_kept.new.pass c.settle.new.pass c.args.id c.weigh_kept.new.scratch.last c.in-Some.best.lower c.in-Some.best.word
    c.requires.here c.requires.known c.in-Some.ensures.keeps c.in-Some.ensures.told c.settle.ensures.one c.settle.ensures.narrowed

pub returns-in-Some-clause-choices : goal.returns-in-Some-clause-choices
returns-in-Some-clause-choices c = settled_choices c.args.words.now c.args.pass.now c.weigh_kept.new.pass c.settle.new.pass c.args.id c.weigh_kept.new.scratch.last c.in-Some.best.lower c.in-Some.best.word
    c.requires.here c.requires.known c.in-Some.ensures.keeps c.in-Some.ensures.told c.settle.ensures.one c.settle.ensures.narrowed

pub returns-in-Some-clause-known : goal.returns-in-Some-clause-known
returns-in-Some-clause-known c = settled_known c.args.words.now c.args.pass.now c.weigh_kept.new.pass c.settle.new.pass c.args.id c.weigh_kept.new.scratch.last c.in-Some.best.lower c.in-Some.best.word
    c.requires.here c.requires.known c.in-Some.ensures.keeps c.in-Some.ensures.told c.settle.ensures.one c.settle.ensures.narrowed

pub returns-in-Some-clause-backed : goal.returns-in-Some-clause-backed
returns-in-Some-clause-backed c = settled_backed c.args.words.now c.args.pass.now c.weigh_kept.new.pass c.settle.new.pass c.args.id c.weigh_kept.new.scratch.last c.in-Some.best.lower c.in-Some.best.word
    c.requires.here c.requires.known c.in-Some.ensures.keeps c.in-Some.ensures.told c.settle.ensures.one c.settle.ensures.narrowed

pub returns-in-Some-clause-narrows : goal.returns-in-Some-clause-narrows
returns-in-Some-clause-narrows c = settled_narrows c.args.words.now c.args.pass.now c.weigh_kept.new.pass c.settle.new.pass c.args.id c.weigh_kept.new.scratch.last c.in-Some.best.lower c.in-Some.best.word
    c.requires.here c.requires.known c.in-Some.ensures.keeps c.in-Some.ensures.told c.settle.ensures.one c.settle.ensures.narrowed c.enough_laws.ensures.upper

pub returns-in-None-clause-places : goal.returns-in-None-clause-places
returns-in-None-clause-places c = places_at_goal c.args.words.now c.args.pass.now c.weigh_kept.new.pass c.args.id c.weigh_kept.new.scratch.last c.in-None.ensures.told

pub returns-in-Some-clause-places : goal.returns-in-Some-clause-places
returns-in-Some-clause-places c = settled_places c.args.words.now c.args.pass.now c.weigh_kept.new.pass c.settle.new.pass c.args.id c.weigh_kept.new.scratch.last c.in-Some.best.lower c.in-Some.best.word
    c.requires.here c.requires.known c.in-Some.ensures.keeps c.in-Some.ensures.told c.settle.ensures.one c.settle.ensures.narrowed c.enough_laws.ensures.successors
