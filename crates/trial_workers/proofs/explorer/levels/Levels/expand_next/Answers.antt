-- The levels grow by the successors of one state more.
use Rattle.std.proofs.Common.{◌≤◌, ◌<◌, length, arith}
use Rattle.ground_model.specs.Steps.{ground_process, ground_starts}
use Rattle.trial_workers.proofs.lemmas.explorer.Answered.{front_reached, still_shallow, listed_has_length, listed_is_short}
use Rattle.trial_workers.proofs.lemmas.explorer.ListedLevels.{goes_on, stops}
use Rattle.trial_workers.proofs.explorer.levels.Levels.expand_next.Goals as goal

pub expand-requires-clause-state : goal.expand-requires-clause-state
expand-requires-clause-state c =
    let old = c.args.self.now in
    listed_has_length c.args.index.now c.args.most c.requires.under_way.valid old.next old.front.level old.front.depth old.listing
    c.requires.under_way.explores c.in_ok-state.state c.requires.next c.in_ok-state.ensures

pub expand-requires-clause-words : goal.expand-requires-clause-words
expand-requires-clause-words c =
    let old = c.args.self.now in
    let short = listed_is_short c.args.index.now c.args.most c.requires.under_way.valid old.next old.front.level old.front.depth old.listing
    c.requires.under_way.explores c.in_ok-state.state c.requires.next c.in_ok-state.ensures in
    omega (arith, short)

pub expand-requires-clause-listed : goal.expand-requires-clause-listed
expand-requires-clause-listed c = (c.args.self.now.next, c.requires.next, c.in_ok-state.ensures)

pub returns-clause-under_way : goal.returns-clause-under_way
returns-clause-under_way c = λ few.
    let g = c.args.index.now in let most = c.args.most in let old = c.args.self.now in let now = c.requires.under_way in
    let listed = c.len-listed.result in let count = c.len-listed.ensures.count in let reached = c.reach-self.result in
    let up = c.reach-self.ensures.up in let same = c.reach-self.ensures.same in
    let more : old.next < listed = omega (arith, count, c.requires.next) in
    let e = front_reached g most old.next listed old.front reached old.listing now.explores more count up same in
    let m = c.expand.new.listing in
    let fits : length m ≤ most = omega (arith, c.len.ensures.count, few) in
    record {
      valid = now.valid;
      explores = goes_on (ground_process g) (ground_starts g) most old.next reached.level reached.depth old.listing e.0 m c.in_ok-state.state e.1
          c.in_ok-state.ensures c.in_ok-expand.ensures.grows c.len.ensures.differ fits;
      shallow = still_shallow g most old.next listed old.front reached old.listing now.explores more count up same now.shallow;
    }

pub returns-clause-stopped : goal.returns-clause-stopped
returns-clause-stopped c = λ past.
    let g = c.args.index.now in let most = c.args.most in let old = c.args.self.now in let now = c.requires.under_way in
    let listed = c.len-listed.result in let count = c.len-listed.ensures.count in let reached = c.reach-self.result in
    let more : old.next < listed = omega (arith, count, c.requires.next) in
    let e = front_reached g most old.next listed old.front reached old.listing now.explores more count c.reach-self.ensures.up c.reach-self.ensures.same in
    let m = c.expand.new.listing in
    let long : most < length m = omega (arith, c.len.ensures.count, past) in
    stops (ground_process g) (ground_starts g) most old.next reached.level reached.depth old.listing e.0 m c.in_ok-state.state e.1
    c.in_ok-state.ensures c.in_ok-expand.ensures.grows c.len.ensures.differ long
