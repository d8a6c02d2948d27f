use Rattle.std.proofs.Common.{◌≡◌, ◌*◌, length, refl, rules}
use Rattle.trial_workers.specs.declared.parts.Division.{Division}
use Rattle.trial_workers.proofs.Rounding.{all_can, parts_can_meet}
use Rattle.trial_workers.proofs.Whole.{is_division, crew_knows, round_done, round_counts}
use Rattle.trial_workers.proofs.rounds.round_of.Goals as goal

pub take_parts-requires-after_bounds : goal.take_parts-requires-after_bounds
take_parts-requires-after_bounds g c κs within =
    let b = c.args.words.now in let e = c.args.effort.now in let os = c.args.workers.now in let x = c.args.extent.now in let near = c.requires.near in
    let first : c.from.result * c.from-2.result ≡ c.args.number * e.trials = (λ t. c.from.ensures t * c.from-2.ensures t) in
    let d : Division = record { workers = length os; swept = x.swept; trials = e.trials; first_trial = c.from.result * c.from-2.result } in
    all_can b d e os c.prepare.new.workers c.requires.deep (is_division d e.depth b c.args.number os refl first c.ranges.number.fits (search rules) c.requires.crew) refl c.requires.crew
    (crew_knows b e.depth d near.states x os near.listed refl near.has) c.prepare.ensures

pub meet_all-requires-clause-can : goal.meet_all-requires-clause-can
meet_all-requires-clause-can g c = parts_can_meet c.args.words.now c.args.effort.now c.prepare.new.workers c.take_parts.new.workers c.take_parts.ensures

pub returns-clause-crew : goal.returns-clause-crew
returns-clause-crew g c =
    let b = c.args.words.now in let e = c.args.effort.now in let os = c.args.workers.now in let x = c.args.extent.now in let near = c.requires.near in
    let first : c.from.result * c.from-2.result ≡ c.args.number * e.trials = (λ t. c.from.ensures t * c.from-2.ensures t) in
    let d : Division = record { workers = length os; swept = x.swept; trials = e.trials; first_trial = c.from.result * c.from-2.result } in
    (round_done b d e c.args.number near.states x os c.prepare.new.workers c.take_parts.new.workers c.meet_all.new.workers near.listed refl first refl
    (is_division d e.depth b c.args.number os refl first c.ranges.number.fits (search rules) c.requires.crew) refl c.requires.crew near.has c.prepare.ensures c.take_parts.ensures c.meet_all.ensures).crew

pub returns-clause-stayed : goal.returns-clause-stayed
returns-clause-stayed g c =
    let b = c.args.words.now in let e = c.args.effort.now in let os = c.args.workers.now in let x = c.args.extent.now in let near = c.requires.near in
    let first : c.from.result * c.from-2.result ≡ c.args.number * e.trials = (λ t. c.from.ensures t * c.from-2.ensures t) in
    let d : Division = record { workers = length os; swept = x.swept; trials = e.trials; first_trial = c.from.result * c.from-2.result } in
    (round_done b d e c.args.number near.states x os c.prepare.new.workers c.take_parts.new.workers c.meet_all.new.workers near.listed refl first refl
    (is_division d e.depth b c.args.number os refl first c.ranges.number.fits (search rules) c.requires.crew) refl c.requires.crew near.has c.prepare.ensures c.take_parts.ensures c.meet_all.ensures).stayed

pub returns-clause-trials : goal.returns-clause-trials
returns-clause-trials g c =
    let b = c.args.words.now in let e = c.args.effort.now in let os = c.args.workers.now in let x = c.args.extent.now in let near = c.requires.near in
    let first : c.from.result * c.from-2.result ≡ c.args.number * e.trials = (λ t. c.from.ensures t * c.from-2.ensures t) in
    let d : Division = record { workers = length os; swept = x.swept; trials = e.trials; first_trial = c.from.result * c.from-2.result } in
    (round_done b d e c.args.number near.states x os c.prepare.new.workers c.take_parts.new.workers c.meet_all.new.workers near.listed refl first refl
    (is_division d e.depth b c.args.number os refl first c.ranges.number.fits (search rules) c.requires.crew) refl c.requires.crew near.has c.prepare.ensures c.take_parts.ensures c.meet_all.ensures).trials

pub returns-clause-placed : goal.returns-clause-placed
returns-clause-placed g c =
    let b = c.args.words.now in let e = c.args.effort.now in let os = c.args.workers.now in let x = c.args.extent.now in let near = c.requires.near in
    let first : c.from.result * c.from-2.result ≡ c.args.number * e.trials = (λ t. c.from.ensures t * c.from-2.ensures t) in
    let d : Division = record { workers = length os; swept = x.swept; trials = e.trials; first_trial = c.from.result * c.from-2.result } in
    (round_done b d e c.args.number near.states x os c.prepare.new.workers c.take_parts.new.workers c.meet_all.new.workers near.listed refl first refl
    (is_division d e.depth b c.args.number os refl first c.ranges.number.fits (search rules) c.requires.crew) refl c.requires.crew near.has c.prepare.ensures c.take_parts.ensures c.meet_all.ensures).placed

pub returns-clause-rounds : goal.returns-clause-rounds
returns-clause-rounds g c =
    let b = c.args.words.now in let e = c.args.effort.now in let os = c.args.workers.now in let x = c.args.extent.now in let near = c.requires.near in
    let first : c.from.result * c.from-2.result ≡ c.args.number * e.trials = (λ t. c.from.ensures t * c.from-2.ensures t) in
    let d : Division = record { workers = length os; swept = x.swept; trials = e.trials; first_trial = c.from.result * c.from-2.result } in
    (round_counts b d e c.args.number near.states x os c.prepare.new.workers c.take_parts.new.workers c.meet_all.new.workers near.listed refl first refl
    (is_division d e.depth b c.args.number os refl first c.ranges.number.fits (search rules) c.requires.crew) refl c.requires.crew near.has c.prepare.ensures c.take_parts.ensures c.meet_all.ensures)
