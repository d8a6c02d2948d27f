use Rattle.std.proofs.Common.{slice_index_or}
use Rattle.trial_workers.specs.Watching.{means_of}
use Rattle.trial_workers.proofs.Passes.{keeps_stays}
use Rattle.trial_workers.proofs.Counting.{starts_are_had}
use Rattle.trial_workers.proofs.Looping.{first_had, first_reads}
use Rattle.trial_workers.proofs.solving.read_first.Goals as goal

pub read_pass-requires-clause-starts : goal.read_pass-requires-clause-starts
read_pass-requires-clause-starts c =
    let ws = c.args.workers.now in let d = c.index-workers-0.result in let near = c.requires.near in
    starts_are_had c.args.words.now.problem near.states c.args.extent.now near.listed (slice_index_or ws 0 d).pass.view (first_had near.states ws d c.requires.crew.some near.has)

pub returns-clause-means : goal.returns-clause-means
returns-clause-means c =
    let b = c.args.words.now in let ws = c.args.workers.now in let d = c.index-workers-0.result in
    first_reads b ws d c.read_pass.new.pass (means_of c.read_pass.result.solved) c.requires.crew.some
    (keeps_stays b (slice_index_or ws 0 d).pass c.read_pass.new.pass c.read_pass.ensures.keeps) c.read_pass.ensures.means
