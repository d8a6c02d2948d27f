use Rattle.std.proofs.Common.{rules, ◌≡◌, ◌++◌, ◌+◌, length, take, drop, sym, subst}
use Rattle.std.proofs.Math.Seq.{take-append_seam}
use Rattle.trial_workers.specs.Effort.{HaveRounds}
use Rattle.trial_workers.proofs.rounds.round.Goals as goal

pub returns-clause-rounds : goal.returns-clause-rounds
returns-clause-rounds g c = λ r rounds.
    let news = c.round_of.new.workers in let g' = c.args.words.now.problem in let d = c.args.extent.now.depth in
    let back : take c.crew.inside.workers.len (news ++ drop (length news) c.crew.inside.workers.items) ≡ news =
    let same : c.crew.inside.workers.len ≡ length news = search rules in
    subst (λ n. take n (news ++ drop (length news) c.crew.inside.workers.items) ≡ news) (sym same) (take-append_seam news (drop (length news) c.crew.inside.workers.items)) in
    let was : HaveRounds g' d r c.as_mut_slice-workers.result.now = search (rules, rounds) in
    subst (HaveRounds g' d (r + 1)) (sym back) (c.round_of.ensures.rounds r was)
