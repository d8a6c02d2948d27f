-- One run has one entry more.
use Rattle.std.proofs.Common.{sym, ◌∙◌, rules}
use Rattle.applicable_actions.specs.Runs.{put}
use Rattle.applicable_actions.proofs.RunSteps.{entry_put}
use Rattle.applicable_actions.proofs.entry_runs.EntryRuns.put.Goals as goal

pub returns-in_ok-push-in-Some : goal.returns-in_ok-push-in-Some
returns-in_ok-push-in-Some c =
    entry_put c.self.inside.always.items c.self.inside.by_atom.items c.in-Some.atom c.args.entry c.index_mut.result.now
    c.push.new.self (search rules) c.index_mut.ensures.value c.in_ok-push-in-Some.ensures.items
    ∙ (λ i. put (sym c.in-Some.is i) c.args.entry (c.self.view_is i))
