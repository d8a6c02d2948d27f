-- What is reached stays so.
use Rattle.std.specs.Prelude.{IsTrue}
use Rattle.std.proofs.Common.{rules}
use Rattle.bellman_backup.proofs.Stepping.{reached_later}
use Rattle.search_tests.proofs.table.spares.prepare.Goals as goal

pub claim_for-requires-clause-reached : goal.claim_for-requires-clause-reached
claim_for-requires-clause-reached c =
    let on : IsTrue c.reach.result = search rules in
    reached_later c.reach.new.pass.view c.find_id.new.pass.view c.reach.new.next c.find_id.ensures.goes_on.noted (c.reach.ensures.reached on)
