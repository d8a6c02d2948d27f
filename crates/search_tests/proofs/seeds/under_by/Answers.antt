use Rattle.search_tests.proofs.Ended.{opened_is_closing, opened_has_starts}
use Rattle.search_tests.proofs.seeds.under_by.Goals as goal

pub under_of-requires-clause-closing : goal.under_of-requires-clause-closing
under_of-requires-clause-closing g c =
    opened_is_closing c.args.problem.now _ c.in_ok-words.field-0 c.in_ok-words.ensures c.in_ok-image.image c.in_ok-image.ensures

pub under_of-requires-clause-starts : goal.under_of-requires-clause-starts
under_of-requires-clause-starts g c =
    opened_has_starts c.args.problem.now _ c.in_ok-words.field-0 c.in_ok-words.ensures c.in_ok-image.image c.in_ok-image.ensures
