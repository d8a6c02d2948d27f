-- The count, a claim and a word.
use Rattle.std.proofs.Common.{◌≡◌, length, rules, arith}
use Rattle.std.specs.Prelude.{get_or}
use Rattle.search_tests.proofs.Passes.{claimed_is_prepared}
use Rattle.search_tests.proofs.table.spares.claim_for.Goals as goal

pub returns-in-Own : goal.returns-in-Own
returns-in-Own c =
    let b = c.args.words.now in let s = c.args.state.now in
    let one : length s ≡ 1 = first_of (search rules, omega arith) in
    let width : b.layout.width ≡ 1 = first_of (search rules, omega arith) in
    claimed_is_prepared b c.args.pass.now c.load_count-count.new.pass c.claim.new.pass c.write_word.new.pass s c.load_count-count.result
    (get_or s 0 0) c.requires.can c.requires.reached c.load_count-count.ensures.seen c.in-Own.ensures.1 (search rules)
    one width (search rules)
