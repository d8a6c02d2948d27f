-- After so many turns so many rights have gone over.
use Rattle.std.proofs.Common.{◌≡◌, ◌-◌}
use Rattle.word_table.specs.view.Steps.{without_rights}
use Rattle.word_table.specs.Seen.{knowledge, with_rights}
use Rattle.word_table.proofs.seats.split.Given as goal

abbrev pub invariant-loop : goal.invariant-loop
invariant-loop l = (l.pass ≡ knowledge l.fn.pass.table (with_rights (l.fn.pass.view.rights - l.counter) l.fn.pass.view))
    × (l.new ≡ knowledge l.fn.pass.table (with_rights l.counter (without_rights l.fn.pass.view)))
