use Rattle.std.proofs.Common.{◌≡◌, length, map}
use Rattle.type_table.specs.Reading.{items_of}
use Rattle.type_table.specs.Rows.{EachRow}
use Rattle.type_table.specs.Types.{type_names}
use Rattle.type_table.proofs.MemberSteps.{members_before}
use Rattle.type_table.proofs.members.member_rows.Given as goal

abbrev pub invariant-loop-object : goal.invariant-loop-object
invariant-loop-object l = EachRow (length (type_names l.types)) (λ k row. row ≡ members_before l.types l.kinds l.object k) (map items_of l.members.items)
