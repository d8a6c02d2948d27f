use Rattle.std.proofs.Common.{◌≡◌, ◌<◌, take, map, ◌+◌, sym, subst}
use Rattle.std.proofs.lemmas.List.Elements.{All-get_or}
use Rattle.type_table.specs.declared.link.Link.{Link}
use Rattle.type_table.specs.Reading.{items_of}
use Rattle.type_table.specs.Rows.{EachRow, parents_of}
use Rattle.type_table.proofs.RowSteps.{parent_more}
use Rattle.type_table.proofs.rows.parent_rows.Goals as goal

abbrev nothing : Link
nothing = record { child = 0; parent = 0 }

pub loop-link-preserved : goal.loop-link-preserved
loop-link-preserved c =
    subst (EachRow c.args.count (λ k row. row ≡ parents_of (take (c.loop-link.link-index + 1) c.args.links.now) k)) (sym c.in_ok-push_to.ensures)
    (parent_more c.args.count c.args.links.now c.loop-link.link-index nothing (map items_of c.loop-link.rows.items) c.loop-link-test.true
    (All-get_or (λ (l : Link). l.child < c.args.count) c.args.links.now c.loop-link.link-index nothing c.loop-link-test.true c.requires) c.loop-link.invariant)
