use Rattle.std.proofs.Common.{◌≡◌, ◌∙◌, length, map, true, ap, sym, subst}
use Rattle.std.specs.List.{list_any}
use Rattle.type_table.specs.Reading.{items_of}
use Rattle.type_table.specs.Rows.{is_round, AreEnds}
use Rattle.type_table.proofs.Rounds.{round_found}
use Rattle.type_table.proofs.above.reached_rows.Goals as goal

pub returns-then-has_round-clause-cycle : goal.returns-then-has_round-clause-cycle
returns-then-has_round-clause-cycle c _ =
    let links = c.args.links.now in
    let met : list_any (is_round c.in_ok-rows.rows) links ≡ true = ap (λ rows. list_any (is_round rows) links) (sym c.as_slice.ensures) ∙ sym c.has_round.ensures ∙ c.if-has_round.true in
    round_found links (map items_of c.args.parents.now) c.in_ok-rows.rows (length c.args.parents.now) c.requires.linked
    (λ l inside. let (k, below, is) = inside in subst (AreEnds (length c.args.parents.now)) is (c.requires.ends k l below)) c.in_ok-rows.ensures met
