use Rattle.std.proofs.Common.{◌∙◌, Err, length, map, sym, subst, ap}
use Rattle.std.specs.Prelude.{IfSome}
use Rattle.std.proofs.lemmas.Result.{err_from_is_err_and}
use Rattle.type_table.specs.declared.refusal.TypeRefusal.TheVariants.{Cycle}
use Rattle.type_table.specs.declared.above.Above.TheVariants.{Single}
use Rattle.type_table.specs.Above.{rows_of}
use Rattle.type_table.specs.Forest.{IsForest, IsSingle}
use Rattle.type_table.specs.Reading.{items_of}
use Rattle.type_table.specs.Rows.{AreEnds, EachRow, IsReached}
use Rattle.type_table.proofs.Lists.{map_length, handed_on}
use Rattle.type_table.proofs.Climbing.{round_of_loop}
use Rattle.type_table.proofs.Rounds.{paths_reached, no_rounds}
use Rattle.type_table.proofs.above.Above.make.Goals as goal

pub returns-in_err-make-clause-cycle : goal.returns-in_err-make-clause-cycle
returns-in_err-make-clause-cycle c is =
    let rows = map items_of c.args.parents.now in
    let single : IsSingle rows c.in-Some.single = subst (λ o. IfSome o (IsSingle rows)) c.in-Some.is c.in_ok-single.ensures.single in
    let p = err_from_is_err_and c.from_residual-in_err-make.result c.from_residual-in_err-make.ensures.1 in
    round_of_loop rows c.in-Some.single single (c.in_err-make.ensures.cycle (handed_on c.from_residual-in_err-make.result c.in_err-make.field-0.0 Cycle (p.1 ∙ ap Err p.2) is))

pub returns-clause-rows : goal.returns-clause-rows
returns-clause-rows c =
    let rows = map items_of c.args.parents.now in
    let forest = c.in_ok-make.field-0 in
    let single : IsSingle rows c.in-Some.single = subst (λ o. IfSome o (IsSingle rows)) c.in-Some.is c.in_ok-single.ensures.single in
    subst (λ n. EachRow n (IsReached rows) (rows_of (Single forest))) (sym (map_length items_of c.args.parents.now))
    (paths_reached rows forest (subst (IsSingle rows) (sym c.in_ok-make.ensures.parents) single)
    (subst (λ ps. IsForest ps forest.ranks) (sym c.in_ok-make.ensures.parents) c.in_ok-make.ensures.forest))

pub returns-clause-acyclic : goal.returns-clause-acyclic
returns-clause-acyclic c =
    let rows = map items_of c.args.parents.now in
    let forest = c.in_ok-make.field-0 in
    let single : IsSingle rows c.in-Some.single = subst (λ o. IfSome o (IsSingle rows)) c.in-Some.is c.in_ok-single.ensures.single in
    no_rounds c.args.links.now rows forest (length c.args.parents.now) c.requires.linked
    (λ l inside. let (k, below, is) = inside in subst (AreEnds (length c.args.parents.now)) is (c.requires.ends k l below))
    (subst (IsSingle rows) (sym c.in_ok-make.ensures.parents) single)
    (subst (λ ps. IsForest ps forest.ranks) (sym c.in_ok-make.ensures.parents) c.in_ok-make.ensures.forest)
