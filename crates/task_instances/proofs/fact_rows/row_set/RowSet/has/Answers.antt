use Rattle.std.proofs.Common.{false, get_or, ◌∙◌, ap, subst, sym}
use Rattle.type_table.specs.Numbered.{number_of}
use Rattle.type_table.proofs.Numbered.{number-vectors}
use Rattle.std.specs.Prelude.{All}
use Rattle.task_instances.specs.fact_rows.Marks.{IsMarked}
use Rattle.task_instances.proofs.lemmas.fact_rows.Marking.{no_mark}
use Rattle.ground_terms.proofs.lemmas.terms.Naming.{no_name, has_name}
use Rattle.task_instances.proofs.fact_rows.row_set.RowSet.has.Goals as goal

pub returns-in-None : goal.returns-in-None
returns-in-None c =
    sym (no_name c.args.self.now c.args.row.now (c.in-None.ensures.index
    ∙ number-vectors c.self.inside.set.keys c.args.row.now
    ∙ ap (λ names. number_of names c.args.row.now) c.self.view_is))

pub returns-in-Some : goal.returns-in-Some
returns-in-Some c =
    sym (has_name c.args.self.now c.args.row.now _ (c.in-Some.ensures.index
    ∙ number-vectors c.self.inside.set.keys c.args.row.now
    ∙ ap (λ names. number_of names c.args.row.now) c.self.view_is))

pub returns-then-not-index : goal.returns-then-not-index
returns-then-not-index c =
    sym (no_mark c.self.inside.marks.items c.args.self.now c.args.row.now
    (subst (All (IsMarked c.self.inside.marks.items)) c.self.view_is c.self.invariant.each)
    (ap (λ k. get_or c.self.inside.marks.items k false) (sym c.mark_of.ensures.mark)
    ∙ ap (λ d. get_or c.self.inside.marks.items c.mark_of.result d) (sym c.if-not-index.true) ∙ sym c.index.ensures ∙ c.if-not-index.true))
