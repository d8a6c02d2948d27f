use Rattle.std.proofs.Common.{sym, ap, ◌∙◌}
use Rattle.std.specs.List.{list_all}
use Rattle.ppddl_model.specs.declared.tree.Branch.{Branch}
use Rattle.grounder.specs.outset.Draws.{is_modest}
use Rattle.grounder.proofs.lemmas.outset.Few.{modest-Both, modest-Chance, modest-Forall, modest-When}
use Rattle.grounder.proofs.outset.draws.+is_modest.Goals as goal

pub loop-part-init : goal.loop-part-init
loop-part-init t c =
    ap (list_all (is_modest c.args.most c.args.dearest)) c.as_slice-part-items.ensures ∙ modest-Both c.args.most c.args.dearest c.in-Both.parts
    ∙ ap (is_modest c.args.most c.args.dearest) (sym c.in-Both.is)

pub loop-branch-init : goal.loop-branch-init
loop-branch-init t c =
    ap (list_all (λ (x : Branch). is_modest c.args.most c.args.dearest x.effect)) c.as_slice-branch-items.ensures ∙ modest-Chance c.args.most c.args.dearest c.in-Chance.branches
    ∙ ap (is_modest c.args.most c.args.dearest) (sym c.in-Chance.is)

pub returns-in-Forall : goal.returns-in-Forall
returns-in-Forall t c =
    c.is_modest-in-Forall.ensures ∙ ap (is_modest c.args.most c.args.dearest) c.get.ensures ∙ modest-Forall c.args.most c.args.dearest c.in-Forall.field-0 c.in-Forall.inner
    ∙ ap (is_modest c.args.most c.args.dearest) (sym c.in-Forall.is)

pub returns-in-When : goal.returns-in-When
returns-in-When t c =
    c.is_modest-in-When.ensures ∙ ap (is_modest c.args.most c.args.dearest) c.get-in-When.ensures ∙ modest-When c.args.most c.args.dearest c.in-When.field-0 c.in-When.inner
    ∙ ap (is_modest c.args.most c.args.dearest) (sym c.in-When.is)
