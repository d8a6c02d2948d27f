use Rattle.std.proofs.Common.{◌∙◌, sym, ap, Some}
use Rattle.std.specs.Iterator.Adapters.{rev_source}
use Rattle.std.specs.Slice.Iter.{iter_rest}
use Rattle.ppddl_forms.proofs.lemmas.names.Variables.{innermost_has, innermost_lacks, none_left}
use Rattle.ppddl_forms.proofs.names.scope.Scope.kinds_of.Goals as goal

pub returns-in-Some-find : goal.returns-in-Some-find
returns-in-Some-find c =
    let before = iter_rest (rev_source c.loop-list.list-iterator) in
    let after = iter_rest (rev_source c.next.new.self) in
    ap Some c.as_slice.ensures
    ∙ sym (c.loop-list.invariant.2 ∙ innermost_has before after c.in-Some.list.now c.args.variable.now c.in-Some.ensures.steps c.in-Some-find.param.now (sym c.in-Some-find.ensures))

pub returns : goal.returns
returns c =
    sym (c.loop-list.invariant.2 ∙ none_left (iter_rest (rev_source c.loop-list.list-iterator)) c.args.variable.now c.in-None.ensures.steps.0)

pub loop-list-preserved : goal.loop-list-preserved
loop-list-preserved c =
    let before = iter_rest (rev_source c.loop-list.list-iterator) in
    let after = iter_rest (rev_source c.next.new.self) in
    (tt, tt, c.loop-list.invariant.2 ∙ innermost_lacks before after c.in-Some.list.now c.args.variable.now c.in-Some.ensures.steps (sym c.in_default.ensures))
