use Rattle.std.proofs.Common.{sym, ap, ◌∙◌, arith}
use Rattle.std.specs.Cmp.Lexicographic.{texts_ties}
use Rattle.ppddl_model.specs.declared.tree.Param.{Param}
use Rattle.ppddl_model.specs.State.{same_name}
use Rattle.task_instances.proofs.lemmas.kept_rows.Placing.{last_found, last_missed}
use Rattle.task_instances.proofs.kept_rows.pattern.last_place.Goals as goal

pub returns-then-eq : goal.returns-then-eq
returns-then-eq c =
    let v = c.args.variable.now in
    last_found c.args.params.now v c.loop-place.place c.index-params-place.result c.eq.result (omega arith) c.loop-place.invariant.within
    c.index-params-place.is
    (c.eq.ensures ∙ texts_ties c.as_slice.result.now v ∙ ap (λ n. same_name n v) c.as_slice.ensures
    ∙ ap (λ (p : Param). same_name p.name v) (sym c.index-params-place.is)) c.if-eq.true c.loop-place.invariant.later

pub loop-place-preserved : goal.loop-place-preserved
loop-place-preserved c =
    let v = c.args.variable.now in
    record {
      within = omega (arith, c.loop-place.invariant.within);
      later =
          last_missed c.args.params.now v c.loop-place.place c.index-params-place.result c.eq.result (omega arith) c.loop-place.invariant.within
          c.index-params-place.is
          (c.eq.ensures ∙ texts_ties c.as_slice.result.now v ∙ ap (λ n. same_name n v) c.as_slice.ensures
          ∙ ap (λ (p : Param). same_name p.name v) (sym c.index-params-place.is)) c.if-eq.false c.loop-place.invariant.later;
    }
