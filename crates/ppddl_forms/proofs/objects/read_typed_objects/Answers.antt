use Rattle.std.proofs.Common.{◌∙◌, sym, arith}
use Rattle.std.proofs.lemmas.Result.{err_from_is_err_and}
use Rattle.ppddl_forms.proofs.lemmas.objects.ObjectSteps.{step_reads, step_refuses, end_refuses, end_closes}
use Rattle.ppddl_forms.proofs.objects.read_typed_objects.Goals as goal

pub loop-cursor-preserved : goal.loop-cursor-preserved
loop-cursor-preserved c = record {
  reads =
      step_reads c.args.names.now c.loop-cursor.typed c.read_listed.new.typed c.loop-cursor.waiting.items c.read_listed.new.waiting.items c.loop-cursor.cursor c.read_listed.new.cursor
      (sym c.has_form.ensures ∙ c.loop-cursor-test.true) c.in_ok-read_listed.ensures.gives
      ∙ c.loop-cursor.invariant.reads;
  fewer = omega (arith, c.in_ok-read_listed.ensures.fewer, c.loop-cursor.invariant.fewer);
}

pub returns-in_err-read_listed-clause-gives : goal.returns-in_err-read_listed-clause-gives
returns-in_err-read_listed-clause-gives c =
    let p = err_from_is_err_and c.from_residual.result c.from_residual.ensures.1 in
    rw (p.1, p.2, ← c.loop-cursor.invariant.reads) (
    step_refuses c.args.names.now c.in_err-read_listed.field-0.0 c.loop-cursor.typed c.loop-cursor.waiting.items c.loop-cursor.cursor
    (sym c.has_form.ensures ∙ c.loop-cursor-test.true) c.in_err-read_listed.ensures.gives
    )

pub returns-in_err-add_objects-clause-gives : goal.returns-in_err-add_objects-clause-gives
returns-in_err-add_objects-clause-gives c =
    let p = err_from_is_err_and c.from_residual-in_err-add_objects.result c.from_residual-in_err-add_objects.ensures.1 in
    rw (p.1, p.2, ← c.loop-cursor.invariant.reads) (
    end_refuses c.args.names.now c.in_err-add_objects.field-0.0 c.loop-cursor.typed c.loop-cursor.waiting.items c.loop-cursor.cursor
    (sym c.has_form.ensures ∙ c.loop-cursor-test.false) c.in_err-add_objects.ensures
    )

pub returns-clause-gives : goal.returns-clause-gives
returns-clause-gives c =
    rw (← c.loop-cursor.invariant.reads) (
    end_closes c.args.names.now _ c.loop-cursor.typed c.add_objects.new.typed c.loop-cursor.waiting.items c.loop-cursor.cursor c.close.new.self
    (sym c.has_form.ensures ∙ c.loop-cursor-test.false) c.in_ok-add_objects.ensures c.close.ensures.gives
    )
