use Rattle.ppddl_forms.proofs.objects.read_objects.Goals as goal

pub returns-in-Err-clause-gives : goal.returns-in-Err-clause-gives
returns-in-Err-clause-gives c = rw c.in_ok-typed.ensures at c.in-Err.ensures.gives
