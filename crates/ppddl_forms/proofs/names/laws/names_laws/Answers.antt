use Rattle.std.proofs.Common.{refl}
use Rattle.ppddl_forms.proofs.lemmas.names.Once.{kinds-once}
use Rattle.ppddl_forms.proofs.names.laws.names_laws.Goals as goal

pub returns-clause-variables : goal.returns-clause-variables
returns-clause-variables c = λ w scope v. refl

pub returns-clause-objects : goal.returns-clause-objects
returns-clause-objects c = λ d scope o. kinds-once o d.objects

pub returns-clause-arguments : goal.returns-clause-arguments
returns-clause-arguments c = λ w scope t p. refl
