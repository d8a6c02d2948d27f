use Rattle.ppddl_forms.specs.names.Declarations.{nothing}
use Rattle.ppddl_reader.specs.domains.Domains.{domain}
use Rattle.ppddl_reader.specs.tasks.Texts.{with_domain}
use Rattle.ppddl_reader.proofs.lemmas.tasks.Refusals.{giving_refuses}
use Rattle.ppddl_reader.proofs.tasks.definitions.read_domain_body.Goals as goal

pub returns-in-Err-clause-gives : goal.returns-in-Err-clause-gives
returns-in-Err-clause-gives c =
    giving_refuses (with_domain c.args.name.place.file) (domain c.args.name.text nothing) c.in-Err.refusal c.args.cursor.now
    (rw c.in_ok-names.ensures at c.in-Err.ensures.gives)
