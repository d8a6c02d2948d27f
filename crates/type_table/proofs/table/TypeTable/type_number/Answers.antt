use Rattle.std.proofs.Common.{◌∙◌, ap}
use Rattle.std.specs.Prelude.{is_some}
use Rattle.ppddl_model.specs.Objects.{World}
use Rattle.ppddl_model.specs.WellFormed.{is_type}
use Rattle.type_table.proofs.Once.{known_is_type}
use Rattle.type_table.proofs.table.TypeTable.type_number.Goals as goal

pub returns-clause-known : goal.returns-clause-known
returns-clause-known c = ap is_some c.number_of.ensures ∙ known_is_type c.self.inside.types c.args.name.now ∙ ap (λ (w : World). is_type w.types c.args.name.now) c.self.view_is
