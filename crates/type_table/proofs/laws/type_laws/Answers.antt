use Rattle.type_table.proofs.Numbered.{number_is}
use Rattle.type_table.proofs.Bridge.{distinct_types, own_number}
use Rattle.type_table.proofs.Fitting.{ordered_is_not_circular, fitting_has_no_cycle}
use Rattle.type_table.specs.Types.{type_names}
use Rattle.type_table.proofs.laws.type_laws.Goals as goal

pub returns-clause-numbers : goal.returns-clause-numbers
returns-clause-numbers c names name k is = ((number_is names name k is).within, (number_is names name k is).named)

pub returns-clause-distinct : goal.returns-clause-distinct
returns-clause-distinct c types = own_number (type_names types) (distinct_types types)

pub returns-clause-ordered : goal.returns-clause-ordered
returns-clause-ordered c = ordered_is_not_circular

pub returns-clause-fitting : goal.returns-clause-fitting
returns-clause-fitting c = fitting_has_no_cycle
