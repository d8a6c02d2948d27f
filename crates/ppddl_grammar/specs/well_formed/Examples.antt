-- A worked example: the names of the haul.
use Rattle.std.proofs.Common.{refl}
use Rattle.ppddl_model.specs.examples.Haul.{whole_haul}
use Rattle.ppddl_grammar.specs.well_formed.Names.{HasLowerNames}

haul_is_named : HasLowerNames whole_haul
haul_is_named = record { declared = record { types = refl; objects = refl; predicates = refl; functions = refl }; actions = refl }
