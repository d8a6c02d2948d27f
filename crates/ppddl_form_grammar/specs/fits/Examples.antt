-- Worked examples: what the text of the haul has declared is declared in its world and its domain, at the end of the text and before.
use Rattle.std.specs.Prelude.{[]}
use Rattle.std.proofs.Common.{refl}
use Rattle.ppddl_model.specs.Steps.{world}
use Rattle.ppddl_model.specs.examples.Haul.{whole_haul}
use Rattle.ppddl_forms.specs.names.Declarations.{Declared}
use Rattle.ppddl_form_grammar.specs.fits.Growth.{AreDeclaredIn}

abbrev all_names : Declared
all_names = record {
  types = whole_haul.domain.types;
  objects = whole_haul.problem.objects;
  predicates = whole_haul.domain.predicates;
  functions = whole_haul.domain.functions;
}

at_the_end : AreDeclaredIn all_names (world whole_haul) whole_haul.domain
at_the_end = record { types = ([], refl); objects = ([], refl); predicates = ([], refl); functions = ([], refl) }

-- before `:functions`, and before the problem
abbrev first_names : Declared
first_names = record { types = []; objects = []; predicates = whole_haul.domain.predicates; functions = [] }

before : AreDeclaredIn first_names (world whole_haul) whole_haul.domain
before = record {
  types = ([], refl);
  objects = (whole_haul.problem.objects, refl);
  predicates = ([], refl);
  functions = (whole_haul.domain.functions, refl);
}
