-- Worked examples: names in lower case, and what the text of the haul declares.
use Rattle.std.specs.Prelude.{◌≡◌, [], ◌∷◌, true, false, codes, map}
use Rattle.std.proofs.Common.{refl}
use Rattle.ppddl_model.specs.examples.Haul.{whole_haul}
use Rattle.ppddl_forms.specs.names.Declarations.{Declared}
use Rattle.ppddl_cursor.specs.declared.place.Place.{Place}
use Rattle.ppddl_cursor.specs.Forms.{Forms, lone, group, none, more, lowered_forms}
use Rattle.ppddl_grammar.specs.fits.Fitting.{IsFit}
use Rattle.ppddl_grammar.specs.fits.Names.{is_lower_name, AreLower, HaveLowerNames}

-- a capital letter, a word of the language, and a word that begins with a digit
names : map is_lower_name (codes "vehicle-at" ∷ codes "vehicle-At" ∷ codes "and" ∷ codes "3rd" ∷ []) ≡ true ∷ false ∷ false ∷ false ∷ []
names = refl

abbrev somewhere : Place
somewhere = record { file = 1; line = 1 }

-- `(At A) b`
abbrev some_forms : Forms
some_forms =
    more (group somewhere (more (lone (codes "At") somewhere) (more (lone (codes "A") somewhere) none)) somewhere) (more (lone (codes "b") somewhere) none)

lower_forms : AreLower (lowered_forms some_forms)
lower_forms = ((refl, (refl, tt)), (refl, tt))

abbrev haul_names : Declared
haul_names = record {
  types = whole_haul.domain.types;
  objects = whole_haul.problem.objects;
  predicates = whole_haul.domain.predicates;
  functions = whole_haul.domain.functions;
}

haul_fits : IsFit haul_names
haul_fits = record { types = refl; objects = refl; predicates = refl; functions = refl }

haul_is_named : HaveLowerNames haul_names
haul_is_named = record { types = refl; objects = refl; predicates = refl; functions = refl }
