-- The definitions of domains and problems and the relations are one language, as statements.
--     DomainIsDerived, DomainIsAccepted       of a domain
--     ProblemIsDerived, ProblemIsAccepted     of a problem
use Rattle.std.specs.Prelude.{◌≡◌, ℕ, List, Ok}
use Rattle.ppddl_model.specs.declared.tree.Domain.{Domain}
use Rattle.ppddl_model.specs.declared.tree.Problem.{Problem}
use Rattle.ppddl_forms.specs.names.Declarations.{Declared, nothing}
use Rattle.ppddl_cursor.specs.declared.place.Place.{Place}
use Rattle.ppddl_cursor.specs.Forms.{Forms}
use Rattle.ppddl_forms.specs.declared.name.Name.{Name}
use Rattle.ppddl_reader.specs.domains.Domains.{domain}
use Rattle.ppddl_reader.specs.problems.Problems.{problem}
use Rattle.ppddl_grammar.specs.definitions.Domains.{IsDomain}
use Rattle.ppddl_grammar.specs.definitions.Problems.{IsProblem}

abbrev pub DomainIsDerived : Type 0
DomainIsDerived = (name : List ℕ) (fs : Forms) (b : Place) (m : Domain) (d : Declared) → domain name nothing fs b ≡ Ok (m, d) → IsDomain name fs m d

abbrev pub DomainIsAccepted : Type 0
DomainIsAccepted = (name : List ℕ) (fs : Forms) (b : Place) (m : Domain) (d : Declared) → IsDomain name fs m d → domain name nothing fs b ≡ Ok (m, d)

abbrev pub ProblemIsDerived : Type 0
ProblemIsDerived = (n : Name) (known : List ℕ) (d : Declared) (fs : Forms) (b : Place) (p : Problem) (e : Declared) → problem n known d fs b ≡ Ok (p, e)
    → IsProblem n known d fs p e

abbrev pub ProblemIsAccepted : Type 0
ProblemIsAccepted = (n : Name) (known : List ℕ) (d : Declared) (fs : Forms) (b : Place) (p : Problem) (e : Declared) → IsProblem n known d fs p e
    → problem n known d fs b ≡ Ok (p, e)
