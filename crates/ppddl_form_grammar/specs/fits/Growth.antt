-- What was declared so far, in what is declared later: more stands behind it, and nothing of it goes.
--     Begins xs ys              ys is xs, and more behind it
--     AreKept d e               e declares what d does, and more behind it
--     domain_of d               a domain of the predicates and functions that were declared so far
--     is_value i                an item of `:init` gives a function its value
--     AreDeclaredIn d w domain  the world and the domain have what was declared so far; which values functions have is free
use Rattle.std.specs.Prelude.{◌≡◌, Bool, true, false, List, [], ◌++◌}
use Rattle.ppddl_model.specs.declared.tree.Domain.{Domain}
use Rattle.ppddl_model.specs.declared.tree.InitItem.{InitItem}
use Rattle.ppddl_model.specs.declared.tree.InitItem.TheVariants.{Fact, Chance, Value}
use Rattle.ppddl_model.specs.declared.tree.ObjectDecl.{ObjectDecl}
use Rattle.ppddl_model.specs.Objects.{World, once}
use Rattle.ppddl_forms.specs.names.Declarations.{Declared}

abbrev pub Begins : {A : Type 0} → List A → List A → Type 0
Begins {A} xs ys = (more : List A) × (ys ≡ xs ++ more)

pub record AreKept (d e : Declared) : Type 0 where
  pub types : Begins d.types e.types
  pub objects : Begins d.objects e.objects
  pub predicates : Begins d.predicates e.predicates
  pub functions : Begins d.functions e.functions

abbrev pub domain_of : Declared → Domain
domain_of d =
    record { name = []; types = d.types; constants = []; predicates = d.predicates; functions = d.functions; actions = [] }

abbrev pub is_value : InitItem → Bool
is_value (Fact x) = false
is_value (Chance bs) = false
is_value (Value v) = true

pub record AreDeclaredIn (d : Declared) (w : World) (domain : Domain) : Type 0 where
  pub types : Begins d.types w.types
  pub objects : (more : List ObjectDecl) × (w.objects ≡ once (d.objects ++ more))
  pub predicates : Begins d.predicates domain.predicates
  pub functions : Begins d.functions domain.functions
