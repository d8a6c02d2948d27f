-- What the variables in sight stand for.
--     binding_of scope    a scope as a binding
use Rattle.std.specs.Prelude.{[], ◌∷◌}
use Rattle.ppddl_model.specs.Objects.{Binding}
use Rattle.ground_terms.specs.declared.terms.scope.Scope.{Scope}
use Rattle.ground_terms.specs.declared.terms.scope.Scope.TheVariants.{Empty, Bound'}

abbrev pub binding_of : Scope → Binding
binding_of Empty = []
binding_of (Bound' name object p outer) = (name.now, object.now) ∷ binding_of outer
