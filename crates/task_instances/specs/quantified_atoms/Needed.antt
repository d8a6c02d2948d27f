-- Which variables an atom names, and which of them are hidden by inner ones of the same name.
--     is_variable v t        whether a term is the variable
--     is_named v a           whether the variable stands in the atom
--     hides v p              whether a parameter has this name
--     is_needed a ps v       whether the variable stands in the atom, and none of these inner variables hides it
--     params_of references   the parameters to which these lead
use Rattle.std.specs.Prelude.{Bool, false, not, ◌&&◌, List, map}
use Rattle.std.specs.Borrow.{Bor}
use Rattle.std.specs.List.{list_any}
use Rattle.ppddl_model.specs.declared.tree.Atom.{Atom}
use Rattle.ppddl_model.specs.declared.tree.Param.{Param}
use Rattle.ppddl_model.specs.declared.tree.Term.{Term}
use Rattle.ppddl_model.specs.declared.tree.Term.TheVariants.{Variable, Object}
use Rattle.ppddl_model.specs.State.{Name, same_name}

abbrev pub is_variable : Name → Term → Bool
is_variable v (Variable u) = same_name v u
is_variable v (Object o) = false

abbrev pub is_named : Name → Atom → Bool
is_named v a = list_any (is_variable v) a.args

abbrev pub hides : Name → Param → Bool
hides v p = same_name p.name v

abbrev pub is_needed : Atom → List Param → Name → Bool
is_needed a ps v = is_named v a && not (list_any (hides v) ps)

abbrev pub params_of : List (Bor Param) → List Param
params_of = map (λ r. r.now)
