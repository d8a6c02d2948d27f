-- Functions: numbers that `:init` gives to terms and that no action changes, by which effects name costs.
-- Source: PDDL 2.1 (Fox and Long 2003), numeric fluents; here the static ones. A ground function term is written as a ground atom is.
--     value_of w t             the value that `:init` gives to a ground function term, None where it gives none
--     has_value w t            whether it gives one
--     cost_of w t              the value as a cost, 0 where there is none
--     least_value w f          the least value that `:init` gives to the function of this name, 0 where it gives none
--     least_or d numbers       the least of the numbers, d where there is none
--     function_terms w e b     the ground function terms of an effect, every `forall` expanded, whatever `when` or chance stands round them
--     are_valued w e b         whether each of these has a value
use Rattle.std.specs.Prelude.{ℕ, min, Bool, List, [], ◌∷◌, ◌++◌, map, filter, flat_map, Option, is_some, unwrap_or}
use Rattle.std.specs.Option.{option_map}
use Rattle.std.specs.List.{find, list_all, reduce}
use Rattle.ppddl_model.specs.declared.tree.Effect.{Effect, Row_of-Effect, end_of-Effect, more_of-Effect, Row_of-Branch, end_of-Branch, more_of-Branch}
use Rattle.ppddl_model.specs.declared.tree.Effect.TheVariants.{Both', Forall', When', Chance', CostOf}
use Rattle.ppddl_model.specs.declared.tree.ValueItem.{ValueItem}
use Rattle.ppddl_model.specs.State.{Name, same_name, GroundAtom, same_atom}
use Rattle.ppddl_model.specs.Objects.{World, Binding, ground_atom, bindings}

abbrev pub is_value_of : GroundAtom → ValueItem → Bool
is_value_of t item = same_atom t (ground_atom [] item.function)

abbrev pub value_of : World → GroundAtom → Option ℕ
value_of w t = option_map (λ (item : ValueItem). item.value) (find (is_value_of t) w.values)

abbrev pub has_value : World → GroundAtom → Bool
has_value w t = is_some (value_of w t)

abbrev pub cost_of : World → GroundAtom → ℕ
cost_of w t = unwrap_or (value_of w t) 0

abbrev pub least_or : ℕ → List ℕ → ℕ
least_or d numbers = unwrap_or (reduce min numbers) d

abbrev pub is_value_for : Name → ValueItem → Bool
is_value_for f item = same_name f item.function.predicate

abbrev pub least_value : World → Name → ℕ
least_value w f = least_or 0 (map (λ (item : ValueItem). item.value) (filter (is_value_for f) w.values))

module _ (w : World) where
  abbrev mutual
    pub function_terms : Effect → Binding → List GroundAtom
    function_terms (CostOf a) b = ground_atom b a ∷ []
    function_terms (Both' shape es) b = terms_each es b
    function_terms (Forall' params u (more_of-Effect e end_of-Effect)) b = flat_map (λ b'. function_terms e b') (bindings w params b)
    function_terms (When' c u (more_of-Effect e end_of-Effect)) b = function_terms e b
    function_terms (Chance' shape branches) b = terms_branches branches b
    function_terms _ b = []

    pub terms_each : {n : _} → Row_of-Effect n → Binding → List GroundAtom
    terms_each end_of-Effect b = []
    terms_each (more_of-Effect e es) b = function_terms e b ++ terms_each es b

    pub terms_branches : {n : _} → Row_of-Branch n → Binding → List GroundAtom
    terms_branches end_of-Branch b = []
    terms_branches (more_of-Branch chance e branches) b = function_terms e b ++ terms_branches branches b

  abbrev pub are_valued : Effect → Binding → Bool
  are_valued e b = list_all (has_value w) (function_terms e b)
