-- How many objects a task has, counted by their names, and what is refused where they are too many.
use Rattle.std.proofs.Common.{◌≡◌, ℕ, ◌+◌, ◌||◌, Bool, true, false, true≢false, None, Some, List, [], ◌∷◌, ◌++◌, map, length, append_assoc, append-nil, if◌then◌else◌, refl, sym, ap, ◌∙◌, length-append}
use Rattle.std.specs.Prelude.{nat_le, cond, Result, Err}
use Rattle.std.specs.List.{find, list_any}
use Rattle.plain_list.specs.Results.{◌>>=◌}
use Rattle.ppddl_model.specs.declared.tree.ObjectDecl.{ObjectDecl}
use Rattle.ppddl_model.specs.declared.tree.Task.{Task}
use Rattle.ppddl_model.specs.State.{Name, same_name}
use Rattle.ppddl_model.specs.Objects.{once}
use Rattle.ppddl_model.specs.Steps.{Terms, charges_of, base_cost, world}
use Rattle.type_table.specs.Numbered.{with_name}
use Rattle.type_table.proofs.Lists.{by_test, map_length}
use Rattle.type_table.proofs.Once.{once-push, names-with_object}
use Rattle.ground_meaning.specs.declared.refusals.limits.TheConstants.{MOST_OBJECTS}
use Rattle.ground_meaning.specs.declared.refusals.limits.LimitCode.{LimitCode}
use Rattle.ground_meaning.specs.declared.refusals.limits.LimitCode.TheVariants.{Objects}
use Rattle.ground_meaning.specs.declared.refusals.refusal.GroundRefusal.TheVariants.{Limit, NoPenalty}
use Rattle.ground_meaning.specs.refusals.Limits.{free_action, limited, limits, grounded, checked}
use Rattle.task_instances.specs.fact_rows.Adding.{with_names}
use Rattle.grounder.specs.costs.Charges.{step_charges, is_free, charged_with}
use Rattle.grounder.specs.ObjectNames.{object_name}
use Rattle.grounder.proofs.Refusing.{free_is, no_penalty, is_limited}

-- ---- names that are taken once

pub same_with : (names : List Name) (name : Name) → list_any (same_name name) names ≡ true → names ≡ with_name names name
same_with names name there = sym (ap (λ t. if t then names else names ++ name ∷ []) there)

pub one_more : (names : List Name) (name : Name) → list_any (same_name name) names ≡ false → length (with_name names name) ≡ length names + 1
one_more names name new =
    ap (λ t. length (if t then names else names ++ name ∷ [])) new ∙ length-append names (name ∷ [])

names_of_once : (before declared : List ObjectDecl)
    → with_names (map object_name (once before)) (map object_name declared) ≡ map object_name (once (before ++ declared))
names_of_once before [] = ap (λ l. map object_name (once l)) (sym (append-nil before))
names_of_once before (o ∷ declared) =
    ap (λ l. with_names l (map object_name declared))
    (sym (ap (map object_name) (once-push before o) ∙ names-with_object (once before) o))
    ∙ names_of_once (before ++ o ∷ []) declared
    ∙ ap (λ l. map object_name (once l)) (append_assoc before (o ∷ []) declared)

pub counted_all : (task : Task) (first all : List Name) → first ≡ with_names [] (map object_name task.domain.constants)
    → all ≡ with_names first (map object_name task.problem.objects) → length all ≡ length (world task).objects
counted_all task first all is more =
    ap length (more ∙ ap (λ l. with_names l (map object_name task.problem.objects)) (is ∙ names_of_once [] task.domain.constants)
    ∙ names_of_once task.domain.constants task.problem.objects)
    ∙ sym (map_length object_name (world task).objects)

-- ---- where no action may cost nothing

stops : {A : Type 0} (b : Bool) (code : LimitCode) (next : Unit {0} → Result A LimitCode) → b ≡ false → (checked b code >>= next) ≡ Err code
stops b code next is = ap (λ t. checked t code >>= next) is

none_found : {X : Type 0} (p : X → Bool) (xs : List X) → list_any p xs ≡ false → find p xs ≡ None
none_found p [] none = refl
none_found p (x ∷ xs) none = by_test (p x)
    (λ e. absurd (true≢false (sym (ap (λ t. t || list_any p xs) e) ∙ none)))
    (λ e. ap (λ t. cond t (Some x) (find p xs)) e ∙ none_found p xs (sym (ap (λ t. t || list_any p xs) e) ∙ none))

module _ (task : Task) (terms : Terms) (base : ℕ) (is : base ≡ base_cost task (step_charges terms.step_cost))
    (none : list_any (is_free task base) task.domain.actions ≡ false) where
  none_free : free_action task terms ≡ None
  none_free = sym (free_is task terms base is) ∙ none_found (is_free task base) task.domain.actions none

  pub no_penalty_first : charges_of terms task ≡ None → grounded task terms ≡ Err (NoPenalty task.problem.line)
  no_penalty_first none = no_penalty task terms none_free none

  pub too_many : (penalty : ℕ) → charges_of terms task ≡ Some (charged_with terms.step_cost penalty)
      → nat_le (length (world task).objects) MOST_OBJECTS ≡ false → grounded task terms ≡ Err (Limit Objects)
  too_many penalty charges many =
      is_limited task terms penalty (record { none_free = none_free; charges = charges })
      ∙ ap (limited task terms (charged_with terms.step_cost penalty)) (first_limit many)
    where
      first_limit : nat_le (length (world task).objects) MOST_OBJECTS ≡ false → limits task (charged_with terms.step_cost penalty) ≡ Err Objects
      first_limit many = stops (nat_le (length (world task).objects) MOST_OBJECTS) Objects _ many
