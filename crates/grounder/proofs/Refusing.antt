-- What is refused before limits, and what is left where nothing is.
use Rattle.std.proofs.Common.{◌≡◌, ℕ, None, ap, ◌∙◌}
use Rattle.std.specs.Prelude.{Result, Err}
use Rattle.std.specs.List.{find}
use Rattle.plain_list.specs.Results.{◌>>=◌}
use Rattle.ppddl_model.specs.declared.tree.Task.{Task}
use Rattle.ppddl_model.specs.Steps.{Charges, Terms, charges_of, base_cost}
use Rattle.ground_model.specs.Ground.{Ground}
use Rattle.ground_meaning.specs.declared.refusals.refusal.GroundRefusal.{GroundRefusal}
use Rattle.ground_meaning.specs.declared.refusals.refusal.GroundRefusal.TheVariants.{NoPenalty}
use Rattle.ground_meaning.specs.refusals.Limits.{free_action, refused_by, charged, limited, limits, grounded}
use Rattle.grounder.specs.costs.Charges.{step_charges, is_free, charged_with}
use Rattle.grounder.specs.Charged.{IsCharged}

pub free_is : (task : Task) (terms : Terms) (base : ℕ) → base ≡ base_cost task (step_charges terms.step_cost)
    → find (is_free task base) task.domain.actions ≡ free_action task terms
free_is task terms base is = ap (λ b. find (is_free task b) task.domain.actions) is

module _ (task : Task) (terms : Terms) where
  abbrev pub then_limits : Result Charges GroundRefusal → Result Ground GroundRefusal
  then_limits r = r >>= λ charges. limited task terms charges (limits task charges)

  abbrev pub then_charged : Result (Unit {0}) GroundRefusal → Result Ground GroundRefusal
  then_charged r = r >>= λ _. then_limits (charged task terms (charges_of terms task))

  pub no_penalty : free_action task terms ≡ None → charges_of terms task ≡ None → grounded task terms ≡ Err (NoPenalty task.problem.line)
  no_penalty free none = ap (λ f. then_charged (refused_by task terms f)) free ∙ ap (λ c. then_limits (charged task terms c)) none

  pub is_limited : (penalty : ℕ) → IsCharged task terms penalty
      → grounded task terms
      ≡ limited task terms (charged_with terms.step_cost penalty) (limits task (charged_with terms.step_cost penalty))
  is_limited penalty is =
      ap (λ f. then_charged (refused_by task terms f)) is.none_free ∙ ap (λ c. then_limits (charged task terms c)) is.charges
