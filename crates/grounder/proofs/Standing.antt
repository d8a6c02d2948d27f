-- The ground problem of parts, and what it is refused for.
use Rattle.std.proofs.Common.{◌≡◌, ℕ, sym, ap, ◌∙◌}
use Rattle.std.specs.Prelude.{Ok, Err}
use Rattle.ppddl_model.specs.declared.tree.Task.{Task}
use Rattle.ppddl_model.specs.Steps.{Charges, Terms}
use Rattle.ppddl_model.specs.WellFormed.{IsWellFormed}
use Rattle.ground_model.specs.Ground.{Ground, of_parts}
use Rattle.ground_meaning.specs.declared.refusals.refusal.GroundRefusal.{GroundRefusal}
use Rattle.ground_meaning.specs.declared.refusals.refusal.GroundRefusal.TheVariants.{CostNotPositive, NoPenalty, Limit, Memory}
use Rattle.ground_meaning.specs.refusals.Laws.{AreInRange, GroundedStands}
use Rattle.ground_meaning.specs.refusals.Limits.{limited, limits, grounded}
use Rattle.ground_meaning.specs.refusals.Problem.{ground_problem}
use Rattle.grounder.specs.costs.Charges.{charged_with}
use Rattle.grounder.specs.declared.parts.Parts.{Parts}
use Rattle.grounder.specs.Answers.{Refuses, StandsFor}
use Rattle.grounder.specs.Charged.{IsCharged}
use Rattle.grounder.specs.Limited.{Limited}
use Rattle.grounder.specs.Parts.{ArePartsOf}
use Rattle.grounder.proofs.Refusing.{is_limited}

abbrev pub made_of : ℕ → Parts → Ground
made_of penalty x = of_parts x.atoms penalty x.ends.starts.list x.ends.starts.den x.ends.goal x.actions

module _ (task : Task) (terms : Terms) (penalty : ℕ) (is : IsCharged task terms penalty) where
  abbrev pub asked : Charges
  asked = charged_with terms.step_cost penalty

  pub limits_refuse : (e : GroundRefusal) → Limited (ArePartsOf task asked) (Err e) (limits task asked) → Refuses (grounded task terms) e
  limits_refuse (CostNotPositive line) refused = absurd refused
  limits_refuse (NoPenalty line) refused = absurd refused
  limits_refuse (Limit code) refused = is_limited task terms penalty is ∙ ap (limited task terms asked) refused
  limits_refuse Memory refused = tt

  problem_is : (x : Parts) → ArePartsOf task asked x → ground_problem task asked ≡ made_of penalty x
  problem_is x are = λ i. of_parts (sym are.atoms i) penalty (sym are.ends.starts i) (sym are.ends.start_den i) (sym are.ends.goal i) (sym are.actions i)

  pub parts_make : (x : Parts) → Limited (ArePartsOf task asked) (Ok x) (limits task asked) → grounded task terms ≡ Ok (made_of penalty x)
  parts_make x found =
      is_limited task terms penalty is ∙ ap (limited task terms asked) found.0 ∙ ap Ok (problem_is x found.1)

pub made_stands : GroundedStands → (task : Task) (terms : Terms) (g : Ground) → IsWellFormed task → AreInRange terms → grounded task terms ≡ Ok g → StandsFor g task terms
made_stands law task terms g well range is = law task terms g well range is
