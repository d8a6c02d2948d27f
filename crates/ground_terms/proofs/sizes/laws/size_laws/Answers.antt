use Rattle.ground_terms.proofs.lemmas.sizes.CostSteps.{bindings-valued}
use Rattle.ground_terms.proofs.lemmas.sizes.Forgetting.{made_is_typed, condition_forgets, effect_forgets, den_forgets}
use Rattle.ground_terms.proofs.sizes.laws.size_laws.Goals as goal

pub returns : goal.returns
returns c = record {
  typed = made_is_typed;
  sizes = record { bound = bindings-valued; conditions = condition_forgets; effects = effect_forgets };
  denominators = den_forgets;
}
