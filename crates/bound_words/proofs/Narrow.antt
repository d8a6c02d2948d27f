-- What was noted last is noted.
use Rattle.std.proofs.Common.{◌≡◌, ℕ, ◌≤◌, nat_eq, ◌∷◌, refl, sym, subst, arith}
use Rattle.std.proofs.lemmas.Bool.{eq-eqb}
use Rattle.fixed_round.specs.Words.{word_of, value_of, code_of}
use Rattle.decision_process.specs.Least.{CoversFromAbove}
use Rattle.ground_model.specs.Ground.{Ground}
use Rattle.ground_model.specs.Steps.{ground_process}
use Rattle.word_table.specs.declared.view.View.{View}
use Rattle.word_table.specs.view.Views.{number, noted_lower, noted_upper}
use Rattle.word_table.specs.view.Steps.{with_lower_load}
use Rattle.word_table.proofs.lemmas.view.Lists.{is_first}
use Rattle.word_table.specs.rule.Told.{TellsLower, TellsUpper, IsWorth}
use Rattle.bound_words.specs.Intervals.{TellsInterval}
use Rattle.word_table.proofs.lemmas.view.Seen.{greatest_over}

pub loaded_is_noted : (v : View) (id n : ℕ) → n ≤ noted_lower (with_lower_load v id n) id
loaded_is_noted v id n = greatest_over (λ i. nat_eq i id) (number id n ∷ v.lower) (number id n) (is_first (number id n) v.lower) (eq-eqb id id refl)

-- both loads of a reading
pub interval_is_told : (g : Ground) (v : View) (id n word value code : ℕ) → TellsLower g v id n → TellsUpper g (with_lower_load v id n) id word
    → value ≡ value_of word → code ≡ code_of word → TellsInterval g v id (record { lower = n; upper = value; code = code })
interval_is_told g v id n word value code low high values codes =
    let is : word_of value code ≡ word = omega arith in
    let quit = high.within_quit in record {
      lower_narrower = low.narrower;
      upper_narrower = subst (λ x. x ≤ noted_upper v id) (sym is) high.narrower;
      ordered = (let seen = loaded_is_noted v id n in let above = high.ordered in omega arith);
      within_quit = omega arith;
      covers = λ s has. (low.covers s has, subst (λ x. CoversFromAbove (ground_process g) x s) (sym values) (high.worth s has).covers);
      worth = λ s has. subst (IsWorth g s) (sym is) (high.worth s has);
    }
