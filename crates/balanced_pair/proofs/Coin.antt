-- The coin's layers and partial rows meet the premises of the laws, so a certificate over their pair encloses with no row of a state.
use Rattle.std.proofs.Common.{◌≡◌, ℕ, ◌*◌, ◌≤◌, true, false, [], ◌∷◌, Some, refl, subst, inl, inr, arith}
use Rattle.std.specs.Prelude.{Contains}
use Rattle.plain_list.proofs.Members.{Contains-first, Contains-later, Contains-cons_cases, Contains-nil}
use Rattle.plain_list.specs.weighted.Chances.{IsExact}
use Rattle.decision_process.specs.Process.{HasDenominator}
use Rattle.decision_process.specs.Enclosing.{Encloses}
use Rattle.decision_process.specs.Coin.{Side, heads, tails, Move, flip, is_heads, coin, starts, same_side}
use Rattle.balanced_pair.specs.Pairs.{IsBalancedPair, act_over, IsCertificateOver}
use Rattle.balanced_pair.specs.partial_rows.PartialRows.{IsSupported}
use Rattle.balanced_pair.specs.layers.Layers.{paid, IsProjection, IsLayer, IsGroup}
use Rattle.balanced_pair.specs.Coin.{sharing, group, at_heads, until_heads, rows, optimum, certificate}
use Rattle.balanced_pair.proofs.Halves.{halves_are_balanced}
use Rattle.balanced_pair.proofs.Rows.{certificate_encloses}
use Rattle.balanced_pair.proofs.lemmas.partial_rows.Supported.{partial_rows_are_super_solution}
use Rattle.balanced_pair.proofs.lemmas.layers.Groups.{layers_are_sub_solution}

-- a fact of each of one, and of two
of_one : {X : Type 0} (P : X → Type 0) (x : X) → P x → (w : X) → Contains (x ∷ []) w → P w
of_one P x a w inside = elim (Contains-cons_cases x [] w inside) [
  | inl here ↦ subst P here a
  | inr none ↦ absurd (Contains-nil w none)
]

of_two : {X : Type 0} (P : X → Type 0) (x y : X) → P x → P y → (w : X) → Contains (x ∷ y ∷ []) w → P w
of_two P x y a b w inside = elim (Contains-cons_cases x (y ∷ []) w inside) [
  | inl here ↦ subst P here a
  | inr later ↦ of_one P y b w later
]

-- ---- layers

module _ (share : ℕ) where
  is_projection : IsProjection coin (sharing share)
  is_projection = record {
    goals = λ side on. on;
    actions = λ move side positive off is_open. record {
      opens = refl;
      leaves = λ untouched. absurd cc;
      sees = λ touched. (refl, Contains-first heads [], (refl, Contains-first tails [], tt));
    };
  }

  no_value_at_heads : (side : Side) → is_heads side ≡ true → (sharing share).low side ≡ 0
  no_value_at_heads heads on = refl
  no_value_at_heads tails on = absurd cc

  pays : 2 * share ≤ 5000000 → (move : Move) (side : Side) → is_heads side ≡ false
      → (sharing share).low side * 2 ≤ paid (sharing share) ((sharing share).share move) ((sharing share).branches move side)
  pays few move heads off = absurd cc
  pays few move tails off = omega (arith, few)

  within : 2 * share ≤ 5000000 → (side : Side) → (sharing share).low side ≤ 5000000
  within few heads = omega arith
  within few tails = few

  is_layer : 2 * share ≤ 5000000 → IsLayer coin (sharing share)
  is_layer few = record {
    within_penalty = within few;
    at_goal = no_value_at_heads;
    within_step = λ move side off _ _. pays few move side off;
  }

is_group : IsGroup coin group
is_group = record {
  is_projection = of_two (IsProjection coin) (sharing 400000) (sharing 600000) (is_projection 400000) (is_projection 600000);
  is_layer = of_two (IsLayer coin) (sharing 400000) (sharing 600000) (is_layer 400000 (omega arith)) (is_layer 600000 (omega arith));
  penalties = omega arith;
  shares = λ move side off is_open. (omega arith, (omega arith, tt));
}

-- ---- partial rows

is_open : (move : Move) → Contains (flip ∷ []) move
is_open flip = Contains-first flip []

heads_are_supported : IsSupported coin rows at_heads
heads_are_supported side holds = holds

others_are_supported : IsSupported coin rows until_heads
others_are_supported side holds off = record {
  is_open = is_open flip;
  names = Some at_heads ∷ Some until_heads ∷ [];
  leads = (
    λ _. (Contains-first at_heads (until_heads ∷ []), refl),
    (λ _. (Contains-later at_heads (until_heads ∷ []) until_heads (Contains-first until_heads []), refl), tt),
  );
  covers = omega arith;
}

-- ---- the pair

weights : HasDenominator coin
weights move side is_open = refl

pub optimum_is_balanced : IsBalancedPair coin optimum
optimum_is_balanced =
    (halves_are_balanced coin optimum.low optimum.high optimum.act).1 (
      layers_are_sub_solution coin weights (group ∷ []) (of_one (IsGroup coin) group is_group),
      partial_rows_are_super_solution coin rows (of_two (IsSupported coin rows) at_heads until_heads heads_are_supported others_are_supported),
    )

same_is_exact : IsExact same_side
same_is_exact heads heads = (λ _. refl, λ _. refl)
same_is_exact heads tails = (λ e. absurd cc, λ e. absurd cc)
same_is_exact tails heads = (λ e. absurd cc, λ e. absurd cc)
same_is_exact tails tails = (λ _. refl, λ _. refl)

is_over : IsCertificateOver coin same_side optimum starts 1 certificate
is_over = record {
  penalty = refl;
  rows = λ row inside. absurd (Contains-nil row inside);
  interval = record { floor_of_low = refl; ceiling_of_high = refl };
}

pub coin_is_enclosed : Encloses coin starts 1 2000000 2000000 (act_over coin same_side optimum [])
coin_is_enclosed = certificate_encloses coin same_side same_is_exact optimum optimum_is_balanced starts 1 (omega arith) certificate is_over
