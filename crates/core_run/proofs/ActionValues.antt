-- Sums over the choices of an action, within their bounds.
use Rattle.std.proofs.Common.{◌≡◌, ℕ, ◌+◌, ◌*◌, ◌^◌, ◌<◌, ◌≤◌, Bool, List, [], ◌∷◌, length, take, sym, ap, subst, ◌∙◌, arith}
use Rattle.std.specs.Prelude.{All, get_or}
use Rattle.std.proofs.lemmas.List.{take_more}
use Rattle.std.proofs.Math.Nat.{mul-le-mul_left, mul-le-mul_right}
use Rattle.plain_list.specs.weighted.Mean.{total}
use Rattle.plain_list.proofs.lemmas.weighted.Totals.{total-append}
use Rattle.ground_model.specs.declared.action.Choice.{Choice}
use Rattle.ground_model.specs.declared.action.GroundAction.{GroundAction}
use Rattle.ground_model.specs.declared.limits.TheConstants.{MOST_CHOICE_COST}
use Rattle.ground_model.specs.Choices.{cost_of}
use Rattle.ground_model.specs.Invariant.{IsChoice, IsAction}
use Rattle.ground_step.proofs.Outcomes.{cost_within}

pub choice_costs : (n : ℕ) (a : GroundAction) → IsAction n a → (cs : List Choice) → cs ≡ a.choices → (i : ℕ) (c : Choice) → i < length cs
    → c ≡ get_or cs i c → (bit : ℕ → Bool) → cost_of bit c ≤ MOST_CHOICE_COST
choice_costs n a is cs same i c within here bit =
    let each : All (IsChoice n) cs = subst (λ l. All (IsChoice n) l) (sym same) is.choices in
    cost_within n c (subst (IsChoice n) (sym here) (each i c within)) bit

pub term_within : (w x : ℕ) → w < 2 ^ 64 → x ≤ 11 * 10 ^ 13 → w * x ≤ 2 ^ 64 * (11 * 10 ^ 13)
term_within w x small below =
    let at_most : w ≤ 2 ^ 64 = omega arith in
    let first : w * x ≤ w * (11 * 10 ^ 13) = mul-le-mul_left w below in
    let second : w * (11 * 10 ^ 13) ≤ 2 ^ 64 * (11 * 10 ^ 13) = mul-le-mul_right (11 * 10 ^ 13) at_most in
    omega arith

pub total_more : (f : Choice → ℕ) (cs : List Choice) (i : ℕ) (c : Choice) → i < length cs → c ≡ get_or cs i c
    → total f (take (i + 1) cs) ≡ total f (take i cs) + f c
total_more f cs i c within here =
    ap (total f) (take_more cs i c within) ∙ total-append f (take i cs) (get_or cs i c ∷ [])
    ∙ ap (λ d. total f (take i cs) + (f d + 0)) (sym here) ∙ omega arith
