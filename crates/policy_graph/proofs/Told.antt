-- What is told of a state is what the certificate says of it.
use Rattle.std.proofs.Common.{◌≡◌, ℕ, Bool, cond, Option, Some, None, refl, List, get_or, length, ◌<◌, sym, ap, ◌∙◌}
use Rattle.std.specs.Prelude.{option_map}
use Rattle.std.specs.Option.{unwrap_or}
use Rattle.std.proofs.lemmas.List.{get_or_default}
use Rattle.certificate.specs.declared.act.Act.{Act}
use Rattle.certificate.specs.declared.act.Act.TheVariants.{Do}
use Rattle.certificate.specs.Content.{Content}
use Rattle.certificate.specs.Rows.{Row}
use Rattle.certificate_check.specs.Claims.{doing, taken, rows_of, low_in, high_in, act_by}
use Rattle.certificate_check.specs.Laws.{act_in}
use Rattle.decision_process.specs.Readings as readings
use Rattle.decision_process.specs.Readings.{action_of, row_at}
use Rattle.ground_model.specs.Packed.{State, same_state}
use Rattle.ground_model.specs.Ground.{Ground}
use Rattle.ground_model.specs.Steps.{ground_process}
use Rattle.policy_graph.specs.declared.claims.Claim.{Claim}
use Rattle.policy_graph.specs.Claims.{claim_of, untold_claim, told_in}

module _ (g : Ground) (c : Content) (s : State) where
  abbrev Line : Type 0
  Line = readings.Row State ℕ

  low_of : (o : Option Line) → (unwrap_or (option_map claim_of o) (untold_claim g.penalty)).lower
      ≡ elim o [ None ↦ 0 | Some row ↦ row.lower ]
  low_of None = refl
  low_of (Some row) = refl

  high_of : (goal : Bool) (o : Option Line)
      → cond goal 0 (unwrap_or (option_map claim_of o) (untold_claim g.penalty)).upper
      ≡ cond goal 0 (elim o [ None ↦ g.penalty | Some row ↦ row.upper ])
  high_of goal None = refl
  high_of goal (Some row) = refl

  act_of : (o : Option Line) → (unwrap_or (option_map claim_of o) (untold_claim g.penalty)).act
      ≡ elim o [ None ↦ None | Some row ↦ action_of row.act ]
  act_of None = refl
  act_of (Some row) = refl

  pub told_low : (told_in g c s).lower ≡ low_in g c s
  told_low = low_of (row_at same_state (rows_of g c c.rows) s)

  pub told_high : cond ((ground_process g).goal s) 0 (told_in g c s).upper ≡ high_in g c s
  told_high = high_of ((ground_process g).goal s) (row_at same_state (rows_of g c c.rows) s)

  pub told_act : (told_in g c s).act ≡ act_in g c s
  told_act = act_of (row_at same_state (rows_of g c c.rows) s)

-- the code of an act that a table has
pub code_is : (o : Option ℕ) → o ≡ action_of (taken (doing o))
code_is None = refl
code_is (Some k) = refl

pub code_at : (codes codes' : List (Option ℕ)) (act : Act) (i : ℕ) (o : Option ℕ) → act ≡ Do i → codes ≡ codes' → i < length codes
    → o ≡ get_or codes i o → o ≡ action_of (taken (act_by codes' act))
code_at codes codes' act i o is same within read =
    code_is o ∙ ap (λ (x : Option ℕ). action_of (taken (doing x))) (read ∙ get_or_default codes i o None within ∙ ap (λ (l : List (Option ℕ)). get_or l i None) same)
    ∙ ap (λ a. action_of (taken (act_by codes' a))) (sym is)

-- what a row says, with an act
abbrev pub claimed : Row → Option ℕ → Option Claim
claimed r act = Some (record { lower = r.lower; upper = r.upper; act = act })
