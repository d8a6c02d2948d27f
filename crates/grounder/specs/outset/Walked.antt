-- Kept instances that are counted before any of them is formed.
--     one_more w effect          one more, whose effect has this size, or the first limit that is exceeded then
--     many_more w effect n       so many more of this size
--     instances_of task a        the kept instances of an action
--     IsAt task charges n size is whole exact
--                                the limits of all are those of these instances behind n others, of which the ground size is this; where it is not exact, it may be greater, or above its limit already
--     IsReached task charges w is whole
--                                so it is behind those that were counted
--     Follows task base a w r    behind those that were counted, those of the action lead to these, or to the first limit, under all charges with this base cost
--     Stops code exact r         the limit is answered, or nothing where the size may be greater and another limit might come first
use Rattle.std.specs.Prelude.{◌≡◌, ◌⊎◌, ◌≤◌, ℕ, zero, suc, ◌+◌, Bool, true, false, List, ◌++◌, map, Option, Some, None, Result, Ok, Err}
use Rattle.plain_list.specs.Results.{◌>>=◌}
use Rattle.ppddl_model.specs.declared.tree.Action.{Action}
use Rattle.ppddl_model.specs.declared.tree.Task.{Task}
use Rattle.ppddl_model.specs.Steps.{Instance, Charges, base_cost}
use Rattle.ground_meaning.specs.declared.refusals.limits.LimitCode.{LimitCode}
use Rattle.ground_meaning.specs.declared.refusals.limits.LimitCode.TheVariants.{Actions, GroundSize}
use Rattle.ground_meaning.specs.refusals.Limits.{within, instances_within}
use Rattle.grounder.specs.changing_atoms.Atoms.{kept_of}
use Rattle.grounder.specs.declared.outset.walked.Walked.{Walked}

abbrev pub one_more : Walked → ℕ → Result Walked LimitCode
one_more w effect =
    within (w.instances + 1) Actions
    >>= λ _. within (w.size + effect) GroundSize
    >>= λ _. Ok (record { instances = w.instances + 1; size = w.size + effect; is_exact = w.is_exact })

abbrev pub many_more : Walked → ℕ → ℕ → Result Walked LimitCode
many_more w effect zero = Ok w
many_more w effect (suc n) = one_more w effect >>= λ next. many_more next effect n

abbrev pub instances_of : Task → Action → List Instance
instances_of task a = map (λ b. record { action = a; binding = b }) (kept_of task a)

module _ (task : Task) (charges : Charges) where
  abbrev pub IsAt : ℕ → ℕ → List Instance → Result ℕ LimitCode → Bool → Type 0
  IsAt n size is whole true = whole ≡ instances_within task charges n size is
  IsAt n size is whole false = (whole ≡ Err GroundSize) ⊎ ((more : ℕ) × (size ≤ more) × (whole ≡ instances_within task charges n more is))

  abbrev pub IsReached : Walked → List Instance → Result ℕ LimitCode → Type 0
  IsReached w is whole = IsAt w.instances w.size is whole w.is_exact

abbrev pub Follows : Task → ℕ → Action → Walked → Result (Option Walked) LimitCode → Type 0
Follows task base a w (Ok (Some next)) =
    (charges : Charges) → base_cost task charges ≡ base → (rest : List Instance) (whole : Result ℕ LimitCode)
    → IsReached task charges w (instances_of task a ++ rest) whole → IsReached task charges next rest whole
Follows task base a w (Ok None) = Unit {0}
Follows task base a w (Err code) =
    (charges : Charges) → base_cost task charges ≡ base → (rest : List Instance) (whole : Result ℕ LimitCode)
    → IsReached task charges w (instances_of task a ++ rest) whole → whole ≡ Err code

abbrev pub Stops : LimitCode → Bool → Result (Option Walked) LimitCode → Type 0
Stops code exact (Ok (Some w)) = ⊥
Stops code exact (Ok None) = Unit {0}
Stops code exact (Err c) = (c ≡ code) × ((exact ≡ true) ⊎ (code ≡ GroundSize))
