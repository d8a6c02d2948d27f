-- The conditions on a row, and the first that fails.
--     IsRight p s act            the act ends at goals alone, and takes an open action
--     UpperFollows p high s act value
--                                the upper value is 0 at a goal, and follows from those of the next states
--     IsIntervalOf g low high lower upper
--                                the interval of the initial states
--     start_sum g v              the sum of the weights of the initial states times their values
--     IsReadAt g low high s claim
--                                off goals the state is read as the claim says
--     HasRoom g s scratch        the scratch has a state as long as s, and room for all actions
--     IsFirstFault p low high s claim fault
--                                which condition fails first, if any: the act, the lower value, the upper value
--     IsFault g ..               of the process of a ground problem
use Rattle.std.specs.Prelude.{◌≡◌, ℕ, ◌*◌, ◌<◌, ◌≤◌, ◌^◌, length, true, false, Option, Some, None, Contains}
use Rattle.decision_process.specs.Process.{Process, at_starts}
use Rattle.decision_process.specs.Balanced.{IsInterval}
use Rattle.decision_process.specs.Following.{IsLowerFrom, IsUpperFrom}
use Rattle.ground_model.specs.Packed.{State}
use Rattle.ground_model.specs.Ground.{Ground}
use Rattle.ground_model.specs.Steps.{ground_process, ground_starts}
use Rattle.certificate_check.specs.declared.row_check.scratch.Scratch.{Scratch}
use Rattle.certificate_check.specs.declared.row_check.act.Act.{Act}
use Rattle.certificate_check.specs.declared.row_check.act.Act.TheVariants.{GiveUp, Goal, Do}
use Rattle.certificate_check.specs.declared.row_check.claim.Claim.{Claim}
use Rattle.certificate_check.specs.declared.row_check.fault.Fault.{Fault}
use Rattle.certificate_check.specs.declared.row_check.fault.Fault.TheVariants as fault

abbrev pub action_of : Act → Option ℕ
action_of GiveUp = None
action_of Goal = None
action_of (Do k) = Some k

module _ (p : Process State ℕ) where
  abbrev pub IsRight : State → Act → Type 0
  IsRight s GiveUp = p.goal s ≡ false
  IsRight s Goal = p.goal s ≡ true
  IsRight s (Do k) = (p.goal s ≡ false) × Contains (p.choices s) k

  pub record UpperFollows (high : State → ℕ) (s : State) (act : Act) (value : ℕ) : Type 0 where
    pub at_goal : p.goal s ≡ true → value ≡ 0
    pub follows : IsUpperFrom p high s (action_of act) value

  module _ (low high : State → ℕ) (s : State) (claim : Claim) where
    abbrev pub IsFirstFault : Option Fault → Type 0
    IsFirstFault None = IsRight s claim.act × IsLowerFrom p low s claim.lower × UpperFollows high s claim.act claim.upper
    IsFirstFault (Some fault.Act) = IsRight s claim.act → ⊥
    IsFirstFault (Some fault.Lower) = IsRight s claim.act × (IsLowerFrom p low s claim.lower → ⊥)
    IsFirstFault (Some fault.Upper) =
        IsRight s claim.act × IsLowerFrom p low s claim.lower × (UpperFollows high s claim.act claim.upper → ⊥)

-- of a ground problem
abbrev pub IsFault : Ground → (State → ℕ) → (State → ℕ) → State → Claim → Option Fault → Type 0
IsFault g low high s claim fault = IsFirstFault (ground_process g) low high s claim fault

abbrev pub start_sum : Ground → (State → ℕ) → ℕ
start_sum g v = at_starts v (ground_starts g)

-- of a ground problem
abbrev pub IsIntervalOf : Ground → (State → ℕ) → (State → ℕ) → ℕ → ℕ → Type 0
IsIntervalOf g low high lower upper = IsInterval low high (ground_starts g) g.start_den lower upper

pub record IsReadAt (g : Ground) (low high : State → ℕ) (s : State) (claim : Claim) : Type 0 where
  pub lower : (ground_process g).goal s ≡ false → claim.lower ≡ low s
  pub upper : (ground_process g).goal s ≡ false → claim.upper ≡ high s

pub record HasRoom (g : Ground) (s : State) (scratch : Scratch) : Type 0 where
  pub words : 64 * length s < 2 ^ 32
  pub next : length scratch.next ≡ length s
  pub codes : length g.actions ≤ scratch.codes.room
