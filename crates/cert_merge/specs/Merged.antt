-- Two certificates of one ground problem as one.
--     HasRow g c s             the certificate has a row of the state
--     HasRowIn g c d s         one of two certificates has
--     HasMoreStates n g c d    more than n states have a row in either
--     IsMergeOf g c d m        a balanced certificate of version 2, which has a row of exactly the states that have one in either, says
--                              of each state the greater lower and the smaller upper value with the act of the smaller, and at a goal
--                              to end there; its interval lies in both. By names its rows are those of both in order (merged_of)
--     MergeIsOne               two certificates make one such certificate
--     Merges g c d result      the result is such a certificate; `Rows`, exactly where more than MOST_COUNT states have a row in
--                              either; or want of memory
-- Source: sub- and super-solutions of the Bellman equation (decision_process); certificates of version 2 (certificate).
use Rattle.std.specs.Prelude.{◌≡◌, ◌≢◌, ◌⊎◌, ◌↔◌, ℕ, ◌<◌, true, List, length, AllPairs, Contains, Result, Ok, Err}
use Rattle.decision_process.specs.Readings.{Row, AtGoal}
use Rattle.certificate.specs.Content.{Content, IsCertificate, named_rows}
use Rattle.certificate.specs.declared.limits.TheConstants.{MOST_COUNT}
use Rattle.certificate_check.specs.Claims.{ground_certificate, low_in, high_in, IsBalancedFor}
use Rattle.certificate_check.specs.Laws.{act_in}
use Rattle.ground_model.specs.Packed.{State}
use Rattle.ground_model.specs.Ground.{Ground}
use Rattle.ground_model.specs.Steps.{ground_process}
use Rattle.cert_merge.specs.declared.refusal.MergeRefusal.{MergeRefusal}
use Rattle.cert_merge.specs.declared.refusal.MergeRefusal.TheVariants.{Rows, Memory}
use Rattle.cert_merge.specs.Narrower.{greater, smaller, act_of_smaller}
use Rattle.cert_merge.specs.Laws.{LiesIn}
use Rattle.cert_merge.specs.Pairs.{merged_of}

abbrev pub HasRow : Ground → Content → State → Type 0
HasRow g c s = (row : Row State ℕ) × Contains (ground_certificate g c).rows row × (row.state ≡ s)

abbrev pub HasRowIn : Ground → Content → Content → State → Type 0
HasRowIn g c d s = HasRow g c s ⊎ HasRow g d s

pub record HasMoreStates (n : ℕ) (g : Ground) (c d : Content) : Type 0 where
  pub states : List State
  pub distinct : AllPairs (λ s t. s ≢ t) states
  pub have : (s : State) → Contains states s → HasRowIn g c d s
  pub more : n < length states

pub record IsMergeOf (g : Ground) (c d m : Content) : Type 0 where
  pub form : IsCertificate m
  pub version : m.version ≡ 2
  pub balanced : IsBalancedFor g m
  pub rows : (s : State) → HasRow g m s ↔ HasRowIn g c d s
  pub low : (s : State) → low_in g m s ≡ greater (low_in g c) (low_in g d) s
  pub high : (s : State) → high_in g m s ≡ smaller (high_in g c) (high_in g d) s
  pub act : (s : State) → act_in g m s ≡ act_of_smaller (high_in g c) (high_in g d) (act_in g c) (act_in g d) s
  pub goal : (row : Row State ℕ) → Contains (ground_certificate g m).rows row
      → (ground_process g).goal row.state ≡ true → row.act ≡ AtGoal
  pub in_first : LiesIn m.lower m.upper c.lower c.upper
  pub in_second : LiesIn m.lower m.upper d.lower d.upper
  pub named : named_rows m ≡ merged_of c d

abbrev pub MergeIsOne : Type 0
MergeIsOne = (g : Ground) (c d m m' : Content) → IsMergeOf g c d m → IsMergeOf g c d m' → m ≡ m'

abbrev pub Merges : Ground → Content → Content → Result Content MergeRefusal → Type 0
Merges g c d (Ok m) = IsMergeOf g c d m × (HasMoreStates MOST_COUNT g c d → ⊥)
Merges g c d (Err Rows) = HasMoreStates MOST_COUNT g c d
Merges g c d (Err Memory) = Unit {0}
