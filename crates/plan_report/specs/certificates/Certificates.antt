-- The certificate of what is known when a search has ended.
--     HasNameLists g             each atom's text and each action's name is a list of names in lower case
--     ReadAlike g rows others s  two lists of rows say the same lower and upper value and the same act of the state
--     HasRow rows s              one of the rows is of the state
--     HasDiffering g rows s      one of the rows is of the state, and says more than is known of it at first
--     IsCertificateOf g rows c   a certificate of version 2 with the problem's penalty and the interval over the starts, which is
--                                balanced, says of each state what the rows say, and has a row of exactly the states of which
--                                one says more than is known at first
-- Source: sub- and super-solutions of the Bellman equation (decision_process); certificates of version 2 (certificate).
use Rattle.std.specs.Prelude.{◌≡◌, ◌↔◌, ℕ, List, IsTrue, Contains, All}
use Rattle.decision_process.specs.Readings.{Row, low, high, act}
use Rattle.certificate.specs.Names.{IsNameList}
use Rattle.certificate.specs.Content.{Content}
use Rattle.certificate_check.specs.Claims.{ground_certificate, IsBalancedFor}
use Rattle.ground_model.specs.declared.action.GroundAction.{GroundAction}
use Rattle.ground_model.specs.Packed.{State, same_state}
use Rattle.ground_model.specs.Ground.{Ground}
use Rattle.ground_model.specs.Steps.{ground_process}
use Rattle.bound_core.specs.declared.image.ImageRow.{ImageRow}
use Rattle.bound_core.specs.ends.Closing.{closing_rows, differs}
use Rattle.bound_core.specs.ends.Ends.{closing_low, closing_high}

pub record HasNameLists (g : Ground) : Type 0 where
  pub atoms : All IsNameList g.atoms
  pub actions : All (λ (a : GroundAction). IsNameList a.name) g.actions

pub record ReadAlike (g : Ground) (rows others : List (Row State ℕ)) (s : State) : Type 0 where
  pub low_same : low same_state rows s ≡ low same_state others s
  pub high_same : high (ground_process g) same_state rows s ≡ high (ground_process g) same_state others s
  pub act_same : act same_state rows s ≡ act same_state others s

abbrev pub HasRow : List (Row State ℕ) → State → Type 0
HasRow rows s = (row : Row State ℕ) × Contains rows row × (row.state ≡ s)

abbrev pub HasDiffering : Ground → List ImageRow → State → Type 0
HasDiffering g rows s = (row : ImageRow) × Contains rows row × (row.state ≡ s) × IsTrue (differs g row)

pub record IsCertificateOf (g : Ground) (rows : List ImageRow) (c : Content) : Type 0 where
  pub version : c.version ≡ 2
  pub penalty : c.penalty ≡ g.penalty
  pub lower : c.lower ≡ closing_low g rows
  pub upper : c.upper ≡ closing_high g rows
  pub balanced : IsBalancedFor g c
  pub readings : (s : State) → ReadAlike g (ground_certificate g c).rows (closing_rows rows) s
  pub exact : (s : State) → HasRow (ground_certificate g c).rows s ↔ HasDiffering g rows s
