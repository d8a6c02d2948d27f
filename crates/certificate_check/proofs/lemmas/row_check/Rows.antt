-- What a pass over the open actions says of a row.
--     SidesAmong g low high s act codes sides
--                          the sides, as far as the open actions with these codes say
use Rattle.std.proofs.Common.{◌≡◌, ℕ, ◌*◌, ◌<◌, ◌≤◌, min, false, cond, List, [], ◌∷◌, ◌++◌, length, Option, Some, None, refl, sym, ap, subst, inl, inr, ◌∙◌, true≢false, get_or, arith}
use Rattle.std.specs.Prelude.{Contains}
use Rattle.std.specs.List.{slice_get}
use Rattle.std.proofs.Math.Nat.{lt_of_mul-lt-mul_right}
use Rattle.std.proofs.lemmas.List.Elements.{All-get_or, Contains-get_or, Contains-append_left, Contains-push, Contains-push_cases}
use Rattle.std.proofs.lemmas.Option.{slice_get_read}
use Rattle.plain_list.proofs.Members.{Contains-nil}
use Rattle.decision_process.specs.Process.{min_with}
use Rattle.decision_process.specs.Backup.{floor, ceiling, lower_candidate, upper_candidate}
use Rattle.decision_process.proofs.Rounding.{floor_is_greatest}
use Rattle.ground_model.specs.declared.action.GroundAction.{GroundAction}
use Rattle.ground_model.specs.Packed.{State}
use Rattle.ground_model.specs.Ground.{Ground}
use Rattle.ground_model.specs.Invariant.{IsAction, IsGroundProblem}
use Rattle.ground_model.specs.Steps.{ground_process, own_action_value}
use Rattle.ground_model.proofs.OwnDen.{lower_candidate_by_own_den, upper_candidate_by_own_den}
use Rattle.certificate_check.specs.declared.row_check.act.Act.{Act}
use Rattle.certificate_check.specs.declared.row_check.act.Act.TheVariants.{GiveUp, Goal, Do}
use Rattle.certificate_check.specs.declared.row_check.sides.Sides.{Sides}
use Rattle.certificate_check.specs.row_check.Sides.{IsLeastUpper, AreSides, quitting}

pub action_is : (g : Ground) → IsGroundProblem g → (k : ℕ) (a : GroundAction) → k < length g.actions → a ≡ get_or g.actions k a
    → IsAction (length g.atoms) a
action_is g is k a within read =
    subst (IsAction (length g.atoms)) (sym read) (All-get_or (IsAction (length g.atoms)) g.actions k a within is.actions)

pub listed : (codes choices : List ℕ) (i : ℕ) → codes ≡ choices → i < length codes → Contains choices (get_or codes i 0)
listed codes choices i same within = subst (λ (xs : List ℕ). Contains xs (get_or codes i 0)) same (Contains-get_or codes i 0 within)

earlier : (codes : List ℕ) (k j : ℕ) → (k ≡ j → ⊥) → Contains (codes ++ k ∷ []) j → Contains codes j
earlier codes k j other member = elim (Contains-push_cases codes k j member) [
  | inl before ↦ before
  | inr last ↦ absurd (other last)
]

-- ---- the least so far

min_with-push : {A : Type 0} (top : ℕ) (f : A → ℕ) (xs : List A) (x : A) → min_with top f (xs ++ x ∷ []) ≡ min (min_with top f xs) (f x)
min_with-push top f [] x = grind arith
min_with-push top f (y ∷ xs) x = let more = min_with-push top f xs x in grind (arith, more)

-- a quotient that is below another number, and one that is not, by their product
pub quotient-lt : (least x d : ℕ) → 0 < d → x < least * d → floor x d < least
quotient-lt least x d positive below =
    let scaled : floor x d * d < least * d = omega (arith, (floor_is_greatest (floor x d) x d positive).0 (omega arith), below) in
    lt_of_mul-lt-mul_right d scaled

pub least_is_quotient : (least x d : ℕ) → 0 < d → x < least * d → min least (floor x d) ≡ floor x d
least_is_quotient least x d positive below = let smaller = quotient-lt least x d positive below in grind (arith, smaller)

pub least_stays : (least x d : ℕ) → 0 < d → least * d ≤ x → min least (floor x d) ≡ least
least_stays least x d positive above =
    let within : least ≤ floor x d = (floor_is_greatest least x d positive).1 above in grind (arith, within)

module _ (g : Ground) (low high : State → ℕ) (s : State) where
  abbrev pub candidate : ℕ → ℕ
  candidate k = lower_candidate (ground_process g) low k s

  abbrev pub UpperAmong : Act → List ℕ → Option ℕ → Type 0
  UpperAmong GiveUp codes o = o ≡ Some g.penalty
  UpperAmong Goal codes o = o ≡ None
  UpperAmong (Do k) codes None = Contains codes k → ⊥
  UpperAmong (Do k) codes (Some n) = Contains codes k × (n ≡ upper_candidate (ground_process g) high k s)

  pub record SidesAmong (act : Act) (codes : List ℕ) (sides : Sides) : Type 0 where
    pub lower : sides.greatest_lower ≡ min_with g.penalty candidate codes
    pub upper : UpperAmong act codes sides.least_upper

  -- ---- none yet, and one action more

  pub upper_of_none : (act : Act) → UpperAmong act [] (quitting g.penalty act)
  upper_of_none GiveUp = refl
  upper_of_none Goal = refl
  upper_of_none (Do k) = λ member. Contains-nil k member

  pub upper_kept : (act : Act) (codes : List ℕ) (k : ℕ) (o : Option ℕ) → (act ≡ Do k → ⊥) → UpperAmong act codes o
      → UpperAmong act (codes ++ k ∷ []) o
  upper_kept GiveUp codes k o other so_far = so_far
  upper_kept Goal codes k o other so_far = so_far
  upper_kept (Do j) codes k None other so_far =
      λ member. so_far (earlier codes k j (λ same. other (λ i. Do (sym same i))) member)
  upper_kept (Do j) codes k (Some n) other so_far = (Contains-append_left codes (k ∷ []) j so_far.0, so_far.1)

  pub upper_own : (act : Act) (codes : List ℕ) (k n : ℕ) → act ≡ Do k → n ≡ upper_candidate (ground_process g) high k s
      → UpperAmong act (codes ++ k ∷ []) (Some n)
  upper_own act codes k n is value =
      subst (λ a. UpperAmong a (codes ++ k ∷ []) (Some n)) (sym is) (Contains-push codes k, value)

  pub lower_more : (codes : List ℕ) (k least next value : ℕ) → least ≡ min_with g.penalty candidate codes → value ≡ candidate k
      → min least value ≡ next → next ≡ min_with g.penalty candidate (codes ++ k ∷ [])
  lower_more codes k least next value so_far is smaller =
      sym smaller ∙ (λ i. min (so_far i) (is i)) ∙ sym (min_with-push g.penalty candidate codes k)

  -- ---- all actions

  module _ (off : (ground_process g).goal s ≡ false) where
    upper_of_all : (act : Act) (o : Option ℕ) → UpperAmong act ((ground_process g).choices s) o
        → IsLeastUpper (ground_process g) high s act o
    upper_of_all GiveUp o all = subst (IsLeastUpper (ground_process g) high s GiveUp) (sym all) (off, refl)
    upper_of_all Goal o all =
        subst (IsLeastUpper (ground_process g) high s Goal) (sym all) (λ on. absurd (true≢false (sym on ∙ off)))
    upper_of_all (Do k) None all = λ right. all right.1
    upper_of_all (Do k) (Some n) all = ((off, all.0), all.1)

    pub sides_of_all : (act : Act) (sides : Sides) → SidesAmong act ((ground_process g).choices s) sides
        → AreSides (ground_process g) low high s act sides
    sides_of_all act sides all = record {
      greatest_lower = all.lower ∙ sym (ap (λ b. cond b 0 (min_with g.penalty candidate ((ground_process g).choices s))) off);
      least_upper = upper_of_all act sides.least_upper all.upper;
    }

-- ---- values of an action by its own denominator

module _ (g : Ground) (is : IsGroundProblem g) (v : State → ℕ) (s : State) (k : ℕ) (a : GroundAction)
    (within : k < length g.actions) (read : a ≡ get_or g.actions k a) (sum den : ℕ)
    (sum_is : sum ≡ own_action_value v a s) (den_is : den ≡ a.den) where
  found : slice_get g.actions k ≡ Some a
  found = slice_get_read g.actions (length g.actions) k a refl within read

  pub lower_found : floor sum den ≡ lower_candidate (ground_process g) v k s
  lower_found = (λ i. floor (sum_is i) (den_is i)) ∙ sym (lower_candidate_by_own_den g is v k a s found)

  pub upper_found : ceiling sum den ≡ upper_candidate (ground_process g) v k s
  upper_found = (λ i. ceiling (sum_is i) (den_is i)) ∙ sym (upper_candidate_by_own_den g is v k a s found)
