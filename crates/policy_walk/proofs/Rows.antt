-- The rows of a certificate as a table of acts.
use Rattle.std.proofs.Common.{◌≡◌, ℕ, suc, zero, Bool, true, false, cond, List, [], ◌∷◌, drop, map, filter, Option, None, Some, refl, ap, sym, subst, ◌∙◌, arith}
use Rattle.std.specs.Prelude.{All, Contains, IsTrue}
use Rattle.std.specs.List.{slice_get, AllByRecursion}
use Rattle.std.specs.Map.{lookup}
use Rattle.plain_list.proofs.Members.{Contains-first, Contains-later}
use Rattle.certificate.specs.Rows.{Row}
use Rattle.certificate.specs.Content.{Content}
use Rattle.certificate_check.specs.Claims.{knows, row_state, act_of, taken, row_of, IsBalancedFor}
use Rattle.decision_process.specs.Policies.{IsPolicy}
use Rattle.decision_process.specs.Readings as readings
use Rattle.decision_process.specs.Readings.{action_of, row_at}
use Rattle.ground_model.specs.Packed.{State, same_state}
use Rattle.ground_model.specs.Ground.{Ground}
use Rattle.ground_model.specs.Steps.{ground_process}
use Rattle.policy_walk.specs.Policies.{Table, told, policy_by, act_in}
use Rattle.policy_walk.specs.Tables.{HasRows}

-- ---- lists

pub all_from : {X : Type 0} (P : X → Type 0) (xs : List X) → AllByRecursion P xs → All P xs
all_from P [] all k d below = absurd (omega (arith, below))
all_from P (x ∷ xs) all zero d below = all.0
all_from P (x ∷ xs) all (suc k) d below = all_from P xs all.1 k d (omega (arith, below))

some_is : {X : Type 0} {x y : X} → Some x ≡ Some y → x ≡ y
some_is e = cc

pub at_place : {X : Type 0} (P : X → Type 0) (xs : List X) (i : ℕ) (x : X) → AllByRecursion P xs → slice_get xs i ≡ Some x → P x
at_place P [] i x all found = absurd cc
at_place P (y ∷ xs) zero x all found = subst P (some_is found) all.0
at_place P (y ∷ xs) (suc i) x all found = at_place P xs i x all.1 found

pub from_place : {X : Type 0} (xs : List X) (i : ℕ) (x : X) → slice_get xs i ≡ Some x → drop i xs ≡ x ∷ drop (suc i) xs
from_place [] i x found = absurd cc
from_place (y ∷ xs) zero x found = ap (λ z. z ∷ xs) (some_is found)
from_place (y ∷ xs) (suc i) x found = from_place xs i x found

-- ---- one row more

acts_of : Option (readings.Row State ℕ) → Option ℕ
acts_of row = elim row [ None ↦ None | Some r ↦ action_of r.act ]

put_is : (b : Bool) (action : Option ℕ) (row : readings.Row State ℕ) (had : Option (Option ℕ)) (rest : Option (readings.Row State ℕ))
    → action ≡ action_of row.act → told had ≡ acts_of rest
    → told (cond b (Some action) had) ≡ acts_of (elim b [ true ↦ Some row | false ↦ rest ])
unfolding acts_of
put_is true action row had rest is same = is
put_is false action row had rest is same = same

module _ (g : Ground) (c : Content) where
  pub row_put : (r : Row) (key : State) (action : Option ℕ) (old new : Table) → key ≡ row_state g c r → action ≡ action_of (taken (act_of g c r.act))
      → ((q : State) → lookup (same_state q) new ≡ cond (same_state key q) (Some action) (lookup (same_state q) old))
      → (rows : List Row) → HasRows g c rows old → HasRows g c (r ∷ rows) new
  unfolding acts_of
  row_put r key action old new key_is act_is put rows has s =
      ap told (put s ∙ ap (λ (k : State). cond (same_state k s) (Some action) (lookup (same_state s) old)) key_is)
      ∙ put_is (same_state (row_state g c r) s) action (row_of g c r) (lookup (same_state s) old)
      (row_at same_state (map (row_of g c) rows) s) act_is (has s)

  -- ---- all rows

  all_known : (rows : List Row) → ((r : Row) → Contains rows r → IsTrue (knows g c r)) → filter (knows g c) rows ≡ rows
  all_known [] known = refl
  all_known (r ∷ rows) known =
      ap (λ b. cond b (r ∷ filter (knows g c) rows) (filter (knows g c) rows)) (known r (Contains-first r rows))
      ∙ ap (λ l. r ∷ l) (all_known rows (λ x inside. known x (Contains-later r rows x inside)))

  pub acts_are : IsBalancedFor g c → (t : Table) → HasRows g c c.rows t → policy_by t ≡ act_in g c
  acts_are is t has = λ i s.
      (has s ∙ ap (λ l. readings.act same_state (map (row_of g c) l) s) (sym (all_known c.rows is.atoms_known))) i

  pub is_policy : IsBalancedFor g c → (t : Table) → HasRows g c c.rows t → IsPolicy (ground_process g) (policy_by t)
  is_policy is t has s a off acts =
      (is.balanced.balanced s).high_follows.is_open a off (sym (ap (λ policy. policy s) (acts_are is t has)) ∙ acts)
