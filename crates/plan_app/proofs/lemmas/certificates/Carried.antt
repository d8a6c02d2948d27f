-- Each row is carried to the task.
use Rattle.std.proofs.Common.{◌≡◌, ℕ, zero, suc, ◌<◌, List, [], ◌∷◌, Option, Some, None, length, map, filter, get_or, refl, sym, ap, subst, ◌∙◌, arith, inl, inr}
use Rattle.std.specs.Prelude.{Contains, All, IsTrue, nat_eq}
use Rattle.std.specs.List.{slice_get, AllZip}
use Rattle.std.specs.Cmp.Lexicographic.{pointwise}
use Rattle.std.proofs.lemmas.Bool.{cases_lt, eqb-true}
use Rattle.std.proofs.lemmas.List.{get_or-map, get_or_past, length-map}
use Rattle.std.proofs.lemmas.List.Elements.{All-map, All-head, All-tail}
use Rattle.std.proofs.lemmas.List.Quantifiers.{position-Some}
use Rattle.std.proofs.lemmas.Map.Views.{Contains-from_any}
use Rattle.std.proofs.lemmas.Option.{none-some}
use Rattle.plain_list.proofs.Members.{Contains-cons_cases, Contains-nil, Contains-flat_map_cases}
use Rattle.certificate.specs.declared.act.Act as cert
use Rattle.certificate.specs.declared.act.Act.TheVariants as acts
use Rattle.certificate.specs.Rows as rows
use Rattle.certificate.specs.Content.{Content}
use Rattle.decision_process.specs.Readings.{Row, low, high, act}
use Rattle.decision_process.proofs.Readings.{certificate_encloses}
use Rattle.decision_process.proofs.Ending.{policy_ends}
use Rattle.decision_process.specs.homomorphism.Counterparts.{IsRowActOf, IsRowOf}
use Rattle.ppddl_model.specs.declared.tree.Task.{Task}
use Rattle.ppddl_model.specs.State.{same_state}
use Rattle.ppddl_model.specs.Changing.{kept_instances}
use Rattle.ppddl_model.specs.Steps.{Instance, Charges, starts, start_den, least_step_cost, process}
use Rattle.ppddl_model.proofs.Weights.{weight_of-step}
use Rattle.ppddl_model.proofs.Costs.{steps_cost}
use Rattle.ppddl_model.proofs.Shares.{chances_are_proper}
use Rattle.ground_model.specs.declared.action.GroundAction.{GroundAction}
use Rattle.ground_model.specs.Packed as packed
use Rattle.ground_model.specs.Choices.{is_member}
use Rattle.ground_model.specs.Ground.{Ground}
use Rattle.ground_model.specs.Packed.{is_inside}
use Rattle.ground_model.proofs.Packed.{packed_inside}
use Rattle.ground_step.specs.Names.{place_of, action_names}
use Rattle.ground_meaning.specs.stands.Stands.{by_atoms, IsActionOf, IsGroundOf}
use Rattle.ground_meaning.proofs.lemmas.stands.Same.{same_certificate}
use Rattle.ground_meaning.proofs.lemmas.stands.Standing.{starts_are_carried}
use Rattle.certificate_check.specs.Claims.{listed, number_at, numbers_of, knows, doing, taken, act_of, act_codes, atom_numbers, row_state, row_of, rows_of}
use Rattle.plan_app.specs.certificates.Carried.{taking, carried_act, carried_row, task_certificate}
use Rattle.plan_app.specs.certificates.Laws.{IsCarried, BalanceIsCarried, TaskIsEnclosed, TaskPolicyEnds}

-- a number that a table of places has is below their count
placed : (names texts : List (List ℕ)) (i q : ℕ) → get_or (map (place_of names) texts) i None ≡ Some q → q < length names
placed names texts i q is = elim (cases_lt i (length texts)) [
  | inl within ↦
      let at : place_of names (get_or texts i []) ≡ Some q = sym (get_or-map (place_of names) texts i [] None within) ∙ is in
      (position-Some (pointwise nat_eq (get_or texts i [])) names q [] at).0
  | inr past ↦
      let none : get_or (map (place_of names) texts) i None ≡ None
      = get_or_past (map (place_of names) texts) i None (omega (arith, past, length-map texts (place_of names))) in
      absurd (none-some q (sym none ∙ is))
]

listed_is : (o : Option ℕ) (q : ℕ) → Contains (listed o) q → o ≡ Some q
listed_is None q inside = absurd (Contains-nil q inside)
listed_is (Some p) q inside = elim (Contains-cons_cases p [] q inside) [
  | inl here ↦ ap Some here
  | inr later ↦ absurd (Contains-nil q later)
]

item_there : {X : Type 0} (xs : List X) (k : ℕ) → k < length xs → (x : X) × (slice_get xs k ≡ Some x)
item_there [] k within = absurd (omega arith)
item_there (y ∷ ys) zero within = (y, refl)
item_there (y ∷ ys) (suc k) within = item_there ys k (omega arith)

zip_map : {X Y : Type 0} (R : X → Y → Type 0) (f : X → Y) (xs : List X) → All (λ x. R x (f x)) xs → AllZip R xs (map f xs)
zip_map R f [] all = tt
zip_map R f (x ∷ xs) all = (All-head (λ y. R y (f y)) x xs all, zip_map R f xs (All-tail (λ y. R y (f y)) x xs all))

module _ (g : Ground) (task : Task) (charges : Charges) (is : IsGroundOf g task charges) (c : Content) where
  inside : (r : rows.Row) → IsTrue (is_inside (length g.atoms) (row_state g c r))
  inside r =
      packed_inside (length g.atoms) (is_member (numbers_of (atom_numbers g c) r.atoms)) (λ q on.
      let from : (i : ℕ) × Contains r.atoms i × Contains (listed (number_at (atom_numbers g c) i)) q
      = Contains-flat_map_cases (λ i. listed (number_at (atom_numbers g c) i)) r.atoms q
      (Contains-from_any (λ x y same. eqb-true x y same) q (numbers_of (atom_numbers g c) r.atoms) on) in
      placed g.atoms c.atoms from.0 q (listed_is (number_at (atom_numbers g c) from.0) q from.2))

  kept : (k : ℕ) → k < length (action_names g) → (i : Instance) × (slice_get (kept_instances task) k ≡ Some i)
  kept k within =
      item_there (kept_instances task) k
      (omega (
        arith,
        within,
        length-map g.actions (λ (a : GroundAction). a.name),
        length_zip (IsActionOf g task charges) g.actions (kept_instances task) is.stands.actions,
      ))
    where
      length_zip : {X Y : Type 0} (R : X → Y → Type 0) (xs : List X) (ys : List Y) → AllZip R xs ys → length xs ≡ length ys
      length_zip R [] [] zip = refl
      length_zip R [] (y ∷ ys) zip = absurd zip
      length_zip R (x ∷ xs) [] zip = absurd zip
      length_zip R (x ∷ xs) (y ∷ ys) zip = ap suc (length_zip R xs ys zip.1)

  code_carried : (o : Option ℕ) → ((k : ℕ) → o ≡ Some k → k < length (action_names g))
      → IsRowActOf (by_atoms g task) (taken (doing o)) (carried_act g task (taken (doing o)))
  code_carried None below = tt
  code_carried (Some k) below =
      let there : (i : Instance) × (slice_get (kept_instances task) k ≡ Some i) = kept k (below k refl) in
      subst (λ o. IsRowActOf (by_atoms g task) (taken (doing (Some k))) (taking o)) (sym there.1) there.1

  act_carried : (act : cert.Act) → IsRowActOf (by_atoms g task) (taken (act_of g c act)) (carried_act g task (taken (act_of g c act)))
  act_carried acts.GiveUp = tt
  act_carried acts.Goal = tt
  act_carried (acts.Do i) =
      code_carried (get_or (act_codes g c) i None) (λ k at. placed (action_names g) c.acts i k at)

  row_carried : (r : rows.Row) → IsRowOf (by_atoms g task) (row_of g c r) (carried_row g task (row_of g c r))
  row_carried r = record { valid = inside r; state = refl; lower = refl; upper = refl; act = act_carried r.act }

pub is_carried : IsCarried
is_carried g task charges is c = record {
  penalty = refl;
  rows = zip_map (IsRowOf (by_atoms g task)) (carried_row g task) (rows_of g c c.rows)
      (All-map (λ (x : Row packed.State ℕ). IsRowOf (by_atoms g task) x (carried_row g task x)) (row_of g c) (filter (knows g c) c.rows)
      (λ k d within. row_carried g task charges is c (get_or (filter (knows g c) c.rows) k d)));
  lower = refl;
  upper = refl;
}

pub balance_is_carried : BalanceIsCarried
balance_is_carried g task charges is c =
    same_certificate g task charges is _ (task_certificate g task c) (is_carried g task charges is c)

pub task_is_enclosed : TaskIsEnclosed
task_is_enclosed g task charges is c for =
    certificate_encloses (process task charges) same_state (starts task) (start_den task)
    (starts_are_carried g task charges is).den_positive_there (task_certificate g task c)
    ((balance_is_carried g task charges is c).0 for.balanced)

pub task_policy_ends : TaskPolicyEnds
task_policy_ends g task charges is sums c for =
    policy_ends (process task charges) (low same_state (task_certificate g task c).rows)
    (high (process task charges) same_state (task_certificate g task c).rows) (act same_state (task_certificate g task c).rows)
    ((balance_is_carried g task charges is c).0 for.balanced).balanced
    (weight_of-step task charges (chances_are_proper task sums)) (least_step_cost task charges) (steps_cost task charges)
