-- Partial rows of a ground problem: a row that passes its test is supported by the others.
use Rattle.std.proofs.Common.{◌≡◌, ℕ, zero, suc, ◌+◌, ◌*◌, ◌/◌, ◌<◌, ◌≤◌, Bool, true, false, cond, List, [], ◌∷◌, map, filter, length, Option, None, Some, refl, sym, ap, subst, inl, inr, ◌∙◌, arith}
use Rattle.std.proofs.lemmas.Bool.{cases_eq}
use Rattle.std.specs.Prelude.{All, Contains, IsTrue}
use Rattle.std.specs.List.{slice_get, range_with_len}
use Rattle.std.proofs.lemmas.Option.{slice_get_within}
use Rattle.std.proofs.lemmas.List.Elements.{All-head, All-tail, All-contains}
use Rattle.std.proofs.Math.Nat.{mul_assoc, mul-le-mul_right}
use Rattle.plain_list.proofs.Members.{Contains-first, Contains-later, Contains-map, Contains-map_cases}
use Rattle.decision_process.specs.Readings.{RowAct, GivesUp, AtGoal, Takes}
use Rattle.balanced_pair.specs.partial_rows.PartialRows.{PartialRow, value_of, counted, LeadsTo, Leads, Covers, IsSupportedBy, IsSupported}
use Rattle.balanced_pair.proofs.lemmas.partial_rows.Supported.{partial_rows_are_super_solution}
use Rattle.ground_model.specs.declared.action.Choice.{Choice}
use Rattle.ground_model.specs.declared.action.GroundAction.{GroundAction}
use Rattle.ground_model.specs.Packed.{State, has_bit, is_inside}
use Rattle.ground_model.specs.Choices.{after, cost_of, next_state}
use Rattle.ground_model.specs.Ground.{Ground}
use Rattle.ground_model.specs.Invariant.{IsChoice, IsAction, IsGroundProblem}
use Rattle.ground_model.specs.Steps.{den_of, is_open_at, is_open, outcome_of, step_at, ground_process}
use Rattle.ground_model.proofs.Next.{next_inside, has_bit-next}
use Rattle.ground_model.proofs.Steps.{times_rest, slice_get-contains, den_above}
use Rattle.partial_states.specs.Known.{Admits, AdmitsEach}
use Rattle.partial_states.specs.Steps.{picked_cost, step_known, held, Decides}
use Rattle.partial_states.specs.ground_rows.GroundRows.{known_at, lies_in, GroundRow, partial_row, rows_of, Successor, upper_of, own_counted, LeadsInto, AreSuccessors, IsTaken, IsGroundRowBy, IsGroundRow}
use Rattle.partial_states.specs.ground_rows.Laws as laws
use Rattle.partial_states.proofs.Facts.{is_known, held_is_decided, next_is_admitted, cost_is_picked}
use Rattle.partial_states.proofs.lemmas.ground_rows.Lying.{lies_inside, lies_admitted, entailed_lies}

-- ---- the choices of a row's action

abbrev name_of : ℕ → Option GroundRow → Option (PartialRow State ℕ)
name_of n None = None
name_of n (Some row) = Some (partial_row n row)

name_value : (n quit : ℕ) (name : Option GroundRow) → value_of quit (name_of n name) ≡ upper_of quit name
name_value n quit None = refl
name_value n quit (Some row) = refl

name_leads : (n : ℕ) (rows : List GroundRow) (name : Option GroundRow) (known : ℕ → Option Bool) (s : State)
    → IsTrue (is_inside n s) → AdmitsEach known (has_bit s) → LeadsInto rows known name
    → LeadsTo (map (partial_row n) rows) (name_of n name) s
name_leads n rows None known s inside admitted leads = leads
name_leads n rows (Some row) known s inside admitted leads =
    (Contains-map (partial_row n) rows row leads.0, entailed_lies n s row.state known inside admitted leads.1)

scaled_choice : (w scale cost value rest : ℕ) → w * scale * (cost + value) + rest * scale ≡ (w * (cost + value) + rest) * scale
scaled_choice w scale cost value rest = grind arith

module _ (n : ℕ) (rows : List GroundRow) (s : State) (inside : IsTrue (is_inside n s)) (known : ℕ → Option Bool)
    (admitted : AdmitsEach known (has_bit s)) where
  next_known : (c : Choice) → IsChoice n c → (picked : List Bool) → Decides known c.guarded picked
      → AdmitsEach (step_known known c picked) (has_bit (next_state s c))
  next_known c is picked decides q =
      let there : Admits (step_known known c (held (has_bit s) c.guarded) q) (after (has_bit s) c q)
      = next_is_admitted (has_bit s) known admitted c q in
      let here : Admits (step_known known c (held (has_bit s) c.guarded) q) (has_bit (next_state s c) q)
      = subst (λ b. Admits (step_known known c (held (has_bit s) c.guarded) q) b) (sym (has_bit-next n c is s inside q)) there in
      subst (λ flags. Admits (step_known known c flags q) (has_bit (next_state s c) q))
      (held_is_decided (has_bit s) known admitted c.guarded picked decides) here

  choice_cost : (c : Choice) (picked : List Bool) → Decides known c.guarded picked
      → cost_of (has_bit s) c ≡ c.cost + picked_cost picked c.guarded
  choice_cost c picked decides =
      ap (λ m. c.cost + m) (cost_is_picked (has_bit s) c.guarded
      ∙ ap (λ flags. picked_cost flags c.guarded) (held_is_decided (has_bit s) known admitted c.guarded picked decides))

  module _ (scale quit : ℕ) where
    successors_lead : (successors : List Successor) (choices : List Choice) → All (IsChoice n) choices → AreSuccessors rows known successors choices
        → Leads (map (partial_row n) rows) (map (λ (x : Successor). name_of n x.row) successors) (map (outcome_of scale s) choices)
    successors_lead [] [] each follows = tt
    successors_lead [] (c ∷ choices) each follows = absurd follows
    successors_lead (x ∷ successors) [] each follows = absurd follows
    successors_lead (x ∷ successors) (c ∷ choices) each follows =
        let is : IsChoice n c = All-head (IsChoice n) c choices each in (
          λ _. name_leads n rows x.row (step_known known c x.picked) (next_state s c) (next_inside n c is s inside)
              (next_known c is x.picked follows.0) follows.1,
          successors_lead successors choices (All-tail (IsChoice n) c choices each) follows.2,
        )

    successors_counted : (successors : List Successor) (choices : List Choice) → AreSuccessors rows known successors choices
        → counted quit (map (λ (x : Successor). name_of n x.row) successors) (map (outcome_of scale s) choices) ≡ own_counted quit successors choices * scale
    successors_counted [] [] follows = omega arith
    successors_counted [] (c ∷ choices) follows = absurd follows
    successors_counted (x ∷ successors) [] follows = absurd follows
    successors_counted (x ∷ successors) (c ∷ choices) follows =
        ap (λ m. c.weight * scale * (m + value_of quit (name_of n x.row))
        + counted quit (map (λ (y : Successor). name_of n y.row) successors) (map (outcome_of scale s) choices)) (choice_cost c x.picked follows.0)
        ∙ ap (λ m. c.weight * scale * (c.cost + picked_cost x.picked c.guarded + m)
        + counted quit (map (λ (y : Successor). name_of n y.row) successors) (map (outcome_of scale s) choices)) (name_value n quit x.row)
        ∙ ap (λ m. c.weight * scale * (c.cost + picked_cost x.picked c.guarded + upper_of quit x.row) + m) (successors_counted successors choices follows.2)
        ∙ scaled_choice c.weight scale (c.cost + picked_cost x.picked c.guarded) (upper_of quit x.row) (own_counted quit successors choices)

-- ---- open actions

filtered : (p : ℕ → Bool) (a n k : ℕ) → a ≤ k → k < a + n → p k ≡ true → Contains (filter p (range_with_len a n)) k
filtered p a zero k first last on = absurd (omega arith)
filtered p a (suc n) k first last on = elim (cases_eq a k) [
  | inl same ↦
      let here : p a ≡ true = ap p same ∙ on in
      subst (λ b. Contains (cond b (a ∷ filter p (range_with_len (a + 1) n)) (filter p (range_with_len (a + 1) n))) k) (sym here)
      (subst (λ x. Contains (a ∷ filter p (range_with_len (a + 1) n)) x) same (Contains-first a (filter p (range_with_len (a + 1) n))))
  | inr apart ↦
      let rest : Contains (filter p (range_with_len (a + 1) n)) k = filtered p (a + 1) n k (omega arith) (omega arith) on in
      elim (p a) as (λ b. Contains (cond b (a ∷ filter p (range_with_len (a + 1) n)) (filter p (range_with_len (a + 1) n))) k) [
        | true ↦ Contains-later a (filter p (range_with_len (a + 1) n)) k rest
        | false ↦ rest
      ]
]

code_open : (g : Ground) (s : State) (k : ℕ) (a : GroundAction) → slice_get g.actions k ≡ Some a → is_open g k s ≡ true
    → Contains ((ground_process g).choices s) k
code_open g s k a there on =
    filtered (λ j. is_open g j s) 0 (length g.actions) k (omega arith)
    (let below = slice_get_within g.actions k a there in omega arith) on

-- ---- the rows

module _ (g : Ground) (is : IsGroundProblem g) (rows : List GroundRow) where
  taken_covers : (k : ℕ) (row : GroundRow) → IsTaken g rows k row → (s : State) → lies_in (length g.atoms) s row.state ≡ true
      → Covers (ground_process g) (rows_of g rows) k row.upper s
  taken_covers k row taken s lies =
      let n : ℕ = length g.atoms in
      let a : GroundAction = taken.action in
      let scale : ℕ = den_of g.actions / a.den in
      let inside : IsTrue (is_inside n s) = lies_inside n s row.state lies in
      let admitted : AdmitsEach (known_at row.state) (has_bit s) = lies_admitted n s row.state lies in
      let member : Contains g.actions a = slice_get-contains g.actions k a taken.has_code in
      let opens : is_open g k s ≡ true
      = ap (λ found. is_open_at found s) taken.has_code
      ∙ is_known (has_bit s) (known_at row.state) admitted a.condition true taken.opens in
      let names : List (Option (PartialRow State ℕ)) = map (λ (x : Successor). name_of n x.row) taken.successors in
      let step : step_at (den_of g.actions) (slice_get g.actions k) s ≡ map (outcome_of scale s) a.choices
      = ap (λ found. step_at (den_of g.actions) found s) taken.has_code in
      let sum : counted g.penalty names (map (outcome_of scale s) a.choices) ≡ own_counted g.penalty taken.successors a.choices * scale
      = successors_counted n rows s inside (known_at row.state) admitted scale g.penalty taken.successors a.choices taken.follow in
      let whole : row.upper * a.den * scale ≡ row.upper * den_of g.actions
      = mul_assoc row.upper a.den scale
      ∙ ap (λ m. row.upper * m) (times_rest g.actions a member (den_above g is a member)) in
      let scaled : own_counted g.penalty taken.successors a.choices * scale ≤ row.upper * a.den * scale
      = mul-le-mul_right scale taken.covers in
      record {
        is_open = code_open g s k a taken.has_code opens;
        names = names;
        leads = subst (λ outcomes. Leads (map (partial_row n) rows) names outcomes) (sym step)
            (successors_lead n rows s inside (known_at row.state) admitted scale g.penalty taken.successors a.choices
            (All-contains (IsAction n) g.actions a is.actions member).choices taken.follow);
        covers = subst (λ outcomes. counted g.penalty names outcomes ≤ row.upper * den_of g.actions) (sym step)
            (omega (arith, sum, scaled, whole));
      }

  supported_by : (act : RowAct ℕ) (row : GroundRow) → IsGroundRowBy g rows act row
      → IsSupportedBy (ground_process g) (rows_of g rows) act (partial_row (length g.atoms) row)
  supported_by AtGoal row passes =
      λ s lies. is_known (has_bit s) (known_at row.state) (lies_admitted (length g.atoms) s row.state lies) g.goal true passes
  supported_by GivesUp row passes = passes
  supported_by (Takes k) row passes = λ s lies off. taken_covers k row passes s lies

  pub rows_are_supported : ((row : GroundRow) → Contains rows row → IsGroundRow g rows row)
      → (row : PartialRow State ℕ) → Contains (rows_of g rows) row
      → IsSupported (ground_process g) (rows_of g rows) row
  rows_are_supported each row inside =
      let found = Contains-map_cases (partial_row (length g.atoms)) rows row inside in
      subst (λ x. IsSupported (ground_process g) (rows_of g rows) x) found.2
      (supported_by found.0.act found.0 (each found.0 found.1))

pub ground_rows_are_super_solution : (g : Ground) → IsGroundProblem g → laws.GroundRowsAreSuperSolution g
ground_rows_are_super_solution g is rows each =
    partial_rows_are_super_solution (ground_process g) (rows_of g rows) (rows_are_supported g is rows each)
