-- Steps leave the atoms that are no changing atoms alone, and starts have of them exactly the facts.
use Rattle.std.proofs.Common.{◌≡◌, ℕ, zero, suc, ◌-◌, ◌*◌, ◌^◌, Bool, true, false, cond, not, ◌&&◌, ◌||◌, List, [], ◌∷◌, ◌++◌, map, refl, sym, ap, ◌∙◌}
use Rattle.std.specs.Prelude.{All, Contains, filter, flat_map}
use Rattle.std.specs.List.{list_any}
use Rattle.std.proofs.lemmas.List.Folds.{list_any-append, list_any_none}
use Rattle.std.proofs.lemmas.List.Elements.{All-nil, All-cons, All-head, All-tail, All-append, All-map, All-weaker, All-contains, All-contains_itself}
use Rattle.plain_list.specs.weighted.Mean.{total, products}
use Rattle.decision_process.specs.Process.{Outcome, Start}
use Rattle.decision_process.specs.Levels.{nexts, successors, near, IsReachable}
use Rattle.ppddl_model.specs.declared.tree.Atom.{Atom}
use Rattle.ppddl_model.specs.declared.tree.Effect.{Effect, Row_of-Effect, end_of-Effect, more_of-Effect, Row_of-Branch, end_of-Branch, more_of-Branch}
use Rattle.ppddl_model.specs.declared.tree.Effect.TheVariants.{Add, Delete, Both', Forall', When', Chance', Cost, CostOf}
use Rattle.ppddl_model.specs.declared.tree.InitBranch.{InitBranch}
use Rattle.ppddl_model.specs.declared.tree.InitItem.{InitItem}
use Rattle.ppddl_model.specs.declared.tree.InitItem.TheVariants.{Fact, Chance, Value}
use Rattle.ppddl_model.specs.declared.tree.Task.{Task}
use Rattle.ppddl_model.specs.State.{GroundAtom, same_atom, State, no_atoms, has, with_atom, without}
use Rattle.ppddl_model.specs.Objects.{World, Binding, ground_atom, bindings}
use Rattle.ppddl_model.specs.Truth.{holds}
use Rattle.ppddl_model.specs.Denominator.{share, draws, draws_branches, common_denominator}
use Rattle.ppddl_model.specs.Outcomes.{Entry, nothing, joined, products_with, products_of, weighed, with_rest, outcomes, outcomes_each, outcomes_branches}
use Rattle.ppddl_model.specs.Steps.{Instance, Charges, world, open_instances, is_goal, after, outcome_of, step, process, true_at_first, item_outcomes, starts}
use Rattle.ppddl_model.specs.Changing.{atoms_by_chance, chance_atoms, fact_atoms, facts, literals, literals_each, literals_branches, kept_instances, changing_atoms, has_text, is_changing, is_fact, fixed_facts, state_of_texts, Agrees}
use Rattle.ppddl_model.proofs.Lists.{All-append_left, All-append_right, All-from_map, All-from_flat_map, All-flat_map, All-products, All-positive}
use Rattle.ppddl_model.proofs.States.{same_atom-Decides, has-with_atom, has-with_atoms, has-union, has-without, and_true, or_assoc}
use Rattle.ppddl_model.proofs.Knowing.{and_none, or_none, open_is_kept}

or_parts : (a b : Bool) → (a || b) ≡ false → (a ≡ false) × (b ≡ false)
or_parts true b none = absurd cc
or_parts false b none = (refl, none)

-- a test that no member passes
none_passes : {X : Type 0} (p : X → Bool) (xs : List X) → list_any p xs ≡ false → All (λ x. p x ≡ false) xs
none_passes p [] none = All-nil (λ x. p x ≡ false)
none_passes p (x ∷ xs) none =
    let parts = or_parts (p x) (list_any p xs) none in
    All-cons (λ y. p y ≡ false) x xs parts.0 (none_passes p xs parts.1)

-- ---- what an effect leaves alone

module _ (q : GroundAtom) where
  abbrev Apart : List GroundAtom → Type 0
  Apart atoms = All (λ a. same_atom q a ≡ false) atoms

  -- the entry neither adds nor deletes it
  pub record Leaves (x : Entry) : Type 0 where
    pub adds : has x.adds q ≡ false
    pub deletes : has x.deletes q ≡ false

  leaves_nothing : (weight : ℕ) → Leaves (nothing weight)
  leaves_nothing weight = record { adds = refl; deletes = refl }

  both_false : (a b : Bool) → a ≡ false → b ≡ false → (a || b) ≡ false
  both_false a b here there = ap (λ c. c || b) here ∙ there

  leaves_joined : (x y : Entry) → Leaves x → Leaves y → Leaves (joined x y)
  leaves_joined x y here there = record {
    adds = has-union x.adds y.adds q ∙ both_false (has x.adds q) (has y.adds q) here.adds there.adds;
    deletes = has-union x.deletes y.deletes q ∙ both_false (has x.deletes q) (has y.deletes q) here.deletes there.deletes;
  }

  leaves_products : (xs ys : List Entry) → All Leaves xs → All Leaves ys → All Leaves (products joined xs ys)
  leaves_products = All-products joined Leaves Leaves Leaves leaves_joined

  leaves_products_with : {X : Type 0} (entries : X → List Entry) (done : List Entry) (xs : List X)
      → All (λ x. All Leaves (entries x)) xs → All Leaves done → All Leaves (products_with done (map entries xs))
  leaves_products_with entries done [] each so_far = so_far
  leaves_products_with entries done (x ∷ xs) each so_far =
      leaves_products_with entries (products joined done (entries x)) xs (All-tail (λ y. All Leaves (entries y)) x xs each)
      (leaves_products done (entries x) so_far (All-head (λ y. All Leaves (entries y)) x xs each))

  leaves_with_rest : (whole : ℕ) (xs : List Entry) → All Leaves xs → All Leaves (with_rest whole xs)
  leaves_with_rest whole xs each =
      let rest : ℕ = whole - total (λ (x : Entry). x.weight) xs in
      All-append Leaves xs (nothing rest ∷ []) each (All-cons Leaves (nothing rest) [] (leaves_nothing rest) (All-nil Leaves))

  alone : (x : Entry) → Leaves x → All Leaves (x ∷ [])
  alone x leaves = All-cons Leaves x [] leaves (All-nil Leaves)

  apart_from_one : (a : GroundAtom) → same_atom q a ≡ false → has (with_atom no_atoms a) q ≡ false
  apart_from_one a apart = has-with_atom no_atoms a q ∙ ap (λ b. b || false) apart

  module _ (w : World) (den : ℕ) where
    mutual
      outcomes_leave : (e : Effect) (b : Binding) (s : State) → Apart (literals w e b) → All Leaves (outcomes w den e b s)
      outcomes_leave (Add a) b s apart =
          alone _ (record { adds = apart_from_one (ground_atom b a) (All-head (λ x. same_atom q x ≡ false) (ground_atom b a) [] apart); deletes = refl })
      outcomes_leave (Delete a) b s apart =
          alone _ (record { adds = refl; deletes = apart_from_one (ground_atom b a) (All-head (λ x. same_atom q x ≡ false) (ground_atom b a) [] apart) })
      outcomes_leave (Both' shape es) b s apart = each_leaves es b s apart (nothing 1 ∷ []) (alone (nothing 1) (leaves_nothing 1))
      outcomes_leave (Forall' params u (more_of-Effect e end_of-Effect)) b s apart =
          leaves_products_with (λ c. outcomes w den e c s) (nothing 1 ∷ []) (bindings w params b)
          (All-weaker (λ c. Apart (literals w e c)) (λ c. All Leaves (outcomes w den e c s)) (λ c. outcomes_leave e c s) (bindings w params b)
          (All-from_flat_map (λ a. same_atom q a ≡ false) (λ c. literals w e c) (bindings w params b) apart)) (alone (nothing 1) (leaves_nothing 1))
      outcomes_leave (When' c u (more_of-Effect e end_of-Effect)) b s apart =
          elim (holds w c b s) as (λ h. All Leaves (cond h (outcomes w den e b s) (nothing (den ^ draws w e) ∷ []))) [
            | true ↦ outcomes_leave e b s apart
            | false ↦ alone (nothing (den ^ draws w e)) (leaves_nothing (den ^ draws w e))
          ]
      outcomes_leave (Chance' shape branches) b s apart =
          leaves_with_rest _ (outcomes_branches w den (draws_branches w branches) branches b s)
          (branches_leave (draws_branches w branches) branches b s apart)
      outcomes_leave (Cost v) b s apart = alone _ (record { adds = refl; deletes = refl })
      outcomes_leave (CostOf a) b s apart = alone _ (record { adds = refl; deletes = refl })

      each_leaves : {n : _} (es : Row_of-Effect n) (b : Binding) (s : State) → Apart (literals_each w es b)
          → (done : List Entry) → All Leaves done → All Leaves (products_with done (outcomes_each w den es b s))
      each_leaves end_of-Effect b s apart done so_far = so_far
      each_leaves (more_of-Effect e es) b s apart done so_far =
          let here = All-append_left (λ a. same_atom q a ≡ false) (literals w e b) (literals_each w es b) apart in
          let there = All-append_right (λ a. same_atom q a ≡ false) (literals w e b) (literals_each w es b) apart in
          each_leaves es b s there (products joined done (outcomes w den e b s))
          (leaves_products done (outcomes w den e b s) so_far (outcomes_leave e b s here))

      branches_leave : {n : _} (most : ℕ) (branches : Row_of-Branch n) (b : Binding) (s : State) → Apart (literals_branches w branches b)
          → All Leaves (outcomes_branches w den most branches b s)
      branches_leave most end_of-Branch b s apart = All-nil Leaves
      branches_leave most (more_of-Branch chance e branches) b s apart =
          let here = All-append_left (λ a. same_atom q a ≡ false) (literals w e b) (literals_branches w branches b) apart in
          let there = All-append_right (λ a. same_atom q a ≡ false) (literals w e b) (literals_branches w branches b) apart in
          let factor : ℕ = share den chance * den ^ (most - draws w e) in
          All-append Leaves (map (weighed factor) (outcomes w den e b s)) (outcomes_branches w den most branches b s)
          (All-map Leaves (weighed factor) (outcomes w den e b s)
          (All-weaker Leaves (λ x. Leaves (weighed factor x)) (λ x leaves. record { adds = leaves.adds; deletes = leaves.deletes })
          (outcomes w den e b s) (outcomes_leave e b s here)))
          (branches_leave most branches b s there)

  leaves_after : (s : State) (x : Entry) → Leaves x → has (after s x) q ≡ has s q
  leaves_after s x leaves =
      has-union x.adds (without s x.deletes) q ∙ ap (λ b. b || has (without s x.deletes) q) leaves.adds ∙ has-without s x.deletes q
      ∙ ap (λ b. has s q && not b) leaves.deletes ∙ and_true (has s q)

-- ---- steps

module _ (task : Task) where
  abbrev literals_of : Instance → List GroundAtom
  literals_of i = literals (world task) i.action.effect i.binding

  -- an atom that is no changing atom is apart from the literals of each kept instance
  apart_from_kept : (q : GroundAtom) → is_changing task q ≡ false → (i : Instance) → Contains (kept_instances task) i → Apart q (literals_of i)
  apart_from_kept q still i inside =
      All-contains (λ j. Apart q (literals_of j)) (kept_instances task) i
      (All-from_flat_map (λ a. same_atom q a ≡ false) literals_of (kept_instances task)
      (All-append_left (λ a. same_atom q a ≡ false) (flat_map literals_of (kept_instances task)) (flat_map chance_atoms task.problem.init)
      (none_passes (same_atom q) (changing_atoms task) still))) inside

  module _ (charges : Charges) where
    step_leaves : (q : GroundAtom) (i : Instance) (s : State) → Apart q (literals_of i)
        → All (λ (o : Outcome State). has o.next q ≡ has s q) (step task charges i s)
    step_leaves q i s apart =
        let entries : List Entry = outcomes (world task) (common_denominator task) i.action.effect i.binding s in
        All-positive (λ (o : Outcome State). o.weight) (λ (o : Outcome State). has o.next q ≡ has s q) (map (outcome_of task charges i s) entries)
        (All-map (λ (o : Outcome State). has o.next q ≡ has s q) (outcome_of task charges i s) entries
        (All-weaker (Leaves q) (λ x. has (after s x) q ≡ has s q) (leaves_after q s) entries
        (outcomes_leave q (world task) (common_denominator task) i.action.effect i.binding s apart)))

    pub step_agrees : (i : Instance) (s : State) → Agrees task s → Contains (open_instances task s) i
        → (o : Outcome State) → Contains (step task charges i s) o → Agrees task o.next
    step_agrees i s agrees is_choice o inside = record {
      fixed = λ q still.
          let apart = apart_from_kept q still i (open_is_kept task s agrees i is_choice) in
          All-contains (λ (p : Outcome State). has p.next q ≡ has s q) (step task charges i s) o (step_leaves q i s apart) inside
          ∙ agrees.fixed q still;
    }

  -- ---- starts

  module _ (q : GroundAtom) where
    first_atoms : (weight : ℕ) (atoms : List Atom) → has (true_at_first weight atoms).adds q ≡ list_any (same_atom q) (map (ground_atom []) atoms)
    first_atoms weight atoms = has-with_atoms no_atoms (map (ground_atom []) atoms) q ∙ or_none (list_any (same_atom q) (map (ground_atom []) atoms))

    -- the entry adds it exactly where the test says so
    abbrev Adds : Bool → Entry → Type 0
    Adds added x = has x.adds q ≡ added

    branch_adds_nothing : (den : ℕ) (branch : InitBranch) → All (λ (a : Atom). same_atom q (ground_atom [] a) ≡ false) branch.atoms
        → Adds false (true_at_first (share den branch.chance) branch.atoms)
    branch_adds_nothing den branch apart =
        first_atoms (share den branch.chance) branch.atoms
        ∙ list_any_none (same_atom q) (map (ground_atom []) branch.atoms)
        (All-map (λ a. same_atom q a ≡ false) (ground_atom []) branch.atoms apart)

    item_adds : (den : ℕ) (i : InitItem) → Apart q (chance_atoms i) → All (Adds (list_any (same_atom q) (fact_atoms i))) (item_outcomes den i)
    item_adds den (Fact a) apart =
        All-cons (Adds (list_any (same_atom q) (ground_atom [] a ∷ []))) (true_at_first 1 (a ∷ [])) [] (first_atoms 1 (a ∷ []))
        (All-nil (Adds (list_any (same_atom q) (ground_atom [] a ∷ []))))
    item_adds den (Value v) apart = All-cons (Adds false) (nothing 1) [] refl (All-nil (Adds false))
    item_adds den (Chance branches) apart =
        let entry_of : InitBranch → Entry = λ branch. true_at_first (share den branch.chance) branch.atoms in
        let rest : ℕ = den - total (λ (x : Entry). x.weight) (map entry_of branches) in
        let each = All-from_flat_map (λ (a : Atom). same_atom q (ground_atom [] a) ≡ false) (λ (branch : InitBranch). branch.atoms) branches
        (All-from_map (λ a. same_atom q a ≡ false) (ground_atom []) (atoms_by_chance (Chance branches)) apart) in
        All-append (Adds false) (map entry_of branches) (nothing rest ∷ [])
        (All-map (Adds false) entry_of branches
        (All-weaker (λ (branch : InitBranch). All (λ (a : Atom). same_atom q (ground_atom [] a) ≡ false) branch.atoms)
        (λ branch. Adds false (entry_of branch)) (branch_adds_nothing den) branches each))
        (All-cons (Adds false) (nothing rest) [] refl (All-nil (Adds false)))

    items_add : (den : ℕ) (items : List InitItem) → All (λ i. Apart q (chance_atoms i)) items
        → (so_far : Bool) (done : List Entry) → All (Adds so_far) done
        → All (Adds (so_far || list_any (same_atom q) (flat_map fact_atoms items))) (products_with done (map (item_outcomes den) items))
    items_add den [] apart so_far done each =
        All-weaker (Adds so_far) (Adds (so_far || false)) (λ x adds. adds ∙ sym (or_none so_far)) done each
    items_add den (i ∷ items) apart so_far done each =
        let here : Bool = list_any (same_atom q) (fact_atoms i) in
        let later : Bool = list_any (same_atom q) (flat_map fact_atoms items) in
        let both : ((so_far || here) || later) ≡ (so_far || list_any (same_atom q) (flat_map fact_atoms (i ∷ items)))
        = sym (or_assoc so_far here later) ∙ ap (λ b. so_far || b) (sym (list_any-append (same_atom q) (fact_atoms i) (flat_map fact_atoms items))) in
        All-weaker (Adds ((so_far || here) || later)) (Adds (so_far || list_any (same_atom q) (flat_map fact_atoms (i ∷ items)))) (λ x adds. adds ∙ both)
        (products_with (products joined done (item_outcomes den i)) (map (item_outcomes den) items))
        (items_add den items (All-tail (λ j. Apart q (chance_atoms j)) i items apart) (so_far || here) (products joined done (item_outcomes den i))
        (All-products joined (Adds so_far) (Adds here) (Adds (so_far || here))
        (λ x y first second. has-union x.adds y.adds q ∙ ap (λ b. b || has y.adds q) first ∙ ap (λ b. so_far || b) second) done
        (item_outcomes den i) each (item_adds den i (All-head (λ j. Apart q (chance_atoms j)) i items apart))))

    starts_have : is_changing task q ≡ false → All (λ (start : Start State). has start.state q ≡ is_fact task q) (starts task)
    starts_have still =
        let den : ℕ = common_denominator task in
        let start_of : Entry → Start State = λ x. record { weight = x.weight; state = x.adds } in
        let entries : List Entry = products_of (map (item_outcomes den) task.problem.init) in
        let apart : All (λ i. Apart q (chance_atoms i)) task.problem.init
        = All-from_flat_map (λ a. same_atom q a ≡ false) chance_atoms task.problem.init
        (All-append_right (λ a. same_atom q a ≡ false) (flat_map literals_of (kept_instances task)) (flat_map chance_atoms task.problem.init)
        (none_passes (same_atom q) (changing_atoms task) still)) in
        All-positive (λ (start : Start State). start.weight) (λ (start : Start State). has start.state q ≡ is_fact task q) (map start_of entries)
        (All-map (λ (start : Start State). has start.state q ≡ is_fact task q) start_of entries
        (items_add den task.problem.init apart false (nothing 1 ∷ []) (All-cons (Adds false) (nothing 1) [] refl (All-nil (Adds false)))))

  pub starts_agree : (start : Start State) → Contains (starts task) start → Agrees task start.state
  starts_agree start inside = record {
    fixed = λ q still.
        All-contains (λ (x : Start State). has x.state q ≡ is_fact task q) (starts task) start (starts_have q still) inside;
  }

  -- ---- reachable states

  module _ (charges : Charges) where
    abbrev next_states : Instance → State → List State
    next_states = nexts (process task charges)

    successors_agree : (s : State) → Agrees task s → All (Agrees task) (successors (process task charges) s)
    successors_agree s agrees =
        elim (is_goal task s) as (λ g. All (Agrees task) (cond g [] (flat_map (λ i. next_states i s) (open_instances task s)))) [
          | true ↦ All-nil (Agrees task)
          | false ↦
              All-flat_map (Agrees task) (λ i. next_states i s) (open_instances task s)
              (All-weaker (Contains (open_instances task s)) (λ i. All (Agrees task) (next_states i s))
              (λ i is_choice.
              All-map (Agrees task) (λ (o : Outcome State). o.next) (step task charges i s)
              (All-weaker (Contains (step task charges i s)) (λ (o : Outcome State). Agrees task o.next) (step_agrees charges i s agrees is_choice)
              (step task charges i s) (All-contains_itself (step task charges i s)))) (open_instances task s)
              (All-contains_itself (open_instances task s)))
        ]

    near_agree : (d : ℕ) → All (Agrees task) (near (process task charges) (starts task) d)
    near_agree zero = All-nil (Agrees task)
    near_agree (suc d) =
        All-append (Agrees task) (map (λ (start : Start State). start.state) (starts task)) (flat_map (successors (process task charges)) (near (process task charges) (starts task) d))
        (All-map (Agrees task) (λ (start : Start State). start.state) (starts task)
        (All-weaker (Contains (starts task)) (λ (start : Start State). Agrees task start.state) starts_agree (starts task) (All-contains_itself (starts task))))
        (All-flat_map (Agrees task) (successors (process task charges)) (near (process task charges) (starts task) d)
        (All-weaker (Agrees task) (λ s. All (Agrees task) (successors (process task charges) s)) successors_agree
        (near (process task charges) (starts task) d) (near_agree d)))

    pub reachable_agrees : (s : State) → IsReachable (process task charges) (starts task) s → Agrees task s
    reachable_agrees s (d, inside) = All-contains (Agrees task) (near (process task charges) (starts task) d) s (near_agree d) inside

  -- ---- states of texts

  any-cond : (f : GroundAtom → Bool) (b : Bool) (a : GroundAtom) (atoms : List GroundAtom)
      → list_any f (cond b (a ∷ atoms) atoms) ≡ ((f a && b) || list_any f atoms)
  any-cond f true a atoms = ap (λ t. t || list_any f atoms) (sym (and_true (f a)))
  any-cond f false a atoms = ap (λ t. t || list_any f atoms) (sym (and_none (f a)))

  one_test : (same here there later : Bool) → (same ≡ true → here ≡ there) → ((same && here) || (later && there)) ≡ ((same || later) && there)
  one_test true here true later agree = ap (λ b. b || (later && true)) (agree refl)
  one_test true here false later agree = ap (λ b. b || (later && false)) (agree refl) ∙ and_none later
  one_test false here there later agree = refl

  -- a filter by a test of the atom that is sought
  any-filter : (p : GroundAtom → Bool) (q : GroundAtom) (atoms : List GroundAtom) → list_any (same_atom q) (filter p atoms) ≡ (list_any (same_atom q) atoms && p q)
  any-filter p q [] = refl
  any-filter p q (a ∷ atoms) =
      any-cond (same_atom q) (p a) a (filter p atoms)
      ∙ ap (λ b. (same_atom q a && p a) || b) (any-filter p q atoms)
      ∙ one_test (same_atom q a) (p a) (p q) (list_any (same_atom q) atoms) (λ same. ap p (sym ((same_atom-Decides q a).0 same)))

  pub has-state_of_texts : (texts : List (List ℕ)) (q : GroundAtom)
      → has (state_of_texts task texts) q ≡ ((is_changing task q && has_text texts q) || (is_fact task q && not (is_changing task q)))
  has-state_of_texts texts q =
      has-with_atoms no_atoms (filter (has_text texts) (changing_atoms task) ++ fixed_facts task) q
      ∙ or_none (list_any (same_atom q) (filter (has_text texts) (changing_atoms task) ++ fixed_facts task))
      ∙ list_any-append (same_atom q) (filter (has_text texts) (changing_atoms task)) (fixed_facts task)
      ∙ ap (λ b. b || list_any (same_atom q) (fixed_facts task)) (any-filter (has_text texts) q (changing_atoms task))
      ∙ ap (λ b. (is_changing task q && has_text texts q) || b) (any-filter (λ a. not (is_changing task a)) q (facts task))

  fixed_by_facts : (c t f : Bool) → c ≡ false → ((c && t) || (f && not c)) ≡ f
  fixed_by_facts true t f still = absurd cc
  fixed_by_facts false t f still = and_true f

  pub state_of_texts_agrees : (texts : List (List ℕ)) → Agrees task (state_of_texts task texts)
  state_of_texts_agrees texts = record {
    fixed = λ q still. has-state_of_texts texts q ∙ fixed_by_facts (is_changing task q) (has_text texts q) (is_fact task q) still;
  }
