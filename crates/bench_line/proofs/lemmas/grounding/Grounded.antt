-- The task of the line of places is within all limits, so it has a ground problem.
use Rattle.std.proofs.Common.{◌≡◌, ℕ, ◌+◌, ◌-◌, ◌<◌, ◌≤◌, Bool, true, false, cond, List, [], ◌∷◌, map, length, None, Ok, refl, sym, ap, subst, inl, inr, arith}
use Rattle.std.specs.Prelude.{All, Contains, flat_map, get_or, ◌==◌}
use Rattle.std.specs.List.{list_any, range_with_len}
use Rattle.std.proofs.lemmas.Bool.{ne_eqb, not_from_false}
use Rattle.std.proofs.lemmas.List.{length-map}
use Rattle.std.proofs.lemmas.List.Elements.{All-map, All-filter, All-contains, Contains-append_cases}
use Rattle.std.proofs.lemmas.List.FromFn.{length-range_with_len, get_or-range_with_len}
use Rattle.plain_list.specs.Texts.{list_text}
use Rattle.plain_list.proofs.Members.{Contains-cons_cases, Contains-nil, Contains-map, Contains-flat_map_cases}
use Rattle.exact_fraction.specs.declared.fraction.Fraction.{Fraction}
use Rattle.ppddl_model.specs.declared.tree.Action.{Action}
use Rattle.ppddl_model.specs.declared.tree.InitItem.TheVariants as item
use Rattle.ppddl_model.specs.declared.tree.Task.{Task}
use Rattle.ppddl_model.specs.State.{GroundAtom}
use Rattle.ppddl_model.specs.Objects.{World, Binding, ground_atom, bindings}
use Rattle.ppddl_model.specs.Changing.{kept_instances, is_kept, literals, changing_atoms, chance_atoms}
use Rattle.ppddl_model.specs.Costs.{decreases}
use Rattle.ppddl_model.specs.Steps.{Instance, Charges, world, instances, base_cost, sure_cost}
use Rattle.ground_model.specs.declared.action.Choice.{Choice}
use Rattle.ground_meaning.specs.choices.Numbering.{Numbering}
use Rattle.ground_meaning.specs.choices.Joint.{choices, charged}
use Rattle.ground_meaning.specs.choices.Limits.{is_dear}
use Rattle.ground_meaning.specs.refusals.Atoms.{numbering_of}
use Rattle.ground_meaning.specs.refusals.Starts.{item_choices}
use Rattle.ground_meaning.specs.refusals.Problem.{ground_problem}
use Rattle.ground_meaning.specs.refusals.Limits.{free_action, refused_by, limited, limits, grounded}
use Rattle.plan_report.specs.Line.{tenths}
use Rattle.bench_line.specs.LineTask.{place, chance_of, move, line_task}
use Rattle.bench_line.specs.Laws.{line_terms, LineTaskIsGrounded}
use Rattle.bench_line.proofs.lemmas.grounding.Lists.{all_below, none_found, length-filter-le}
use Rattle.bench_line.proofs.lemmas.grounding.Widths.{widest-single}
use Rattle.bench_line.proofs.lemmas.grounding.Prices.{none_is_dear}
use Rattle.bench_line.proofs.lemmas.grounding.Texts.{texts_are_few}
use Rattle.bench_line.proofs.lemmas.grounding.Moves.{length-leap, dearest-leap, widest-leap, literals-leap, size-leap, den-leap, sure-leap}
use Rattle.bench_line.proofs.lemmas.grounding.Limits.{after, IsSmall, IsEasy, IsFew, few_is_within}

-- ---- numbers

cond_few : (b : Bool) (c : ℕ) → cond b c (c + 1000000) ≤ c + 1000000
cond_few true c = omega arith
cond_few false c = omega arith

den_few : (t : ℕ) → (chance_of t).den ≤ 10
den_few t = omega arith

-- ---- the instances: an action without parameters has one

abbrev going : ℕ → ℕ → Instance
going seed i = record { action = move seed i; binding = [] }

abbrev instances_for : World → Action → List Instance
instances_for w a = map (λ (b : Binding). record { action = a; binding = b }) (bindings w a.params [])

each_once : (w : World) (seed : ℕ) (is : List ℕ) → flat_map (instances_for w) (map (move seed) is) ≡ map (going seed) is
each_once w seed [] = refl
each_once w seed (i ∷ is) = ap (λ (l : List Instance). going seed i ∷ l) (each_once w seed is)

-- ---- the task

module _ (n seed : ℕ) (most : n ≤ 1000) where
  abbrev task : Task
  task = line_task n seed

  abbrev fees : Charges
  fees = record { penalty = 100000000000; step_cost = 0 }

  abbrev w : World
  w = world task

  abbrev named : Numbering
  named = numbering_of task

  abbrev steps : List ℕ
  steps = range_with_len 0 (n - 1)

  all_instances : instances task ≡ map (going seed) steps
  all_instances = each_once w seed steps

  instance_count : length (instances task) ≤ 1000
  instance_count =
      omega (arith, ap (λ (l : List Instance). length l) all_instances, length-map steps (going seed), length-range_with_len 0 (n - 1), most)

  kept_count : length (kept_instances task) ≤ 1000
  kept_count = omega (arith, length-filter-le (is_kept task) (instances task), instance_count)

  action_count : length task.domain.actions ≤ 1000
  action_count = omega (arith, length-map steps (move seed), length-range_with_len 0 (n - 1), most)

  base_few : base_cost task fees ≤ 1000000
  base_few = omega (arith, cond_few (list_any (λ (a : Action). decreases a.effect) task.domain.actions) 0)

  all_going : (P : Instance → Type 0) → ((i : ℕ) → i < n - 1 → P (going seed i)) → All P (kept_instances task)
  all_going P each =
      All-filter (is_kept task) P (instances task)
      (subst (All P) (sym all_instances) (All-map P (going seed) steps (all_below (λ i. P (going seed i)) (n - 1) each)))

  module _ (i : ℕ) where
    abbrev p : Fraction
    p = chance_of (tenths seed i)

    abbrev chosen : List Choice
    chosen = choices w named (move seed i).effect []

    small_at : IsSmall task (move seed i)
    small_at = record {
      den = omega (arith, den-leap w p (place i) (place (i + 1)) 1000000, den_few (tenths seed i));
      size = omega arith;
    }

    easy_at : IsEasy task fees (going seed i)
    easy_at = record {
      size = omega (arith, size-leap w p (place i) (place (i + 1)) 1000000);
      widest = widest-leap w named p (place i) (place (i + 1)) [] 1000000;
      few = length-leap w named p (place i) (place (i + 1)) [] 1000000;
      cheap = not_from_false (list_any is_dear (map (charged (base_cost task fees)) chosen))
          (none_is_dear (base_cost task fees) chosen (omega (arith, dearest-leap w named p (place i) (place (i + 1)) [] 1000000, base_few)));
    }

    costs : (sure_cost task fees (move seed i) == 0) ≡ false
    costs =
        ne_eqb (sure_cost task fees (move seed i)) 0
        (λ none. omega (arith, none, sure-leap w p (place i) (place (i + 1)) 1000000))

  -- ---- its atoms are the places

  abbrev place_text : ℕ → List ℕ
  place_text i = list_text (ground_atom [] (place i))

  abbrev places : List (List ℕ)
  places = map place_text (range_with_len 0 n)

  place_at : (i : ℕ) → i < n → Contains places (place_text i)
  place_at i within =
      let found : get_or (range_with_len 0 n) i i ≡ i = omega (arith, get_or-range_with_len 0 n i i within) in
      Contains-map place_text (range_with_len 0 n) i (i, omega (arith, within, length-range_with_len 0 n), found)

  abbrev literals_of : Instance → List GroundAtom
  literals_of x = literals w x.action.effect x.binding

  abbrev AreOnPlaces : Instance → Type 0
  AreOnPlaces x = (q : GroundAtom) → Contains (literals_of x) q → Contains places (list_text q)

  on_places : (i : ℕ) → i < n - 1 → AreOnPlaces (going seed i)
  on_places i within q inside =
      let here : GroundAtom = ground_atom [] (place i) in
      let there : GroundAtom = ground_atom [] (place (i + 1)) in
      let two : Contains (here ∷ there ∷ []) q
      = subst (λ (l : List GroundAtom). Contains l q) (literals-leap w named (chance_of (tenths seed i)) (place i) (place (i + 1)) [] 1000000) inside in
      elim (Contains-cons_cases here (there ∷ []) q two) [
        | inl first ↦ subst (λ (z : GroundAtom). Contains places (list_text z)) first (place_at i (omega (arith, within)))
        | inr later ↦ elim (Contains-cons_cases there [] q later) [
          | inl second ↦ subst (λ (z : GroundAtom). Contains places (list_text z)) second (place_at (i + 1) (omega (arith, within)))
          | inr none ↦ absurd (Contains-nil q none)
        ]
      ]

  each_on_places : (q : GroundAtom) → Contains (changing_atoms task) q → Contains places (list_text q)
  each_on_places q inside = elim (Contains-append_cases (flat_map literals_of (kept_instances task)) (flat_map chance_atoms task.problem.init) q inside) [
    | inl here ↦
        let found = Contains-flat_map_cases literals_of (kept_instances task) q here in
        All-contains AreOnPlaces (kept_instances task) found.0 (all_going AreOnPlaces on_places) found.1 q found.2
    | inr none ↦ absurd (Contains-nil q none)
  ]

  atom_count : length named.atoms ≤ 1000
  atom_count =
      omega (arith, texts_are_few (changing_atoms task) places each_on_places, length-map (range_with_len 0 n) place_text, length-range_with_len 0 n, most)

  -- ---- all limits

  task_is_few : IsFew task fees
  task_is_few = record {
    objects = omega arith;
    instances = instance_count;
    actions = action_count;
    small = All-map (IsSmall task) (move seed) steps (all_below (λ i. IsSmall task (move seed i)) (n - 1) (λ i _. small_at i));
    kept = kept_count;
    easy = all_going (IsEasy task fees) (λ i _. easy_at i);
    goal = omega arith;
    atoms = omega (arith, atom_count);
    starts_den = omega arith;
    starts = omega (arith, widest-single 1 (item_choices named (item.Fact (place 0))) (omega arith));
  }

  is_grounded : grounded task line_terms ≡ Ok (ground_problem task fees)
  is_grounded =
      let test : Action → Bool = λ a. sure_cost task (record { penalty = 0; step_cost = 0 }) a == 0 in
      let paid : free_action task line_terms ≡ None = none_found test (move seed) costs steps in
      after (refused_by task line_terms (free_action task line_terms)) (λ _. limited task line_terms fees (limits task fees)) tt (Ok (ground_problem task fees))
      (ap (refused_by task line_terms) paid) (ap (limited task line_terms fees) (few_is_within task fees task_is_few))

pub line_is_grounded : LineTaskIsGrounded
line_is_grounded n seed some most = (ground_problem (line_task n seed) (fees n seed most), is_grounded n seed most)
