-- The initial states of a ground problem have the chances of those of the task.
use Rattle.std.proofs.Common.{◌≡◌, ◌⊎◌, inl, inr, ℕ, ◌+◌, ◌*◌, ◌/◌, ◌^◌, ◌<◌, ◌≤◌, Bool, true, false, ◌&&◌, ◌||◌, List, [], ◌∷◌, ◌++◌, map, length, Some, refl, sym, ap, subst, ◌∙◌, arith, pow-add}
use Rattle.std.specs.Prelude.{All, Contains, flat_map, get_or, nat_eq}
use Rattle.std.specs.Int.{◌∣◌}
use Rattle.std.specs.List.{list_any, list_all}
use Rattle.std.specs.Cmp.{both_ways}
use Rattle.std.proofs.lemmas.List.{append-nil}
use Rattle.std.proofs.Math.Nat.{mul_assoc, pow-zero, pow-suc, div-mul_cancel, eq_of_mul-eq-mul_right, pos_of_dvd_of_pos}
use Rattle.std.proofs.lemmas.Bool.{cases_Bool, lt-ltb, eq-eqb, eqb-true, false_from_ne_true}
use Rattle.std.proofs.lemmas.List.Elements.{All-nil, All-cons, All-head, All-tail, All-contains, All-map, All-weaker, Contains-append_right}
use Rattle.exact_fraction.specs.declared.fraction.Fraction.{Fraction}
use Rattle.exact_fraction.specs.Divisors.{common_multiple}
use Rattle.exact_fraction.proofs.DivisorLemmas.{IsLeastMultipleOf-common_multiple, common_multiple-pos}
use Rattle.plain_list.specs.weighted.Mean.{total, mean, IsAlike}
use Rattle.plain_list.specs.weighted.Operations.{IsProduct, IsMerge, IsReduced}
use Rattle.plain_list.proofs.lemmas.weighted.Totals.{total-map, total-same}
use Rattle.plain_list.proofs.lemmas.weighted.Means.{mean-positive, mean-reduced}
use Rattle.decision_process.specs.Process.{Start}
use Rattle.plain_list.specs.Texts.{list_text}
use Rattle.plain_list.proofs.Members.{Contains-first, Contains-map, Contains-flat_map}
use Rattle.ppddl_model.specs.declared.tree.Action.{Action}
use Rattle.ppddl_model.specs.declared.tree.Atom.{Atom}
use Rattle.ppddl_model.specs.declared.tree.InitBranch.{InitBranch}
use Rattle.ppddl_model.specs.declared.tree.InitItem.{InitItem}
use Rattle.ppddl_model.specs.declared.tree.InitItem.TheVariants as item
use Rattle.ppddl_model.specs.declared.tree.Task.{Task}
use Rattle.ppddl_model.specs.State.{GroundAtom, same_atom, State, no_atoms, has, with_atoms, union}
use Rattle.ppddl_model.specs.Objects.{ground_atom}
use Rattle.ppddl_model.specs.Changing.{literals, kept_instances, changing_atoms, chance_atoms, fact_atoms, facts, is_changing, is_fact, Agrees}
use Rattle.ppddl_model.specs.Draws.{item_chance_lists, EachItemDraw}
use Rattle.ppddl_model.specs.Chances.{SumWithinOne, HavePositiveDenominators, HasPositiveDenominators}
use Rattle.ppddl_model.specs.Denominator.{denominators_of, denominators, item_denominators, common_denominator, share}
use Rattle.ppddl_model.specs.Outcomes as task_outcomes
use Rattle.ppddl_model.specs.Outcomes.{Entry, nothing, products_of}
use Rattle.ppddl_model.specs.Steps.{Instance, Charges, world, true_at_first, item_outcomes, item_draws, starts, start_den}
use Rattle.ppddl_model.specs.WellFormed.{atom_fits, item_fits, IsWellFormed}
use Rattle.ppddl_model.proofs.Lists.{All-flat_map}
use Rattle.ppddl_model.proofs.Fixed.{starts_agree}
use Rattle.ppddl_model.proofs.Shares.{denominators_are_positive}
use Rattle.ppddl_model.proofs.WellFormed.{well_formed_sums}
use Rattle.ppddl_model.proofs.States.{same_atom-Decides, has-with_atoms, has-union, same_from_has}
use Rattle.ground_model.specs.declared.action.Choice.{Choice}
use Rattle.ground_model.specs.declared.start.Start as declared
use Rattle.ground_model.specs.Packed as packed
use Rattle.ground_model.specs.Packed.{has_bit, words_for}
use Rattle.ground_model.specs.Choices.{is_member}
use Rattle.ground_model.specs.Steps.{start_of, ground_starts}
use Rattle.ground_model.proofs.Steps.{product_positive}
use Rattle.ground_model.proofs.Packed.{has_bit-packed}
use Rattle.ground_meaning.specs.stands.Stands.{state_of}
use Rattle.ground_meaning.proofs.lemmas.stands.Texts.{any_from, others_by_facts}
use Rattle.ground_meaning.specs.choices.Numbering.{Numbering, number_of}
use Rattle.ground_meaning.specs.choices.Same.{same_choice}
use Rattle.ground_meaning.specs.choices.Joint.{weight_of, idle, joined, added, numbers, with_factor, product_with}
use Rattle.ground_meaning.proofs.lemmas.choices.Members.{any-append, any-rising}
use Rattle.ground_meaning.proofs.lemmas.choices.Reduced.{divides_start, divides_weights}
use Rattle.ground_meaning.proofs.lemmas.choices.Shares.{share-times, shares_of_own}
use Rattle.ground_meaning.proofs.lemmas.choices.Weights.{total-with_factor, total-with_rest}
use Rattle.ground_meaning.proofs.lemmas.choices.Same.{same_choice-is}
use Rattle.ground_meaning.specs.refusals.Atoms.{numbering_of}
use Rattle.ground_meaning.specs.refusals.Starts.{item_den, true_choice, item_choices, start_choices, starts_den, packed_start, start_divisor}
use Rattle.ground_meaning.specs.refusals.Problem.{ground_problem}
use Rattle.ground_meaning.proofs.lemmas.choices.Law.{entry_weight}
use Rattle.ground_meaning.proofs.lemmas.refusals.Alike.{Alike, alike_rest, alike_shares, alike_over}
use Rattle.ground_meaning.proofs.lemmas.refusals.Formed.{all_at}
use Rattle.ground_meaning.proofs.lemmas.refusals.Instances.{all_from}
use Rattle.ground_meaning.proofs.lemmas.refusals.Agreeing.{IsPlain, member_of, place_of, same_bit, told_by_text, has_number, other_has_none, changing_plain, init_atom_plain, is_changing_member}

-- ---- truth tables

or_twice : (a b c : Bool) → (a || (b || c)) ≡ ((a || b) || (a || c))
or_twice true b c = refl
or_twice false b c = refl

-- an equation over a multiple of a denominator is one over the denominator
cancel_divisor : (a e k x d whole y : ℕ) → 0 < k → a * k ≡ x → d * k ≡ whole → x * e ≡ y * whole → a * e ≡ y * d
cancel_divisor a e k x d whole y above reduced restored same =
    let left : a * e * k ≡ a * k * e = grind arith in
    let right : y * (d * k) ≡ y * d * k = grind arith in
    eq_of_mul-eq-mul_right k above (a * e) (y * d)
    (left ∙ ap (λ t. t * e) reduced ∙ same ∙ ap (λ t. y * t) (sym restored) ∙ right)

one_times : (n : ℕ) → 1 * n ≡ n
one_times n = omega arith

or_itself : (a : Bool) → a ≡ (a || a)
or_itself true = refl
or_itself false = refl

or_nothing : (a : Bool) → (a || false) ≡ a
or_nothing true = refl
or_nothing false = refl

words_enough : (n k : ℕ) → k < n → k < 64 * words_for n
words_enough n k below = omega (arith, below)

module _ (task : Task) (fit : IsWellFormed task) (charges : Charges) where
  abbrev count : ℕ
  count = length (numbering_of task).atoms

  -- the state for which the packed state of a choice stands
  abbrev pub view : Choice → State
  view c = state_of (ground_problem task charges) task (packed.packed (is_member c.adds) (words_for count))

  abbrev pub base : State
  base = view (idle 1)

  -- what is true after an entry
  abbrev pub seen : Entry → State
  seen x = union base x.adds

  view_changing : (c : Choice) (q : GroundAtom) (inside : Contains (changing_atoms task) q) (k : ℕ) → k < count
      → get_or (numbering_of task).atoms k [] ≡ list_text q → has (view c) q ≡ is_member c.adds k
  view_changing c q inside k within here =
      same_bit task fit charges (packed.packed (is_member c.adds) (words_for count)) q inside k within here
      ∙ has_bit-packed (is_member c.adds) (words_for count) k
      ∙ ap (λ b. b && is_member c.adds k) (lt-ltb k (64 * words_for count) (words_enough count k within))

  view_other : (c : Choice) (q : GroundAtom) → is_changing task q ≡ false → has (view c) q ≡ is_fact task q
  view_other c q still = others_by_facts (ground_problem task charges) task (packed.packed (is_member c.adds) (words_for count)) q still

  -- two states are one where they say the same of the changing atoms and of the others
  same_by_parts : (s t : State) → ((q : GroundAtom) (inside : Contains (changing_atoms task) q) (k : ℕ) → k < count
      → get_or (numbering_of task).atoms k [] ≡ list_text q → has s q ≡ has t q)
      → ((q : GroundAtom) → is_changing task q ≡ false → has s q ≡ has t q) → s ≡ t
  same_by_parts s t changing still = same_from_has s t (λ q. elim (cases_Bool (is_changing task q)) [
    | inl may ↦
        let inside = member_of task fit q may in
        let place = place_of task fit q inside in
        changing q inside place.0 place.1 place.2
    | inr fixed ↦ still q fixed
  ])

  member_joined : (c d : Choice) (k : ℕ) → is_member (joined c d).adds k ≡ (is_member c.adds k || is_member d.adds k)
  member_joined c d k = any-rising (nat_eq k) (c.adds ++ d.adds) ∙ any-append (nat_eq k) c.adds d.adds

  choices_join : IsProduct weight_of view joined union
  choices_join = record {
    weights = λ c d. refl;
    keys = λ c d. same_by_parts (view (joined c d)) (union (view c) (view d))
        (λ q inside k within here.
        view_changing (joined c d) q inside k within here ∙ member_joined c d k
        ∙ ap (λ b. b || is_member d.adds k) (sym (view_changing c q inside k within here))
        ∙ ap (λ b. has (view c) q || b) (sym (view_changing d q inside k within here)) ∙ sym (has-union (view c) (view d) q))
        (λ q still.
        view_other (joined c d) q still ∙ or_itself (is_fact task q)
        ∙ ap (λ b. b || is_fact task q) (sym (view_other c q still)) ∙ ap (λ b. has (view c) q || b) (sym (view_other d q still))
        ∙ sym (has-union (view c) (view d) q));
  }

  entries_join : IsProduct entry_weight seen task_outcomes.joined union
  entries_join = record {
    weights = λ x y. refl;
    keys = λ x y. same_from_has (seen (task_outcomes.joined x y)) (union (seen x) (seen y)) (λ q.
        has-union base (union x.adds y.adds) q ∙ ap (λ b. has base q || b) (has-union x.adds y.adds q)
        ∙ or_twice (has base q) (has x.adds q) (has y.adds q)
        ∙ ap (λ b. b || (has base q || has y.adds q)) (sym (has-union base x.adds q))
        ∙ ap (λ b. has (seen x) q || b) (sym (has-union base y.adds q)) ∙ sym (has-union (seen x) (seen y) q));
  }

  choices_merge : IsMerge weight_of view same_choice added
  choices_merge = record {
    weights = λ x y _. refl;
    keys = λ x y _. refl;
    same_keys = λ x y same. sym (ap view (same_choice-is x y same 0));
  }

  union_nothing : (s : State) → s ≡ union s no_atoms
  union_nothing s = same_from_has s (union s no_atoms) (λ q. sym (has-union s no_atoms q ∙ or_nothing (has s q)))

  same_still : (k : ℕ) → view (idle k) ≡ seen (nothing k)
  same_still k = union_nothing base

  one_still : (k : ℕ) → view (idle k) ≡ view (idle 1)
  one_still k = refl

  abbrev AlikeStarts : List Choice → ℕ → List Entry → ℕ → Type 0
  AlikeStarts = Alike view seen union choices_join entries_join choices_merge same_still one_still

  -- ---- what an item makes true

  -- each atom that an item makes true may change, or is a fact
  abbrev MayBeTrue : Atom → Type 0
  MayBeTrue a = IsPlain (ground_atom [] a) × (Contains (changing_atoms task) (ground_atom [] a) ⊎ (is_fact task (ground_atom [] a) ≡ true))

  apart : (q : GroundAtom) → Contains (changing_atoms task) q → (a : GroundAtom) → is_changing task a ≡ false → q ≡ a → ⊥
  apart q inside a still same =
      let changing : is_changing task a ≡ true = subst (λ z. is_changing task z ≡ true) same (is_changing_member task fit q inside) in absurd cc

  told_by_place : (q : GroundAtom) → Contains (changing_atoms task) q → (k : ℕ) → k < count → get_or (numbering_of task).atoms k [] ≡ list_text q
      → (a : GroundAtom) → Contains (changing_atoms task) a → (j : ℕ) → j < count → get_or (numbering_of task).atoms j [] ≡ list_text a → k ≡ j → q ≡ a
  told_by_place q inside k within here a there j below at same =
      told_by_text task fit q a (changing_plain task fit q inside) (changing_plain task fit a there)
      (sym here ∙ ap (λ i. get_or (numbering_of task).atoms i []) same ∙ at)

  place_told : (q : GroundAtom) (k : ℕ) → k < count → get_or (numbering_of task).atoms k [] ≡ list_text q
      → (a : GroundAtom) (j : ℕ) → j < count → get_or (numbering_of task).atoms j [] ≡ list_text a → q ≡ a → k ≡ j
  place_told q k within here a j below at same =
      let one : Some k ≡ Some j
      = sym (has_number task fit q k within here) ∙ ap (number_of (numbering_of task)) same ∙ has_number task fit a j below at in cc

  number_tells : (q : GroundAtom) (inside : Contains (changing_atoms task) q) (k : ℕ) → k < count → get_or (numbering_of task).atoms k [] ≡ list_text q
      → (a : GroundAtom) → IsPlain a → list_any (nat_eq k) (numbers (number_of (numbering_of task) a)) ≡ same_atom q a
  number_tells q inside k within here a plain = elim (cases_Bool (is_changing task a)) [
    | inl changing ↦
        let there = member_of task fit a changing in
        let place = place_of task fit a there in
        ap (λ found. list_any (nat_eq k) (numbers found)) (has_number task fit a place.0 place.1 place.2)
        ∙ or_nothing (nat_eq k place.0)
        ∙ both_ways (nat_eq k place.0) (same_atom q a)
        (λ same. (same_atom-Decides q a).1 (told_by_place q inside k within here a there place.0 place.1 place.2 (eqb-true k place.0 same)))
        (λ same. eq-eqb k place.0 (place_told q k within here a place.0 place.1 place.2 ((same_atom-Decides q a).0 same)))
    | inr still ↦
        ap (λ found. list_any (nat_eq k) (numbers found)) (other_has_none task fit a plain still)
        ∙ sym (false_from_ne_true (same_atom q a) (λ same. apart q inside a still ((same_atom-Decides q a).0 same)))
  ]

  abbrev ground_atoms : List Atom → List GroundAtom
  ground_atoms = map (ground_atom [])

  numbers_tell : (q : GroundAtom) (inside : Contains (changing_atoms task) q) (k : ℕ) → k < count → get_or (numbering_of task).atoms k [] ≡ list_text q
      → (atoms : List Atom) → All MayBeTrue atoms
      → list_any (nat_eq k) (flat_map (λ (a : Atom). numbers (number_of (numbering_of task) (ground_atom [] a))) atoms) ≡ list_any (same_atom q) (ground_atoms atoms)
  numbers_tell q inside k within here [] each = refl
  numbers_tell q inside k within here (a ∷ atoms) each =
      let first = All-head MayBeTrue a atoms each in
      any-append (nat_eq k) (numbers (number_of (numbering_of task) (ground_atom [] a)))
      (flat_map (λ (x : Atom). numbers (number_of (numbering_of task) (ground_atom [] x))) atoms)
      ∙ ap (λ b. b || list_any (nat_eq k) (flat_map (λ (x : Atom). numbers (number_of (numbering_of task) (ground_atom [] x))) atoms))
      (number_tells q inside k within here (ground_atom [] a) first.0)
      ∙ ap (λ b. same_atom q (ground_atom [] a) || b) (numbers_tell q inside k within here atoms (All-tail MayBeTrue a atoms each))

  -- an atom that never changes is true by an item only where it is a fact
  no_news : (q : GroundAtom) → is_changing task q ≡ false → (atoms : List Atom) → All MayBeTrue atoms
      → is_fact task q ≡ (is_fact task q || list_any (same_atom q) (ground_atoms atoms))
  no_news q still [] each = sym (or_nothing (is_fact task q))
  no_news q still (a ∷ atoms) each = elim (cases_Bool (same_atom q (ground_atom [] a))) [
    | inl here ↦
        let same : q ≡ ground_atom [] a = (same_atom-Decides q (ground_atom [] a)).0 here in
        let fact : is_fact task q ≡ true = elim ((All-head MayBeTrue a atoms each).1) [
          | inl changing ↦ absurd (apart (ground_atom [] a) changing q still (sym same))
          | inr told ↦ subst (λ z. is_fact task z ≡ true) (sym same) told
        ] in
        rw fact refl
    | inr other ↦
        no_news q still atoms (All-tail MayBeTrue a atoms each)
        ∙ ap (λ b. is_fact task q || (b || list_any (same_atom q) (ground_atoms atoms))) (sym other)
  ]

  has_atoms : (atoms : List Atom) (q : GroundAtom) → has (with_atoms no_atoms (ground_atoms atoms)) q ≡ list_any (same_atom q) (ground_atoms atoms)
  has_atoms atoms q = has-with_atoms no_atoms (ground_atoms atoms) q ∙ or_nothing (list_any (same_atom q) (ground_atoms atoms))

  true_alike : (weight weight' : ℕ) (atoms : List Atom) → All MayBeTrue atoms
      → view (true_choice (numbering_of task) weight atoms) ≡ seen (true_at_first weight' atoms)
  true_alike weight weight' atoms each =
      same_by_parts (view (true_choice (numbering_of task) weight atoms)) (seen (true_at_first weight' atoms))
      (λ q inside k within here.
      view_changing (true_choice (numbering_of task) weight atoms) q inside k within here
      ∙ any-rising (nat_eq k) (flat_map (λ (a : Atom). numbers (number_of (numbering_of task) (ground_atom [] a))) atoms)
      ∙ numbers_tell q inside k within here atoms each
      ∙ sym (has_atoms atoms q)
      ∙ ap (λ b. b || has (with_atoms no_atoms (ground_atoms atoms)) q) (sym (view_changing (idle 1) q inside k within here))
      ∙ sym (has-union base (with_atoms no_atoms (ground_atoms atoms)) q))
      (λ q still.
      view_other (true_choice (numbering_of task) weight atoms) q still
      ∙ no_news q still atoms each
      ∙ ap (λ b. is_fact task q || b) (sym (has_atoms atoms q))
      ∙ ap (λ b. b || has (with_atoms no_atoms (ground_atoms atoms)) q) (sym (view_other (idle 1) q still))
      ∙ sym (has-union base (with_atoms no_atoms (ground_atoms atoms)) q))

  -- ---- items

  abbrev common : ℕ
  common = common_denominator task

  abbrev branch_choice : List InitBranch → InitBranch → Choice
  branch_choice branches branch = true_choice (numbering_of task) (share (item_den (item.Chance branches)) branch.chance) branch.atoms

  abbrev branch_entry : InitBranch → Entry
  branch_entry branch = true_at_first (share common branch.chance) branch.atoms

  over_one : (cs : List Choice) (den : ℕ) (es : List Entry) → AlikeStarts cs den es common → AlikeStarts cs den es (common ^ 1)
  over_one cs den es alike v =
      ap (λ t. mean weight_of view v cs * t) (pow-suc common 0 ∙ ap (λ t. t * common) (pow-zero common) ∙ one_times common) ∙ alike v

  fact_may_be : (a : Atom) → Contains task.problem.init (item.Fact a) → MayBeTrue a
  fact_may_be a inside = (
    init_atom_plain task fit a (all_at (item_fits (world task) task.domain) task.problem.init (item.Fact a) fit.init inside),
    inr (any_from (same_atom (ground_atom [] a)) (facts task) (ground_atom [] a)
        (Contains-flat_map fact_atoms task.problem.init (item.Fact a) (ground_atom [] a) inside (Contains-first (ground_atom [] a) []))
        ((same_atom-Decides (ground_atom [] a) (ground_atom [] a)).1 refl)),
  )

  module _ (branches : List InitBranch) (inside : Contains task.problem.init (item.Chance branches)) (branch : InitBranch) (member : Contains branches branch) where
    branch_fits : list_all (atom_fits (world task) [] task.domain.predicates) branch.atoms ≡ true
    branch_fits =
        all_at (λ (x : InitBranch). list_all (atom_fits (world task) [] task.domain.predicates) x.atoms) branches branch
        (all_at (item_fits (world task) task.domain) task.problem.init (item.Chance branches) fit.init inside) member

    branch_may_be : All MayBeTrue branch.atoms
    branch_may_be = all_from MayBeTrue branch.atoms (λ a there. (
      init_atom_plain task fit a (all_at (atom_fits (world task) [] task.domain.predicates) branch.atoms a branch_fits there),
      inl (Contains-append_right (flat_map (λ (i : Instance). literals (world task) i.action.effect i.binding) (kept_instances task))
          (flat_map chance_atoms task.problem.init) (ground_atom [] a)
          (Contains-flat_map chance_atoms task.problem.init (item.Chance branches) (ground_atom [] a) inside
          (Contains-map (ground_atom []) (flat_map (λ (x : InitBranch). x.atoms) branches) a
          (Contains-flat_map (λ (x : InitBranch). x.atoms) branches branch a member there)))),
    ))

    own_member : Contains (item_denominators (item.Chance branches)) branch.chance.den
    own_member =
        Contains-flat_map denominators_of (map (λ (x : InitBranch). x.chance) branches ∷ []) (map (λ (x : InitBranch). x.chance) branches) branch.chance.den
        (Contains-first (map (λ (x : InitBranch). x.chance) branches) [])
        (Contains-map (λ (c : Fraction). c.den) (map (λ (x : InitBranch). x.chance) branches) branch.chance
        (Contains-map (λ (x : InitBranch). x.chance) branches branch member))

    divides_own : branch.chance.den ∣ item_den (item.Chance branches)
    divides_own =
        All-contains (λ d. d ∣ item_den (item.Chance branches)) (item_denominators (item.Chance branches)) branch.chance.den
        (IsLeastMultipleOf-common_multiple (item_denominators (item.Chance branches))).members own_member

    divides_common : branch.chance.den ∣ common
    divides_common =
        All-contains (λ d. d ∣ common) (flat_map (λ (a : Action). denominators a.effect) task.domain.actions ++ flat_map item_denominators task.problem.init)
        branch.chance.den
        (IsLeastMultipleOf-common_multiple (flat_map (λ (a : Action). denominators a.effect) task.domain.actions ++ flat_map item_denominators task.problem.init)).members
        (Contains-append_right (flat_map (λ (a : Action). denominators a.effect) task.domain.actions) (flat_map item_denominators task.problem.init)
        branch.chance.den (Contains-flat_map item_denominators task.problem.init (item.Chance branches) branch.chance.den inside own_member))

  -- weights in proportion, and one key
  abbrev Matches : {X : Type 0} → (X → Choice) → (X → Entry) → ℕ → ℕ → X → Type 0
  Matches f g den whole x = ((f x).weight * whole ≡ (g x).weight * den) × (view (f x) ≡ seen (g x))

  shares_are_alike : {X : Type 0} (f : X → Choice) (g : X → Entry) (den whole : ℕ) (xs : List X) → All (Matches f g den whole) xs
      → AlikeStarts (map f xs) den (map g xs) whole
  shares_are_alike f g den whole xs = alike_shares view seen union choices_join entries_join choices_merge same_still one_still f g den whole xs

  one_is_alike : (f : Choice) (g : Entry) → f.weight ≡ g.weight → view f ≡ seen g → AlikeStarts (f ∷ []) 1 (g ∷ []) (common ^ 0)
  one_is_alike f g weights keys =
      shares_are_alike (λ (u : Unit {0}). f) (λ u. g) 1 (common ^ 0) (tt ∷ [])
      (All-cons (Matches (λ (u : Unit {0}). f) (λ u. g) 1 (common ^ 0)) tt []
      (ap (λ t. f.weight * t) (pow-zero common) ∙ ap (λ w. w * 1) weights, keys) (All-nil (Matches (λ (u : Unit {0}). f) (λ u. g) 1 (common ^ 0))))

  branch_matches : (branches : List InitBranch) → Contains task.problem.init (item.Chance branches) → (branch : InitBranch) → Contains branches branch
      → Matches (branch_choice branches) branch_entry (item_den (item.Chance branches)) common branch
  branch_matches branches inside branch member = (
    share-times (item_den (item.Chance branches)) common branch.chance (divides_own branches inside branch member) (divides_common branches inside branch member),
    true_alike (share (item_den (item.Chance branches)) branch.chance) (share common branch.chance) branch.atoms (branch_may_be branches inside branch member),
  )

  item_is_alike : (i : InitItem) → Contains task.problem.init i
      → AlikeStarts (item_choices (numbering_of task) i) (item_den i) (item_outcomes common i) (common ^ item_draws i)
  item_is_alike (item.Fact a) inside =
      one_is_alike (true_choice (numbering_of task) 1 (a ∷ [])) (true_at_first 1 (a ∷ [])) refl
      (true_alike 1 1 (a ∷ []) (All-cons MayBeTrue a [] (fact_may_be a inside) (All-nil MayBeTrue)))
  item_is_alike (item.Value v) inside = one_is_alike (idle 1) (nothing 1) refl (same_still 1)
  item_is_alike (item.Chance branches) inside =
      over_one (item_choices (numbering_of task) (item.Chance branches)) (item_den (item.Chance branches))
      (item_outcomes common (item.Chance branches))
      (alike_rest view seen union choices_join entries_join choices_merge same_still one_still
      (map (branch_choice branches) branches) (item_den (item.Chance branches)) (map branch_entry branches) common
      (shares_are_alike (branch_choice branches) branch_entry (item_den (item.Chance branches)) common branches
      (all_from (Matches (branch_choice branches) branch_entry (item_den (item.Chance branches)) common) branches (branch_matches branches inside))))

  -- ---- the initial states

  abbrev n : Numbering
  n = numbering_of task

  abbrev choices : List Choice
  choices = start_choices n task.problem.init

  abbrev entries : List Entry
  entries = products_of (map (item_outcomes common) task.problem.init)

  products_are_alike : AlikeStarts choices (1 * starts_den task.problem.init) entries (1 * common ^ total item_draws task.problem.init)
  products_are_alike =
      alike_over view seen union choices_join entries_join choices_merge same_still one_still
      (item_choices n) (item_outcomes common) item_den (λ i. common ^ item_draws i) starts_den (λ init. common ^ total item_draws init)
      refl (pow-zero common) (λ i init. refl) (λ i init. pow-add common (item_draws i) (total item_draws init))
      (idle 1 ∷ []) 1 (nothing 1 ∷ []) 1 task.problem.init
      (all_from (λ i. AlikeStarts (item_choices n i) (item_den i) (item_outcomes common i) (common ^ item_draws i)) task.problem.init item_is_alike)
      (λ v. ap (λ k. (1 * v k + 0) * 1) (same_still 1))

  item_sum : (i : InitItem) → EachItemDraw SumWithinOne i → total weight_of (item_choices n i) ≡ item_den i
  item_sum (item.Fact a) each = refl
  item_sum (item.Value v) each = refl
  item_sum (item.Chance branches) each =
      let chances : List Fraction = map (λ (branch : InitBranch). branch.chance) branches in
      let sums : SumWithinOne chances = All-head SumWithinOne chances [] each in
      let den : item_den (item.Chance branches) ≡ common_multiple (denominators_of chances) = ap common_multiple (append-nil (denominators_of chances)) in
      let shares : total weight_of (map (branch_choice branches) branches) ≡ total (share (item_den (item.Chance branches))) chances
      = total-map weight_of (branch_choice branches) branches ∙ sym (total-map (share (item_den (item.Chance branches))) (λ (branch : InitBranch). branch.chance) branches) in
      total-with_rest (item_den (item.Chance branches)) (map (branch_choice branches) branches)
      (subst (λ d. total weight_of (map (branch_choice branches) branches) ≤ d) (sym den)
      (subst (λ t. t ≤ common_multiple (denominators_of chances)) (sym (shares ∙ ap (λ d. total (share d) chances) den)) (shares_of_own chances sums)))

  -- the weights of the choices sum to their denominator
  items_sum : (done : List Choice) (init : List InitItem) → All (EachItemDraw SumWithinOne) init
      → total weight_of (product_with done (map (item_choices n) init)) ≡ total weight_of done * starts_den init
  items_sum done [] each = omega arith
  items_sum done (i ∷ init) each =
      items_sum (with_factor done (item_choices n i)) init (All-tail (EachItemDraw SumWithinOne) i init each)
      ∙ ap (λ t. t * starts_den init) (total-with_factor done (item_choices n i)
      ∙ ap (λ t. total weight_of done * t) (item_sum i (All-head (EachItemDraw SumWithinOne) i init each)))
      ∙ mul_assoc (total weight_of done) (item_den i) (starts_den init)

  pub choices_sum : total weight_of choices ≡ starts_den task.problem.init
  choices_sum = items_sum (idle 1 ∷ []) task.problem.init (well_formed_sums task fit).init ∙ omega arith

  abbrev divisor : ℕ
  divisor = start_divisor n task.problem.init

  reduced_starts : IsReduced weight_of view (λ (x : declared.Start). x.weight) (λ x. state_of (ground_problem task charges) task x.state)
      divisor (packed_start count divisor) choices
  reduced_starts = record {
    weights = λ c inside.
        div-mul_cancel divisor (All-contains (λ (x : Choice). divisor ∣ x.weight) choices c (divides_weights (starts_den task.problem.init) choices) inside);
    keys = λ c inside. refl;
  }

  pub den_restored : starts_den task.problem.init / divisor * divisor ≡ starts_den task.problem.init
  den_restored = div-mul_cancel divisor (divides_start (starts_den task.problem.init) choices)

  item_den-positive : (i : InitItem) → EachItemDraw HavePositiveDenominators i → 0 < item_den i
  item_den-positive i each =
      common_multiple-pos (item_denominators i)
      (All-flat_map (λ d. 0 < d) denominators_of (item_chance_lists i)
      (All-weaker HavePositiveDenominators (λ chances. All (λ d. 0 < d) (denominators_of chances))
      (λ chances. All-map (λ d. 0 < d) (λ (chance : Fraction). chance.den) chances) (item_chance_lists i) each))

  pub dens_positive : (init : List InitItem) → All (EachItemDraw HavePositiveDenominators) init → 0 < starts_den init
  dens_positive [] each = omega arith
  dens_positive (i ∷ init) each =
      product_positive (item_den i) (starts_den init)
      (item_den-positive i (All-head (EachItemDraw HavePositiveDenominators) i init each))
      (dens_positive init (All-tail (EachItemDraw HavePositiveDenominators) i init each))

  pub positive_denominators : HasPositiveDenominators task
  positive_denominators = denominators_are_positive task (well_formed_sums task fit)

  pub divisor_positive : 0 < divisor
  divisor_positive = pos_of_dvd_of_pos (divides_start (starts_den task.problem.init) choices) (dens_positive task.problem.init positive_denominators.init)

  -- a state that agrees with the facts has what is true whatever happens
  has_base : (s : State) → Agrees task s → s ≡ union base s
  has_base s agrees =
      same_by_parts s (union base s)
      (λ q inside k within here. ap (λ b. b || has s q) (sym (view_changing (idle 1) q inside k within here)) ∙ sym (has-union base s q))
      (λ q still.
      agrees.fixed q still ∙ or_itself (is_fact task q) ∙ ap (λ b. b || is_fact task q) (sym (view_other (idle 1) q still))
      ∙ ap (λ b. has base q || b) (sym (agrees.fixed q still)) ∙ sym (has-union base s q))

  abbrev start_of_entry : Entry → Start State
  start_of_entry x = record { weight = x.weight; state = x.adds }

  mean-starts : (v : State → ℕ) → mean (λ (x : Start State). x.weight) (λ x. x.state) v (starts task) ≡ mean entry_weight seen v entries
  mean-starts v =
      total-same (λ (x : Start State). x.weight * v x.state) (λ (x : Start State). x.weight * v (union base x.state)) (starts task)
      (λ x inside. ap (λ k. x.weight * v k) (has_base x.state (starts_agree task x inside)))
      ∙ mean-positive (λ (x : Start State). x.weight) (λ (x : Start State). union base x.state) v (map start_of_entry entries)
      ∙ total-map (λ (x : Start State). x.weight * v (union base x.state)) start_of_entry entries

  pub starts_are_alike : IsAlike (λ (x : Start packed.State). x.weight) (λ x. state_of (ground_problem task charges) task x.state)
      (λ (x : Start State). x.weight) (λ x. x.state)
      (ground_starts (ground_problem task charges)) (ground_problem task charges).start_den (starts task) (start_den task)
  starts_are_alike v =
      let ground_mean : ℕ
      = mean (λ (x : declared.Start). x.weight) (λ x. state_of (ground_problem task charges) task x.state) v (map (packed_start count divisor) choices) in
      let first : mean (λ (x : Start packed.State). x.weight) (λ x. state_of (ground_problem task charges) task x.state) v (ground_starts (ground_problem task charges)) ≡ ground_mean
      = total-map (λ (x : Start packed.State). x.weight * v (state_of (ground_problem task charges) task x.state)) start_of (map (packed_start count divisor) choices) in
      let reduced : ground_mean * divisor ≡ mean weight_of view v choices
      = mean-reduced weight_of view (λ (x : declared.Start). x.weight) (λ x. state_of (ground_problem task charges) task x.state)
      divisor (packed_start count divisor) choices reduced_starts v in
      ap (λ t. t * start_den task) first
      ∙ cancel_divisor ground_mean (start_den task) divisor (mean weight_of view v choices) (starts_den task.problem.init / divisor)
      (starts_den task.problem.init) (mean entry_weight seen v entries) divisor_positive reduced den_restored
      (ap (λ t. mean weight_of view v choices * t) (sym (one_times (start_den task))) ∙ products_are_alike v
      ∙ ap (λ t. mean entry_weight seen v entries * t) (one_times (starts_den task.problem.init)))
      ∙ ap (λ t. t * (starts_den task.problem.init / divisor)) (sym (mean-starts v))
