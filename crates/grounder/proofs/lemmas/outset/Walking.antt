-- Kept instances whose effects have few choices are counted by the sizes of their effects.
use Rattle.std.proofs.Common.{◌≡◌, ℕ, zero, suc, ◌+◌, ◌-◌, ◌*◌, ◌^◌, ◌<◌, ◌≤◌, Bool, not, true, false, ◌⊎◌, inl, inr, List, [], ◌∷◌, ◌++◌, map, length, drop, drop-cons, get_or, add-one, refl, sym, ap, subst, ◌∙◌, arith}
use Rattle.std.specs.Prelude.{flat_map, ◌&&◌, nat_eq, All, Result, Ok, Err, Option, Some, None}
use Rattle.std.specs.List.{list_any}
use Rattle.std.proofs.Math.Nat.{mul-le-mul_right}
use Rattle.std.proofs.lemmas.Bool.{and_parts, cases_lt, eqb-true, le-ltb, or_from}
use Rattle.std.proofs.lemmas.List.{length-map}
use Rattle.std.proofs.lemmas.List.Elements.{All-head, All-tail}
use Rattle.plain_list.specs.Results.{◌>>=◌}
use Rattle.plain_list.specs.weighted.Mean.{total}
use Rattle.plain_list.proofs.Results.{bind_assoc, bind_cong}
use Rattle.ppddl_model.specs.declared.tree.Action.{Action}
use Rattle.ppddl_model.specs.declared.tree.Task.{Task}
use Rattle.ppddl_model.specs.Chances.{SumWithinOne}
use Rattle.ppddl_model.specs.Draws.{EachDraw}
use Rattle.ppddl_model.specs.Objects.{Binding}
use Rattle.ppddl_model.specs.Changing.{kept_instances}
use Rattle.ppddl_model.specs.Steps.{Instance, Charges, world, base_cost}
use Rattle.ground_model.specs.declared.action.Choice.{Choice}
use Rattle.ground_model.specs.declared.limits.TheConstants.{MOST_CHOICES, MOST_CHOICE_COST}
use Rattle.ground_meaning.specs.choices.Joint.{weight_of, charged, reduced, divisor, choices, den_of}
use Rattle.ground_meaning.specs.choices.Limits.{widest, whole_cost, is_dear, effect_size}
use Rattle.ground_meaning.specs.declared.refusals.limits.LimitCode.{LimitCode}
use Rattle.ground_meaning.specs.declared.refusals.limits.LimitCode.TheVariants.{Actions, Choices, GroundSize, OutcomeCost}
use Rattle.ground_meaning.specs.refusals.Atoms.{numbering_of}
use Rattle.ground_meaning.specs.refusals.Codes.{most_of}
use Rattle.ground_meaning.specs.refusals.Problem.{joint_of}
use Rattle.ground_meaning.specs.refusals.Limits.{checked, within, is_cheap, size_of, instances_within}
use Rattle.ground_meaning.proofs.lemmas.choices.Weights.{total-choices, den_positive}
use Rattle.ground_terms.specs.sizes.Counted.{counted}
use Rattle.ground_terms.proofs.lemmas.sizes.Forgetting.{effect_forgets}
use Rattle.task_instances.specs.facts.Facts.{table_of}
use Rattle.task_instances.specs.kept_rows.Rows.{Table}
use Rattle.task_instances.specs.kept_rows.Kept.{binding_of_row, AreKept}
use Rattle.grounder.specs.changing_atoms.Atoms.{kept_of}
use Rattle.grounder.specs.limits.Laws.{later_limits}
use Rattle.grounder.specs.declared.outset.walked.Walked.{Walked}
use Rattle.grounder.specs.outset.Draws.{branches, greatest_value, IsLight}
use Rattle.grounder.specs.outset.Walked.{one_more, many_more, instances_of, IsAt, IsReached, Follows, Stops}
use Rattle.grounder.proofs.lemmas.actions.Tests.{passed, fails}
use Rattle.grounder.proofs.lemmas.limits.Counting.{passes}
use Rattle.grounder.proofs.lemmas.outset.Few.{IsFew, power_more, few_choices, branches_forget, cost_low}

abbrev Test : Type 0
Test = Result (Unit {0}) LimitCode

-- ---- tests, one behind another

tests : {X : Type 0} (t1 t2 t3 t4 : Test) (r : Result X LimitCode) → (t2 ≡ Ok tt → t3 ≡ Ok tt) → (t2 ≡ Ok tt → t4 ≡ Ok tt)
    → (t1 >>= λ _. t2 >>= λ _. t3 >>= λ _. t4 >>= λ _. r) ≡ (t1 >>= λ _. t2 >>= λ _. r)
tests (Err e) t2 t3 t4 r third fourth = refl
tests (Ok p) (Err e) t3 t4 r third fourth = refl
tests (Ok p) (Ok q) t3 t4 r third fourth = λ i. third refl i >>= λ _. fourth refl i >>= λ _. r

twice : {X : Type 0} (t1 t2 : Test) (r : Result X LimitCode) → (t1 >>= λ _. t2 >>= λ _. t2 >>= λ _. r) ≡ (t1 >>= λ _. t2 >>= λ _. r)
twice (Err e) t2 r = refl
twice (Ok p) (Err e) r = refl
twice (Ok p) (Ok q) r = refl

counted_on : {X : Type 0} (t1 t2 : Test) (next : Walked) (rest : Walked → Result X LimitCode)
    → (t1 >>= λ _. t2 >>= λ _. rest next) ≡ ((t1 >>= λ _. t2 >>= λ _. Ok next) >>= rest)
counted_on (Err e) t2 next rest = refl
counted_on (Ok p) (Err e) next rest = refl
counted_on (Ok p) (Ok q) next rest = refl

-- ---- sizes that are added up

abbrev grown : Walked → ℕ → Walked
grown w effect = record { instances = w.instances + 1; size = w.size + effect; is_exact = w.is_exact }

-- a size that stopped is as much above the limit as the whole size
one_counted : (w : Walked) (n : ℕ) → one_more w (counted n) ≡ one_more w n
one_counted w n = elim (cases_lt n 18446744073709551615) [
  | inl below ↦ let same : counted n ≡ n = omega arith in ap (one_more w) same
  | inr above ↦
      let over : most_of GroundSize < w.size + n = omega arith in
      let over' : most_of GroundSize < w.size + counted n = omega arith in
      ap (λ r. within (w.instances + 1) Actions >>= λ _. r >>= λ _. Ok (grown w (counted n))) (fails (w.size + counted n) GroundSize over')
      ∙ sym (ap (λ r. within (w.instances + 1) Actions >>= λ _. r >>= λ _. Ok (grown w n)) (fails (w.size + n) GroundSize over))
]

many_counted : (w : Walked) (n k : ℕ) → many_more w (counted n) k ≡ many_more w n k
many_counted w n zero = refl
many_counted w n (suc k) =
    ap (λ r. r >>= λ x. many_more x (counted n) k) (one_counted w n)
    ∙ bind_cong (one_more w n) (λ x. many_more x (counted n) k) (λ x. many_more x n k) (λ x. many_counted x n k)

one_flag : (t1 t2 : Test) (w next : Walked) → (t1 >>= λ _. t2 >>= λ _. Ok next) ≡ Ok w → next ≡ w
one_flag (Err e) t2 w next is = absurd (cc)
one_flag (Ok p) (Err e) w next is = absurd (cc)
one_flag (Ok p) (Ok q) w next is = cc

flag_after : (w next : Walked) (effect n : ℕ) (r : Result Walked LimitCode) → r ≡ one_more w effect
    → ((x : Walked) → many_more x effect n ≡ Ok next → next.is_exact ≡ x.is_exact) → (r >>= λ x. many_more x effect n) ≡ Ok next
    → next.is_exact ≡ w.is_exact
flag_after w next effect n (Ok x) one later is =
    later x is
    ∙ sym (ap (λ (y : Walked). y.is_exact) (one_flag (within (w.instances + 1) Actions) (within (w.size + effect) GroundSize) x (grown w effect) (sym one)))
flag_after w next effect n (Err e) one later is = absurd (cc)

many_flag : (w next : Walked) (effect n : ℕ) → many_more w effect n ≡ Ok next → next.is_exact ≡ w.is_exact
many_flag w next effect zero is = let same : w ≡ next = cc in ap (λ (x : Walked). x.is_exact) (sym same)
many_flag w next effect (suc n) is = flag_after w next effect n (one_more w effect) refl (λ x. many_flag x next effect n) is

module _ (w next : Walked) (effect counter : ℕ) (so_far : (k : ℕ) → many_more w effect (counter + k) ≡ many_more next effect k) where
  pub one_further : (more : Walked) → one_more next effect ≡ Ok more → (k : ℕ) → many_more w effect (counter + 1 + k) ≡ many_more more effect k
  one_further more is k =
      let same : counter + 1 + k ≡ counter + suc k = omega arith in
      ap (many_more w effect) same ∙ so_far (suc k) ∙ ap (λ r. r >>= λ x. many_more x effect k) is

  pub stops_within : (count : ℕ) (code : LimitCode) → counter < count → one_more next effect ≡ Err code → many_more w effect count ≡ Err code
  stops_within count code below is =
      let same : count ≡ counter + suc (count - suc counter) = omega (arith, below) in
      ap (many_more w effect) same ∙ so_far (suc (count - suc counter)) ∙ ap (λ r. r >>= λ x. many_more x effect (count - suc counter)) is

  pub all_walked : (count : ℕ) → count ≡ counter → many_more w effect count ≡ Ok next
  all_walked count same = let none : count ≡ counter + 0 = omega (arith, same) in ap (many_more w effect) none ∙ so_far 0

-- ---- one kept instance

none_dear : (base : ℕ) (cs : List Choice) → All (λ c. whole_cost (charged base c) ≤ MOST_CHOICE_COST) cs → list_any is_dear (map (charged base) cs) ≡ false
none_dear base [] each = refl
none_dear base (c ∷ cs) each =
    or_from (is_dear (charged base c)) (list_any is_dear (map (charged base) cs))
    (le-ltb MOST_CHOICE_COST (whole_cost (charged base c)) (All-head (λ x. whole_cost (charged base x) ≤ MOST_CHOICE_COST) c cs each))
    (none_dear base cs (All-tail (λ x. whole_cost (charged base x) ≤ MOST_CHOICE_COST) c cs each))

some_choice : (cs : List Choice) (den : ℕ) → total weight_of cs ≡ den → 0 < den → 1 ≤ length cs
some_choice [] den is above = absurd (omega (arith, is, above))
some_choice (c ∷ cs) den is above = omega arith

module _ (task : Task) (charges : Charges) where
  abbrev on : ℕ → ℕ → List Instance → Result ℕ LimitCode
  on n s is = instances_within task charges n s is

  module _ (n s : ℕ) (i : Instance) (more : List Instance) where
    abbrev size : ℕ
    size = effect_size (world task) i.action.effect

    abbrev first : Test
    first = within (n + 1) Actions

    abbrev second : Test
    second = within (s + size) GroundSize

    abbrev third : Test
    third = within (widest (world task) (numbering_of task) i.action.effect i.binding) Choices

    abbrev fourth : Test
    fourth = checked (is_cheap task charges i) OutcomeCost

    abbrev later : ℕ → Result ℕ LimitCode
    later k = within (s + k) GroundSize >>= λ _. on (n + 1) (s + k) more

    abbrev after_two : Result ℕ LimitCode
    after_two = third >>= λ _. fourth >>= λ _. later (size_of task charges i)

    -- by its effect alone
    many_stop : most_of Actions < n + 1 → on n s (i ∷ more) ≡ Err Actions
    many_stop above = ap (λ r. r >>= λ _. second >>= λ _. after_two) (fails (n + 1) Actions above)

    large_stop : n + 1 ≤ most_of Actions → most_of GroundSize < s + size → on n s (i ∷ more) ≡ Err GroundSize
    large_stop few above =
        ap (λ r. r >>= λ _. second >>= λ _. after_two) (passes (n + 1) Actions few)
        ∙ ap (λ r. r >>= λ _. after_two) (fails (s + size) GroundSize above)

    module _ (effect count : ℕ) (sized : effect ≡ counted size) (counts : count ≡ counted (branches (world task) i.action.effect))
        (light : IsLight effect count (base_cost task charges) (greatest_value task.problem.values) i.action.effect) (fair : EachDraw SumWithinOne i.action.effect) where
      abbrev all : List Choice
      all = choices (world task) (numbering_of task) i.action.effect i.binding

      abbrev least : ℕ
      least = branches (world task) i.action.effect

      few : IsFew all least (size * light.most)
      few = (few_choices (world task) (numbering_of task) light.most (greatest_value task.problem.values) (cost_low (world task)) i.action.effect light.modest i.binding).0

      wide : widest (world task) (numbering_of task) i.action.effect i.binding ≤ 2 ^ least
      wide = (few_choices (world task) (numbering_of task) light.most (greatest_value task.problem.values) (cost_low (world task)) i.action.effect light.modest i.binding).1

      branches_are : least ≤ 8
      branches_are = let small = light.few in omega (arith, counts, small)

      narrow : widest (world task) (numbering_of task) i.action.effect i.binding ≤ MOST_CHOICES
      narrow =
          let most : 2 ^ least ≤ 2 ^ 8 = power_more least 8 branches_are in
          let all_of : 2 ^ 8 ≡ 256 = refl in
          omega (arith, wide, most, all_of)

      cheap : second ≡ Ok tt → fourth ≡ Ok tt
      cheap is =
          let base : ℕ = base_cost task charges in
          let small : s + size ≤ most_of GroundSize = passed (s + size) GroundSize is in
          let same : effect ≡ size = omega (arith, sized, small) in
          let room : size * light.most + base ≤ MOST_CHOICE_COST = subst (λ k. k * light.most + base ≤ MOST_CHOICE_COST) same light.room in
          let costs = few.costs in
          ap (λ d. checked (not d) OutcomeCost) (none_dear base all (λ k d below. let low = costs k d below in omega (arith, low, room)))

      some : 1 ≤ length all
      some = some_choice all (den_of (world task) i.action.effect) (total-choices (world task) (numbering_of task) i.action.effect fair i.binding)
          (den_positive (world task) i.action.effect fair)

      listed : length (joint_of task charges i).list ≡ length all
      listed =
          length-map (map (charged (base_cost task charges)) all) (reduced (divisor (world task) (numbering_of task) i.action.effect i.binding))
          ∙ length-map all (charged (base_cost task charges))

      not_less : size ≤ size_of task charges i
      not_less =
          let times : 1 * size ≤ length all * size = mul-le-mul_right size some in
          let whole : size_of task charges i ≡ length all * size = ap (λ k. k * size) listed in
          omega (arith, times, whole)

      two_tests : on n s (i ∷ more) ≡ (first >>= λ _. second >>= λ _. later (size_of task charges i))
      two_tests = tests first second third fourth (later (size_of task charges i))
          (λ _. passes (widest (world task) (numbering_of task) i.action.effect i.binding) Choices narrow) cheap

      abbrev Steps : Type 0
      Steps = (on n s (i ∷ more) ≡ Err GroundSize) ⊎ ((t : ℕ) × (s + size ≤ t) × (on n s (i ∷ more) ≡ on (n + 1) t more))

      not_more : size_of task charges i ≤ 2 ^ least * size
      not_more =
          let times : length all * size ≤ 2 ^ least * size = mul-le-mul_right size few.long in
          let whole : size_of task charges i ≡ length all * size = ap (λ k. k * size) listed in
          omega (arith, times, whole)

      reached : n + 1 ≤ most_of Actions → s + size ≤ most_of GroundSize → on n s (i ∷ more) ≡ later (size_of task charges i)
      reached room under =
          two_tests ∙ ap (λ r. r >>= λ _. second >>= λ _. later (size_of task charges i)) (passes (n + 1) Actions room)
          ∙ ap (λ r. r >>= λ _. later (size_of task charges i)) (passes (s + size) GroundSize under)

      -- within the limits, however many choices it has
      pub goes_on : n + 1 ≤ most_of Actions → s + 2 ^ least * size ≤ most_of GroundSize
          → (size_of task charges i ≤ 2 ^ least * size) × (on n s (i ∷ more) ≡ on (n + 1) (s + size_of task charges i) more)
      goes_on room under =
          let most = not_more in
          let own = not_less in
          let inside : s + size_of task charges i ≤ most_of GroundSize = omega (arith, under, most) in (
            most,
            reached room (omega (arith, inside, own))
                ∙ ap (λ r. r >>= λ _. on (n + 1) (s + size_of task charges i) more) (passes (s + size_of task charges i) GroundSize inside),
          )

      light_step : n + 1 ≤ most_of Actions → Steps
      light_step room = elim (cases_lt (most_of GroundSize) (s + size)) [
        | inl above ↦ inl (large_stop room above)
        | inr under ↦ elim (cases_lt (most_of GroundSize) (s + size_of task charges i)) [
          | inl above ↦ inl (reached room under ∙ ap (λ r. r >>= λ _. on (n + 1) (s + size_of task charges i) more) (fails (s + size_of task charges i) GroundSize above))
          | inr within_it ↦ inr (
            s + size_of task charges i,
            (let more = not_less in omega (arith, more)),
            reached room under ∙ ap (λ r. r >>= λ _. on (n + 1) (s + size_of task charges i) more) (passes (s + size_of task charges i) GroundSize within_it),
          )
        ]
      ]

      -- without branches there is one choice
      size_is : count ≡ 0 → size_of task charges i ≡ size
      size_is none =
          let zero_branches : least ≡ 0 = omega (arith, counts, none) in
          let long : length all ≤ 2 ^ 0 = subst (λ k. length all ≤ 2 ^ k) zero_branches few.long in
          let once : 2 ^ 0 ≡ 1 = refl in
          let more = some in
          let one : length all ≡ 1 = omega (arith, long, once, more) in
          let same : 1 * size ≡ size = omega arith in
          ap (λ k. k * size) (listed ∙ one) ∙ same

      abbrev at : Bool → Walked
      at exact = record { instances = n; size = s; is_exact = exact }

      alone_goes : count ≡ 0 → (exact : Bool) → on n s (i ∷ more) ≡ (one_more (at exact) size >>= λ x. on x.instances x.size more)
      alone_goes none exact =
          two_tests
          ∙ ap (λ k. first >>= λ _. second >>= λ _. later k) (size_is none)
          ∙ twice first second (on (n + 1) (s + size) more)
          ∙ counted_on first second (grown (at exact) size) (λ x. on x.instances x.size more)

  -- ---- those of an action

  abbrev instance_of : Action → Binding → Instance
  instance_of a b = record { action = a; binding = b }

  abbrev Low : ℕ → ℕ → List Instance → List Instance → Result Walked LimitCode → Type 0
  Low n s is rest (Ok next) = (on n s is ≡ Err GroundSize) ⊎ ((t : ℕ) × (next.size ≤ t) × (on n s is ≡ on next.instances t rest))
  Low n s is rest (Err code) = code ≡ GroundSize → on n s is ≡ Err GroundSize

  low_end : (n s : ℕ) (is rest : List Instance) → on n s is ≡ Err GroundSize → (r : Result Walked LimitCode) → Low n s is rest r
  low_end n s is rest over (Ok next) = inl over
  low_end n s is rest over (Err code) = λ _. over

  low_via : (n s n' s' : ℕ) (is is' rest : List Instance) → on n s is ≡ on n' s' is' → (r : Result Walked LimitCode) → Low n' s' is' rest r → Low n s is rest r
  low_via n s n' s' is is' rest same (Ok next) (inl over) = inl (same ∙ over)
  low_via n s n' s' is is' rest same (Ok next) (inr far) = inr (far.0, far.1, same ∙ far.2)
  low_via n s n' s' is is' rest same (Err code) stops = λ here. same ∙ stops here

  module _ (a : Action) (rest : List Instance) (effect count : ℕ) (sized : effect ≡ counted (effect_size (world task) a.effect))
      (counts : count ≡ counted (branches (world task) a.effect)) (light : IsLight effect count (base_cost task charges) (greatest_value task.problem.values) a.effect)
      (fair : EachDraw SumWithinOne a.effect) where
    abbrev each : ℕ
    each = effect_size (world task) a.effect

    abbrev behind : List Binding → List Instance
    behind bs = map (instance_of a) bs ++ rest

    all_go : count ≡ 0 → (bs : List Binding) (w : Walked)
        → on w.instances w.size (map (instance_of a) bs ++ rest) ≡ (many_more w each (length bs) >>= λ x. on x.instances x.size rest)
    all_go none [] w = refl
    all_go none (b ∷ bs) w =
        alone_goes w.instances w.size (instance_of a b) (map (instance_of a) bs ++ rest) effect count sized counts light fair none w.is_exact
        ∙ bind_cong (one_more w each) (λ x. on x.instances x.size (map (instance_of a) bs ++ rest))
        (λ x. many_more x each (length bs) >>= λ y. on y.instances y.size rest) (λ x. all_go none bs x)
        ∙ sym (bind_assoc (one_more w each) (λ x. many_more x each (length bs)) (λ y. on y.instances y.size rest))

    after_step : (b : Binding) (bs : List Binding) (w : Walked) (s : ℕ) → w.size ≤ s
        → ((x : Walked) (t : ℕ) → x.size ≤ t → Low x.instances t (behind bs) rest (many_more x each (length bs)))
        → (on w.instances s (behind (b ∷ bs)) ≡ Err GroundSize)
        ⊎ ((t : ℕ) × (s + each ≤ t) × (on w.instances s (behind (b ∷ bs)) ≡ on (w.instances + 1) t (behind bs)))
        → Low w.instances s (behind (b ∷ bs)) rest (many_more (grown w each) each (length bs))
    after_step b bs w s low others (inl over) = low_end w.instances s (behind (b ∷ bs)) rest over (many_more (grown w each) each (length bs))
    after_step b bs w s low others (inr far) =
        let more = far.1 in
        low_via w.instances s (w.instances + 1) far.0 (behind (b ∷ bs)) (behind bs) rest far.2 (many_more (grown w each) each (length bs))
        (others (grown w each) far.0 (omega (arith, low, more)))

    low_go : (bs : List Binding) (w : Walked) (s : ℕ) → w.size ≤ s → Low w.instances s (behind bs) rest (many_more w each (length bs))
    low_go [] w s low = inr (s, low, refl)
    low_go (b ∷ bs) w s low = elim (cases_lt (most_of Actions) (w.instances + 1)) [
      | inl above ↦
          subst (Low w.instances s (behind (b ∷ bs)) rest)
          (sym (ap (λ r. (r >>= λ _. within (w.size + each) GroundSize >>= λ _. Ok (grown w each)) >>= λ x. many_more x each (length bs))
          (fails (w.instances + 1) Actions above)))
          (λ same. absurd (cc))
      | inr few ↦ elim (cases_lt (most_of GroundSize) (w.size + each)) [
        | inl above ↦
            low_end w.instances s (behind (b ∷ bs)) rest
            (large_stop w.instances s (instance_of a b) (behind bs) few (omega (arith, above, low)))
            (many_more w each (suc (length bs)))
        | inr under ↦
            subst (Low w.instances s (behind (b ∷ bs)) rest)
            (sym (ap (λ r. (r >>= λ _. within (w.size + each) GroundSize >>= λ _. Ok (grown w each)) >>= λ x. many_more x each (length bs))
            (passes (w.instances + 1) Actions few)
            ∙ ap (λ r. (r >>= λ _. Ok (grown w each)) >>= λ x. many_more x each (length bs)) (passes (w.size + each) GroundSize under)))
            (after_step b bs w s low (λ x t. low_go bs x t)
            (light_step w.instances s (instance_of a b) (behind bs) effect count sized counts light fair few))
      ]
    ]

-- ---- what is reached

module _ (task : Task) (charges : Charges) (n size : ℕ) (is : List Instance) (whole : Result ℕ LimitCode) where
  weaker : (exact : Bool) → IsAt task charges n size is whole exact → IsAt task charges n size is whole false
  weaker true at = inr (size, omega arith, at)
  weaker false at = at

  pub perhaps_weaker : (exact none : Bool) → IsAt task charges n size is whole exact → IsAt task charges n size is whole (exact && none)
  perhaps_weaker true true at = at
  perhaps_weaker true false at = inr (size, omega arith, at)
  perhaps_weaker false none at = at

module _ (task : Task) (base : ℕ) (a : Action) (t : Table) (kept : AreKept task a t) (w : Walked) (many : ℕ) (long : many ≡ length t.rows)
    (effect : ℕ) (table_size : effect ≡ counted (effect_size (table_of task) a.effect)) where
  many_kept : length (kept_of task a) ≡ many
  many_kept = sym (ap length kept.bound) ∙ length-map t.rows (binding_of_row (table_of task) a.params) ∙ sym long

  sized : effect ≡ counted (effect_size (world task) a.effect)
  sized = table_size ∙ ap counted (sym (effect_forgets (table_of task) task.problem.values a.effect))

  module _ (count : ℕ) (table_count : count ≡ counted (branches (table_of task) a.effect)) (light : IsLight effect count base (greatest_value task.problem.values) a.effect)
      (fair : EachDraw SumWithinOne a.effect) (exact : Bool) (from : exact ≡ (w.is_exact && nat_eq count 0)) where
    abbrev begun : Walked
    begun = record { instances = w.instances; size = w.size; is_exact = exact }

    counts : count ≡ counted (branches (world task) a.effect)
    counts = table_count ∙ ap counted (sym (branches_forget (table_of task) task.problem.values a.effect))

    module _ (charges : Charges) (same : base_cost task charges ≡ base) (rest : List Instance) (whole : Result ℕ LimitCode)
        (at : IsReached task charges w (instances_of task a ++ rest) whole) where
      at_begun : IsReached task charges begun (instances_of task a ++ rest) whole
      at_begun = subst (IsAt task charges w.instances w.size (instances_of task a ++ rest) whole) (sym from)
          (perhaps_weaker task charges w.instances w.size (instances_of task a ++ rest) whole w.is_exact (nat_eq count 0) at)

      lit : IsLight effect count (base_cost task charges) (greatest_value task.problem.values) a.effect
      lit = subst (λ k. IsLight effect count k (greatest_value task.problem.values) a.effect) (sym same) light

      counted_all : many_more begun (effect_size (world task) a.effect) (length (kept_of task a)) ≡ many_more begun effect many
      counted_all =
          sym (many_counted begun (effect_size (world task) a.effect) (length (kept_of task a)))
          ∙ (λ j. many_more begun (sym sized j) (many_kept j))

      exactly : exact ≡ true → whole ≡ instances_within task charges begun.instances begun.size (instances_of task a ++ rest)
          → whole ≡ (many_more begun effect many >>= λ x. instances_within task charges x.instances x.size rest)
      exactly sure is =
          let none : count ≡ 0 = eqb-true count 0 (and_parts w.is_exact (nat_eq count 0) (sym from ∙ sure)).1 in
          is ∙ all_go task charges a rest effect count sized counts lit fair none (kept_of task a) begun
          ∙ ap (λ r. r >>= λ x. instances_within task charges x.instances x.size rest) counted_all

      lowly : (s : ℕ) → begun.size ≤ s → Low task charges begun.instances s (instances_of task a ++ rest) rest (many_more begun effect many)
      lowly s least = subst (Low task charges begun.instances s (instances_of task a ++ rest) rest) counted_all
          (low_go task charges a rest effect count sized counts lit fair (kept_of task a) begun s least)

      go : (next : Walked) → many_more begun effect many ≡ Ok next → (flag : Bool) → exact ≡ flag
          → IsAt task charges begun.instances begun.size (instances_of task a ++ rest) whole flag → IsAt task charges next.instances next.size rest whole flag
      go next is true same_flag at' =
          exactly same_flag at' ∙ ap (λ r. r >>= λ x. instances_within task charges x.instances x.size rest) is
      go next is false same_flag (inl over) = inl over
      go next is false same_flag (inr far) = far_on (subst (Low task charges begun.instances far.0 (instances_of task a ++ rest) rest) is (lowly far.0 far.1))
        where
          far_on : Low task charges begun.instances far.0 (instances_of task a ++ rest) rest (Ok next) → IsAt task charges next.instances next.size rest whole false
          far_on (inl over) = inl (far.2 ∙ over)
          far_on (inr further) = inr (further.0, further.1, far.2 ∙ further.2)

      stop : (code : LimitCode) → many_more begun effect many ≡ Err code → (flag : Bool) → exact ≡ flag → (flag ≡ true) ⊎ (code ≡ GroundSize)
          → IsAt task charges begun.instances begun.size (instances_of task a ++ rest) whole flag → whole ≡ Err code
      stop code is true same_flag sure at' =
          exactly same_flag at' ∙ ap (λ r. r >>= λ x. instances_within task charges x.instances x.size rest) is
      stop code is false same_flag (inl never) at' = absurd (cc)
      stop code is false same_flag (inr large) (inl over) = over ∙ ap (λ k. Err k) (sym large)
      stop code is false same_flag (inr large) (inr far) =
          far.2 ∙ (subst (Low task charges begun.instances far.0 (instances_of task a ++ rest) rest) is (lowly far.0 far.1)) large ∙ ap (λ k. Err k) (sym large)

    pub many_follow : (next : Walked) → many_more begun effect many ≡ Ok next → Follows task base a w (Ok (Some next))
    many_follow next is = λ charges same rest whole at.
        subst (IsAt task charges next.instances next.size rest whole) (sym (many_flag begun next effect many is))
        (go charges same rest whole at next is exact refl (at_begun charges same rest whole at))

    pub many_stops : (code : LimitCode) (r : Result (Option Walked) LimitCode) → many_more begun effect many ≡ Err code → Stops code exact r
        → Follows task base a w r
    many_stops code (Ok (Some x)) is stops = absurd stops
    many_stops code (Ok None) is stops = tt
    many_stops code (Err c) is stops = λ charges same rest whole at.
        stop charges same rest whole at code is exact refl stops.1 (at_begun charges same rest whole at) ∙ ap (λ k. Err k) (sym stops.0)

  abbrev own_size : ℕ
  own_size = effect_size (world task) a.effect

  abbrev inst : Binding → Instance
  inst b = record { action = a; binding = b }

  abbrev others : List Instance → List Binding → List Instance
  others rest bs = map (λ c. record { action = a; binding = c }) bs ++ rest

  -- by the effect of the first alone
  pub one_stops : (code : LimitCode) (r : Result (Option Walked) LimitCode) → (many ≡ 0 → ⊥) → one_more w effect ≡ Err code → Stops code w.is_exact r
      → Follows task base a w r
  one_stops code (Ok (Some x)) some is stops = absurd stops
  one_stops code (Ok None) some is stops = tt
  one_stops code (Err c) some is stops = λ charges same rest whole at.
      first charges rest whole (kept_of task a) many_kept w.is_exact stops.1 at ∙ ap (λ k. Err k) (sym stops.0)
    where
      over : one_more w own_size ≡ Err code
      over = sym (one_counted w own_size) ∙ ap (one_more w) (sym sized) ∙ is

      -- the code, by which test fails
      first : (charges : Charges) (rest : List Instance) (whole : Result ℕ LimitCode) (bs : List Binding) → length bs ≡ many → (exact : Bool)
          → (exact ≡ true) ⊎ (code ≡ GroundSize)
          → IsAt task charges w.instances w.size (others rest bs) whole exact → whole ≡ Err code
      first charges rest whole [] count exact sure at = absurd (some (sym count))
      first charges rest whole (b ∷ bs) count exact sure at = elim (cases_lt (most_of Actions) (w.instances + 1)) [
        | inl above ↦ by_count above exact sure at (ap (λ r. r >>= λ _. within (w.size + own_size) GroundSize >>= λ _. Ok (grown w own_size)) (fails (w.instances + 1) Actions above))
        | inr few ↦ elim (cases_lt (most_of GroundSize) (w.size + own_size)) [
          | inl above ↦
              by_size exact at (λ s least. large_stop task charges w.instances s (inst b) (others rest bs) few (omega (arith, above, least)))
              (ap (λ r. r >>= λ _. within (w.size + own_size) GroundSize >>= λ _. Ok (grown w own_size)) (passes (w.instances + 1) Actions few)
              ∙ ap (λ r. r >>= λ _. Ok (grown w own_size)) (fails (w.size + own_size) GroundSize above))
          | inr under ↦
              let passes_both : one_more w own_size ≡ Ok (grown w own_size)
              = ap (λ r. r >>= λ _. within (w.size + own_size) GroundSize >>= λ _. Ok (grown w own_size)) (passes (w.instances + 1) Actions few)
              ∙ ap (λ r. r >>= λ _. Ok (grown w own_size)) (passes (w.size + own_size) GroundSize under) in
              let stopped : one_more w own_size ≡ Err code = over in
              absurd (cc)
        ]
      ]
        where
          by_count : most_of Actions < w.instances + 1 → (exact : Bool) → (exact ≡ true) ⊎ (code ≡ GroundSize) → IsAt task charges w.instances w.size (inst b ∷ others rest bs) whole exact
              → one_more w own_size ≡ Err Actions → whole ≡ Err code
          by_count above true sure at fails_so =
              let counted_out : one_more w own_size ≡ Err Actions = fails_so in
              let stopped : one_more w own_size ≡ Err code = over in
              let is : Actions ≡ code = cc in
              at ∙ many_stop task charges w.instances w.size (inst b) (others rest bs) above ∙ ap (λ k. Err k) is
          by_count above false (inl never) at fails_so = absurd (cc)
          by_count above false (inr large) at fails_so =
              let counted_out : one_more w own_size ≡ Err Actions = fails_so in
              let stopped : one_more w own_size ≡ Err code = over in
              let by_size_only : code ≡ GroundSize = large in
              absurd (cc)

          by_size : (exact : Bool) → IsAt task charges w.instances w.size (inst b ∷ others rest bs) whole exact
              → ((s : ℕ) → w.size ≤ s → instances_within task charges w.instances s (inst b ∷ others rest bs) ≡ Err GroundSize)
              → one_more w own_size ≡ Err GroundSize → whole ≡ Err code
          by_size exact at stops fails_so =
              let too_large : one_more w own_size ≡ Err GroundSize = fails_so in
              let stopped : one_more w own_size ≡ Err code = over in
              let is : GroundSize ≡ code = cc in
              from (weaker task charges w.instances w.size (inst b ∷ others rest bs) whole exact at) ∙ ap (λ k. Err k) is
            where
              from : IsAt task charges w.instances w.size (inst b ∷ others rest bs) whole false → whole ≡ Err GroundSize
              from (inl large) = large
              from (inr far) = far.2 ∙ stops far.0 far.1

-- ---- those of all actions

module _ (task : Task) (charges : Charges) (whole : Result ℕ LimitCode) (base : ℕ) (same : base_cost task charges ≡ base) where
  pub split : (actions : List Action) (i : ℕ) (a : Action) → i < length actions → a ≡ get_or actions i a
      → flat_map (instances_of task) (drop i actions) ≡ instances_of task a ++ flat_map (instances_of task) (drop (i + 1) actions)
  split actions i a within is =
      ap (flat_map (instances_of task)) (drop-cons actions i a within)
      ∙ ap (λ y. instances_of task y ++ flat_map (instances_of task) (drop (suc i) actions)) (sym is)
      ∙ ap (λ k. instances_of task a ++ flat_map (instances_of task) (drop k actions)) (sym (add-one i))

  pub next_walked : (actions : List Action) (i : ℕ) (a : Action) (w next : Walked) → i < length actions → a ≡ get_or actions i a
      → Follows task base a w (Ok (Some next)) → IsReached task charges w (flat_map (instances_of task) (drop i actions)) whole
      → IsReached task charges next (flat_map (instances_of task) (drop (i + 1) actions)) whole
  next_walked actions i a w next within is follows at =
      follows charges same (flat_map (instances_of task) (drop (i + 1) actions)) whole
      (subst (λ l. IsReached task charges w l whole) (split actions i a within is) at)

  pub stop_walked : (actions : List Action) (i : ℕ) (a : Action) (w : Walked) (code : LimitCode) → i < length actions → a ≡ get_or actions i a
      → Follows task base a w (Err code) → IsReached task charges w (flat_map (instances_of task) (drop i actions)) whole → whole ≡ Err code
  stop_walked actions i a w code within is follows at =
      follows charges same (flat_map (instances_of task) (drop (i + 1) actions)) whole
      (subst (λ l. IsReached task charges w l whole) (split actions i a within is) at)

pub later_stops : (task : Task) (charges : Charges) (tested : ℕ) (code : LimitCode) → instances_within task charges 0 tested (kept_instances task) ≡ Err code
    → later_limits task charges tested ≡ Err code
later_stops task charges tested code is = rw is refl
