-- Kept instances whose effects have few choices are within the limits where the most that they may add up to is.
use Rattle.std.proofs.Common.{◌≡◌, ℕ, zero, suc, ◌+◌, ◌*◌, ◌^◌, ◌<◌, ◌≤◌, List, [], ◌∷◌, ◌++◌, map, length, drop, get_or, refl, sym, ap, subst, ◌∙◌, arith}
use Rattle.std.specs.Prelude.{flat_map, Result, Ok}
use Rattle.std.proofs.lemmas.List.{length-map, drop_all}
use Rattle.ppddl_model.specs.declared.tree.Action.{Action}
use Rattle.ppddl_model.specs.declared.tree.Task.{Task}
use Rattle.ppddl_model.specs.Chances.{SumWithinOne}
use Rattle.ppddl_model.specs.Draws.{EachDraw}
use Rattle.ppddl_model.specs.Objects.{Binding}
use Rattle.ppddl_model.specs.Changing.{kept_instances}
use Rattle.ppddl_model.specs.Steps.{Instance, Charges, world, base_cost}
use Rattle.ground_meaning.specs.choices.Limits.{condition_size, effect_size}
use Rattle.ground_meaning.specs.declared.refusals.limits.LimitCode.{LimitCode}
use Rattle.ground_meaning.specs.declared.refusals.limits.LimitCode.TheVariants.{Actions, GroundSize}
use Rattle.ground_meaning.specs.refusals.Codes.{most_of}
use Rattle.ground_meaning.specs.refusals.Limits.{size_of, instances_within}
use Rattle.ground_terms.specs.sizes.Counted.{counted}
use Rattle.ground_terms.proofs.lemmas.sizes.Forgetting.{effect_forgets}
use Rattle.task_instances.specs.facts.Facts.{table_of}
use Rattle.task_instances.specs.kept_rows.Rows.{Table}
use Rattle.task_instances.specs.kept_rows.Kept.{binding_of_row, AreKept}
use Rattle.grounder.specs.Limited.{sized}
use Rattle.grounder.specs.changing_atoms.Atoms.{kept_of}
use Rattle.grounder.specs.declared.outset.bounded.Bounded.{Bounded}
use Rattle.grounder.specs.outset.Draws.{branches, greatest_value, IsLight}
use Rattle.grounder.specs.outset.Walked.{instances_of}
use Rattle.grounder.specs.outset.Bounded.{IsBelow, Leads}
use Rattle.grounder.proofs.Totals.{goal_within}
use Rattle.grounder.proofs.lemmas.outset.Few.{branches_forget}
use Rattle.grounder.proofs.lemmas.outset.Walking.{goes_on, split}

-- ---- sizes that stop

le_times : (a b : ℕ) → (b ≡ 0 → ⊥) → a ≤ a * b
le_times a zero some = absurd (some refl)
le_times a (suc b) some = let sum : a * suc b ≡ a + a * b = grind arith in omega (arith, sum)

-- nothing has stopped where the sum is within the limit
room_is : (before size effect power each whole most many : ℕ) → effect ≡ counted size → (power ≡ 0 → ⊥) → (many ≡ 0 → ⊥) → each ≡ counted (effect * power)
    → whole ≡ counted (each * many) → most ≡ counted (before + whole) → most ≤ most_of GroundSize → before + many * (power * size) ≡ most
room_is before size effect power each whole most many effect_is some_power some_many each_is whole_is most_is below =
    let times : each ≤ each * many = le_times each many some_many in
    let own : effect ≤ effect * power = le_times effect power some_power in
    let small : each * many ≤ most_of GroundSize = omega (arith, whole_is, most_is, below) in
    let same_each : each ≡ effect * power = omega (arith, times, small, each_is) in
    let same_effect : effect ≡ size = omega (arith, own, same_each, times, small, effect_is) in
    let turned : size * power * many ≡ many * (power * size) = grind arith in
    let product : each * many ≡ many * (power * size) = ap (λ k. k * many) same_each ∙ ap (λ k. k * power * many) same_effect ∙ turned in
    omega (arith, product, whole_is, most_is, below)

-- ---- those of an action

module _ (task : Task) (charges : Charges) (a : Action) (rest : List Instance) (effect count : ℕ) (sized : effect ≡ counted (effect_size (world task) a.effect))
    (counts : count ≡ counted (branches (world task) a.effect)) (light : IsLight effect count (base_cost task charges) (greatest_value task.problem.values) a.effect)
    (fair : EachDraw SumWithinOne a.effect) where
  abbrev each : ℕ
  each = 2 ^ branches (world task) a.effect * effect_size (world task) a.effect

  abbrev inst : Binding → Instance
  inst b = record { action = a; binding = b }

  abbrev behind : List Binding → List Instance
  behind bs = map inst bs ++ rest

  all_go_on : (bs : List Binding) (n s : ℕ) → n + length bs ≤ most_of Actions → s + length bs * each ≤ most_of GroundSize
      → (t : ℕ) × (t ≤ s + length bs * each) × (instances_within task charges n s (behind bs) ≡ instances_within task charges (n + length bs) t rest)
  all_go_on [] n s few room =
      let none : n ≡ n + 0 = omega arith in
      (s, omega arith, ap (λ k. instances_within task charges k s rest) none)
  all_go_on (b ∷ bs) n s few room =
      let sum : suc (length bs) * each ≡ each + length bs * each = grind arith in
      let first = goes_on task charges n s (inst b) (behind bs) effect count sized counts light fair (omega (arith, few)) (omega (arith, room, sum)) in
      let low = first.0 in
      let own : ℕ = size_of task charges (inst b) in
      let later = all_go_on bs (n + 1) (s + own) (omega (arith, few)) (omega (arith, room, sum, low)) in
      let below = later.1 in
      let number : n + 1 + length bs ≡ n + suc (length bs) = omega arith in
      (later.0, omega (arith, below, low, sum), first.1 ∙ later.2 ∙ ap (λ k. instances_within task charges k later.0 rest) number)

module _ (task : Task) (base : ℕ) (a : Action) (t : Table) (kept : AreKept task a t) (b : Bounded) (many : ℕ) (long : many ≡ length t.rows)
    (effect : ℕ) (table_size : effect ≡ counted (effect_size (table_of task) a.effect)) (count : ℕ) (table_count : count ≡ counted (branches (table_of task) a.effect))
    (light : IsLight effect count base (greatest_value task.problem.values) a.effect) (fair : EachDraw SumWithinOne a.effect) where
  many_kept : length (kept_of task a) ≡ many
  many_kept = sym (ap length kept.bound) ∙ length-map t.rows (binding_of_row (table_of task) a.params) ∙ sym long

  sized_so : effect ≡ counted (effect_size (world task) a.effect)
  sized_so = table_size ∙ ap counted (sym (effect_forgets (table_of task) task.problem.values a.effect))

  counts : count ≡ counted (branches (world task) a.effect)
  counts = table_count ∙ ap counted (sym (branches_forget (table_of task) task.problem.values a.effect))

  branches_are : count ≡ branches (world task) a.effect
  branches_are = let small = light.few in let same = counts in omega (arith, same, small)

  pub bound_leads : (power each_size whole most instances : ℕ) → (many ≡ 0 → ⊥) → power ≡ 2 ^ count → (power ≡ 0 → ⊥) → each_size ≡ counted (effect * power)
      → whole ≡ counted (each_size * many) → most ≡ counted (b.most + whole) → instances ≡ counted (b.instances + many)
      → instances ≤ most_of Actions → most ≤ most_of GroundSize → Leads task base a b (record { instances = instances; most = most })
  bound_leads power each_size whole most instances some power_is some_power each_is whole_is most_is number few below = λ charges same rest all at.
      let own : ℕ = effect_size (world task) a.effect in
      let lit : IsLight effect count (base_cost task charges) (greatest_value task.problem.values) a.effect
      = subst (λ k. IsLight effect count k (greatest_value task.problem.values) a.effect) (sym same) light in
      let room : b.most + many * (power * own) ≡ most
      = room_is b.most own effect power each_size whole most many sized_so some_power some each_is whole_is most_is below in
      let one : power * own ≡ each task charges a rest effect count sized_so counts lit fair
      = ap (λ k. k * own) (power_is ∙ ap (λ k. 2 ^ k) branches_are) in
      let room' : b.most + length (kept_of task a) * each task charges a rest effect count sized_so counts lit fair ≡ most
      = (λ j. b.most + many_kept j * sym one j) ∙ room in
      let low = at.1 in
      let rows = many_kept in
      let far = all_go_on task charges a rest effect count sized_so counts lit fair (kept_of task a) b.instances at.0
      (omega (arith, number, few, rows)) (omega (arith, room', low, below)) in
      let most_far = far.1 in
      let number' : b.instances + length (kept_of task a) ≡ instances = omega (arith, number, few, rows) in
      (far.0, omega (arith, most_far, room', low), at.2 ∙ far.2 ∙ ap (λ k. instances_within task charges k far.0 rest) number')

abbrev no_instances : List Instance
no_instances = []

none_bound : (a : Action) (bs : List Binding) → length bs ≡ 0 → map (λ c. record { action = a; binding = c }) bs ≡ no_instances
none_bound a [] none = refl
none_bound a (b ∷ bs) none = absurd (omega (arith, none))

pub nothing_leads : (task : Task) (base : ℕ) (a : Action) (t : Table) → AreKept task a t → length t.rows ≡ 0 → (b : Bounded) → Leads task base a b b
nothing_leads task base a t kept none b = λ charges same rest all at. (
  at.0,
  at.1,
  at.2 ∙ ap (λ l. instances_within task charges b.instances at.0 (l ++ rest)) (none_bound a (kept_of task a) (sym (ap length kept.bound)
      ∙ length-map t.rows (binding_of_row (table_of task) a.params) ∙ none)),
)

-- ---- those of all actions

module _ (task : Task) (charges : Charges) (whole : Result ℕ LimitCode) (base : ℕ) (same : base_cost task charges ≡ base) where
  pub next_bounded : (actions : List Action) (i : ℕ) (a : Action) (b next : Bounded) → i < length actions → a ≡ get_or actions i a
      → Leads task base a b next → IsBelow task charges b (flat_map (instances_of task) (drop i actions)) whole
      → IsBelow task charges next (flat_map (instances_of task) (drop (i + 1) actions)) whole
  next_bounded actions i a b next within is leads at =
      leads charges same (flat_map (instances_of task) (drop (i + 1) actions)) whole
      (subst (λ l. IsBelow task charges b l whole) (split task charges whole base same actions i a within is) at)

pub surely : (task : Task) (charges : Charges) (tested : ℕ) (b : Bounded) (goal sum : ℕ) (actions : List Action) (k : ℕ) → length actions ≤ k
    → IsBelow task charges b (flat_map (instances_of task) (drop k actions)) (instances_within task charges 0 tested (kept_instances task))
    → goal ≡ counted (condition_size (table_of task) task.problem.goal) → sum ≡ counted (b.most + goal) → sum ≤ most_of GroundSize
    → sized task charges tested ≡ Ok tt
surely task charges tested b goal sum actions k all at counts sum_is below =
    let low = at.1 in
    let inside : counted (at.0 + goal) ≤ most_of GroundSize = omega (arith, low, sum_is, below) in
    goal_within task charges tested at.0 goal (counted (at.0 + goal))
    (at.2 ∙ ap (λ l. instances_within task charges b.instances at.0 (flat_map (instances_of task) l)) (drop_all k actions all))
    counts refl inside
