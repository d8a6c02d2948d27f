-- The limits of atoms and of initial states.
use Rattle.std.proofs.Common.{◌≡◌, ℕ, ◌+◌, ◌<◌, ◌≤◌, length, refl, sym, ap, subst, ◌∙◌, arith}
use Rattle.std.specs.Prelude.{Result, Ok, Err}
use Rattle.plain_list.specs.Results.{◌>>=◌}
use Rattle.plain_list.proofs.Results.{bind_assoc}
use Rattle.ppddl_model.specs.declared.tree.Task.{Task}
use Rattle.ppddl_model.specs.Changing.{kept_instances}
use Rattle.ppddl_model.specs.Steps.{Charges, world}
use Rattle.ground_meaning.specs.choices.Limits.{condition_size}
use Rattle.ground_meaning.specs.choices.Numbering.{Numbering}
use Rattle.ground_meaning.specs.declared.refusals.limits.LimitCode.{LimitCode}
use Rattle.ground_meaning.specs.declared.refusals.limits.LimitCode.TheVariants as limit
use Rattle.ground_meaning.specs.declared.refusals.refusal.GroundRefusal.{GroundRefusal}
use Rattle.ground_meaning.specs.declared.refusals.refusal.GroundRefusal.TheVariants.{CostNotPositive, NoPenalty, Limit, Memory}
use Rattle.ground_meaning.specs.refusals.Atoms.{numbering_of}
use Rattle.ground_meaning.specs.refusals.Codes.{most_of}
use Rattle.ground_meaning.specs.refusals.Limits.{within, instances_within}
use Rattle.ground_meaning.specs.refusals.Starts.{Starts, starts_den, widest_start, starts_of}
use Rattle.grounder.specs.limits.Laws.{later_limits}
use Rattle.grounder.proofs.lemmas.actions.Tests.{fails}
use Rattle.grounder.proofs.lemmas.limits.Counting.{passes}
use Rattle.grounder.specs.declared.starts.states.InitialStates.{InitialStates}
use Rattle.grounder.specs.starts.Answers as starts
use Rattle.grounder.specs.starts.Answers.{starts_or_refusal}
use Rattle.grounder.specs.Limited.{Limited, sized, ended}

limit_of : (a b : Result (Unit {0}) LimitCode) (s : Starts) (code : LimitCode) → (a >>= λ _. b >>= λ _. Ok s) ≡ Err code → (a >>= λ _. b) ≡ Err code
limit_of (Ok u) (Ok v) s code is = absurd cc
limit_of (Ok u) (Err d) s code is = let same : d ≡ code = cc in ap Err same
limit_of (Err d) b s code is = let same : d ≡ code = cc in ap Err same

passed_of : (a b : Result (Unit {0}) LimitCode) (s x : Starts) → (a >>= λ _. b >>= λ _. Ok s) ≡ Ok x → ((a >>= λ _. b) ≡ Ok tt) × (s ≡ x)
passed_of (Ok u) (Ok v) s x is = (refl, cc)
passed_of (Ok u) (Err d) s x is = absurd cc
passed_of (Err d) b s x is = absurd cc

module _ (task : Task) where
  abbrev atom_count : ℕ
  atom_count = length (numbering_of task).atoms

  abbrev start_limits : Result (Unit {0}) LimitCode
  start_limits =
      within (starts_den task.problem.init) limit.Denominator
      >>= λ _. within (widest_start (numbering_of task) task.problem.init) limit.Starts

  abbrev then_starts : Result (Unit {0}) LimitCode → Result (Unit {0}) LimitCode
  then_starts r = r >>= λ _. start_limits

  few_atoms : (count : ℕ) → count ≡ atom_count → count ≤ most_of limit.Atoms → ended task ≡ start_limits
  few_atoms count is below =
      let inside : atom_count ≤ most_of limit.Atoms = omega (arith, is, below) in
      ap then_starts (passes atom_count limit.Atoms inside)

  module _ (n : Numbering) (same : n ≡ numbering_of task) where
    told : (r : Result InitialStates GroundRefusal) → starts.Answers r (starts_or_refusal n task.problem.init)
        → starts.Answers r (starts_or_refusal (numbering_of task) task.problem.init)
    told r is = subst (λ m. starts.Answers r (starts_or_refusal m task.problem.init)) same is

    pub starts_refused : {A : Type 0} (Is : A → Type 0) (e : GroundRefusal) (count : ℕ) → count ≡ atom_count → count ≤ most_of limit.Atoms
        → starts.Answers (Err e) (starts_or_refusal n task.problem.init) → Limited Is (Err e) (ended task)
    starts_refused Is (CostNotPositive line) count is below answers = absurd answers
    starts_refused Is (NoPenalty line) count is below answers = absurd answers
    starts_refused Is (Limit code) count is below answers =
        few_atoms count is below
        ∙ limit_of (within (starts_den task.problem.init) limit.Denominator) (within (widest_start (numbering_of task) task.problem.init) limit.Starts)
        (starts_of (numbering_of task) task.problem.init) code (told (Err (Limit code)) answers)
    starts_refused Is Memory count is below answers = tt

    pub starts_found : (x : InitialStates) (count : ℕ) → count ≡ atom_count → count ≤ most_of limit.Atoms
        → starts.Answers (Ok x) (starts_or_refusal n task.problem.init)
        → (ended task ≡ Ok tt) × (starts_of (numbering_of task) task.problem.init ≡ record { list = x.list; den = x.den })
    starts_found x count is below answers =
        let both = passed_of (within (starts_den task.problem.init) limit.Denominator) (within (widest_start (numbering_of task) task.problem.init) limit.Starts)
        (starts_of (numbering_of task) task.problem.init) (record { list = x.list; den = x.den }) (told (Ok x) answers) in
        (few_atoms count is below ∙ both.0, both.1)

-- ---- all limits

pub later_is : (task : Task) (charges : Charges) (tested : ℕ) → (sized task charges tested >>= λ _. ended task) ≡ later_limits task charges tested
later_is task charges tested =
    bind_assoc (instances_within task charges 0 tested (kept_instances task))
    (λ size. within (size + condition_size (world task) task.problem.goal) limit.GroundSize) (λ _. ended task)

-- more atoms than there may be, where all limits before that on them are kept
pub atoms_over : (task : Task) (charges : Charges) (tested : ℕ) → sized task charges tested ≡ Ok tt → most_of limit.Atoms < length (numbering_of task).atoms
    → later_limits task charges tested ≡ Err limit.Atoms
atoms_over task charges tested sure above =
    sym (later_is task charges tested) ∙ ap (λ r. r >>= λ _. ended task) sure
    ∙ ap (λ r. r >>= λ _. start_limits task) (fails (length (numbering_of task).atoms) limit.Atoms above)
