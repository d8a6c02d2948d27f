-- The line's forms spell the line's task.
--     spelled n m seed    the derivation, where m is the number of the last place
use Rattle.std.proofs.Common.{◌≡◌, ℕ, zero, suc, ◌+◌, ◌^◌, ◌<◌, true, false, List, [], ◌∷◌, codes, Some, None, refl, subst, arith}
use Rattle.ppddl_model.specs.declared.tree.Action.{Action}
use Rattle.ppddl_model.specs.declared.tree.Condition.TheVariants as condition
use Rattle.ppddl_model.specs.declared.tree.Effect.TheVariants as effect
use Rattle.ppddl_model.specs.declared.tree.InitItem.TheVariants as item
use Rattle.ppddl_model.specs.declared.tree.Problem.{Problem}
use Rattle.ppddl_model.specs.declared.tree.Domain.{Domain}
use Rattle.ppddl_model.specs.declared.tree.Task.{Task}
use Rattle.ppddl_cursor.specs.Forms.{group, none, more}
use Rattle.ppddl_forms.specs.names.Declarations.{nothing}
use Rattle.ppddl_forms.specs.Terms.{Scope}
use Rattle.ppddl_reader.specs.declared.domains.domain_draft.DomainDraft.{DomainDraft}
use Rattle.ppddl_reader.specs.domains.Domains.{no_sections}
use Rattle.ppddl_form_grammar.specs.forms.Words as word_by
use Rattle.ppddl_form_grammar.specs.forms.Words.{forms}
use Rattle.ppddl_form_grammar.specs.forms.Terms as term_by
use Rattle.ppddl_form_grammar.specs.forms.Terms.{IsAtom}
use Rattle.ppddl_form_grammar.specs.forms.Conditions as condition_by
use Rattle.ppddl_form_grammar.specs.forms.Conditions.{IsCondition}
use Rattle.ppddl_form_grammar.specs.forms.Effects as effect_by
use Rattle.ppddl_form_grammar.specs.forms.Effects.{IsEffect}
use Rattle.ppddl_form_grammar.specs.lists.Items as item_by
use Rattle.ppddl_grammar.specs.sections.Actions as action_by
use Rattle.ppddl_grammar.specs.sections.Actions.{IsAction, named_at}
use Rattle.ppddl_grammar.specs.sections.Problems as section_by
use Rattle.ppddl_grammar.specs.definitions.Domains as domain_by
use Rattle.ppddl_grammar.specs.definitions.Domains.{IsDomain}
use Rattle.ppddl_grammar.specs.definitions.Folds as fold_by
use Rattle.ppddl_grammar.specs.definitions.Folds.{Fold}
use Rattle.ppddl_grammar.specs.definitions.Problems as problem_by
use Rattle.ppddl_grammar.specs.definitions.Problems.{IsProblem}
use Rattle.ppddl_grammar.specs.texts.Texts as text_by
use Rattle.ppddl_grammar.specs.texts.Texts.{IsTask}
use Rattle.plan_report.specs.Line.{tenths, numbered}
use Rattle.bench_line.specs.LineTask.{place, move, move_effect, chance_of}
use Rattle.bench_line.proofs.lemmas.reading.Bits.{on_line}
use Rattle.bench_line.proofs.lemmas.reading.Names.{place_is_name, move_is_name, line_is_name}
use Rattle.bench_line.proofs.lemmas.reading.Spelling.{word_at, group_at, place_form, cost_form, step_form, chance_form, effect_form, place_forms, move_forms, end_line, domain_form, problem_form}
use Rattle.bench_line.proofs.lemmas.reading.Chances.{chance_read, one_chance}
use Rattle.bench_line.proofs.lemmas.reading.Declared.{places, moves, declared, one_move_more, place_found, declares, move_new}

-- ---- an action

module _ (n : ℕ) (few : n < 2 ^ 64) where
  atom_is : (s : Scope) (l i : ℕ) → i < n → IsAtom (declared n) s (place_form l i) (place i)
  atom_is s l i there = term_by.atom (term_by.application (place_is_name i (omega arith)) (place_found n i there few) term_by.no_argument)

  condition_is : (s : Scope) (l i : ℕ) → i < n → IsCondition (declared n) s (place_form l i) (condition.Atom (place i))
  condition_is s l i there = condition_by.atomic (atom_is s l i there)

  cost_is : (s : Scope) (l : ℕ) → IsEffect (declared n) s (cost_form l) (effect.Cost 1000000)
  cost_is s l = effect_by.cost word_by.grouped (effect_by.amount refl refl)

  step_is : (s : Scope) (l i : ℕ) → i + 1 < n → IsEffect (declared n) s (step_form l i) (effect.Both (effect.Delete (place i) ∷ effect.Add (place (i + 1)) ∷ []))
  step_is s l i there =
      effect_by.conjunction (
      effect_by.one_more (effect_by.deletion (atom_is s l i (omega arith)))
      (effect_by.one_more (effect_by.addition (atom_is s l (i + 1) there)) effect_by.no_effect)
      )

  chance_is : (s : Scope) (seed l i : ℕ) → i + 1 < n
      → IsEffect (declared n) s (chance_form seed l i) (effect.Chance (effect_by.branch_of (chance_of (tenths seed i)) (effect.Both (effect.Delete (place i) ∷ effect.Add (place (i + 1)) ∷ [])) ∷ []))
  chance_is s seed l i there = effect_by.chance (effect_by.branch (word_by.chance (chance_read seed i)) (step_is s l i there) effect_by.no_branch) (one_chance seed i)

  effect_is : (s : Scope) (seed l i : ℕ) → i + 1 < n → IsEffect (declared n) s (effect_form seed l i) (move_effect seed i)
  effect_is s seed l i there =
      effect_by.conjunction (effect_by.one_more (cost_is s l) (effect_by.one_more (chance_is s seed l i there) effect_by.no_effect))

  action_is : (seed i : ℕ) → i + 1 < n
      → IsAction (declared n)
      (forms (word_at (3 + i) (numbered (codes "go") i) ∷ word_at (3 + i) (codes ":precondition") ∷ place_form (3 + i) i ∷ word_at (3 + i) (codes ":effect") ∷ effect_form seed (3 + i) i ∷ []))
      (move seed i)
  action_is seed i there =
      action_by.action {s = record { params = None; condition = Some (condition.Atom (place i)); effect = Some (move_effect seed i) }}
      (move_is_name i (omega arith))
      (action_by.precondition refl (condition_is ([] ∷ []) (3 + i) i (omega arith)) (action_by.effect refl (effect_is ([] ∷ []) seed (3 + i) i there) action_by.no_field))

-- ---- the domain

-- what stood behind the predicates and these actions
abbrev drafted : List Action → DomainDraft
drafted actions = record { requirements = false; types = false; constants = None; predicates = true; functions = false; actions = actions }

moves_fold : (n : ℕ) → n < 2 ^ 64 → (seed k a : ℕ) → a + k < n
    → Fold domain_by.IsSection (drafted (moves seed a), declared n) (move_forms seed a k) (drafted (moves seed (a + k)), declared n)
moves_fold n few seed zero a within =
    let same : a ≡ a + 0 = omega arith in
    subst (λ j. Fold domain_by.IsSection (drafted (moves seed a), declared n) none (drafted (moves seed j), declared n)) same fold_by.ended
moves_fold n few seed (suc k) a within =
    let last : (a + 1) + k ≡ a + suc k = omega arith in
    subst (λ j. Fold domain_by.IsSection (drafted (moves seed a), declared n) (move_forms seed a (suc k)) (drafted (moves seed j), declared n)) last (
    fold_by.one_more
    (domain_by.action {s = drafted (moves seed a)} {d = declared n} {x = move seed a} (action_is n few seed a (omega arith)) (move_new seed a (omega arith)))
    (subst (λ actions. Fold domain_by.IsSection (drafted actions, declared n) (move_forms seed (a + 1) k) (drafted (moves seed ((a + 1) + k)), declared n))
    (one_move_more seed a) (moves_fold n few seed k (a + 1) (omega arith)))
    )

abbrev pub the_domain : ℕ → ℕ → ℕ → Domain
the_domain n seed k = record { name = codes "line"; types = []; constants = []; predicates = places n; functions = []; actions = moves seed k }

domain_is : (n m seed : ℕ) → n < 2 ^ 64 → m < n
    → IsDomain (codes "line") (more (group (on_line 2) (more (word_at 2 (codes ":predicates")) (place_forms 0 n)) (on_line 2)) (move_forms seed 0 m)) (the_domain n seed (0 + m)) (declared n)
domain_is n m seed few within =
    domain_by.domain {s = drafted (moves seed (0 + m))} {d = declared n} (
    fold_by.one_more
    (domain_by.predicates {s = no_sections} {d = nothing} {ps = places n} refl (declares n few))
    (moves_fold n few seed m 0 (omega arith))
    )

-- ---- the problem

abbrev pub the_problem : ℕ → ℕ → ℕ → Problem
the_problem l n m = record {
  name = numbered (codes "line-") n;
  file = 1;
  line = l;
  objects = [];
  init = item.Fact (place 0) ∷ [];
  values = [];
  goal = condition.Atom (place m);
  goal_reward = Some 100000000000;
}

problem_is : (l n m : ℕ) → n < 2 ^ 64 → m < n
    → IsProblem (named_at (numbered (codes "line-") n) (on_line l)) (codes "line") (declared n)
    (forms (
    group_at l (word_at l (codes ":domain") ∷ word_at l (codes "line") ∷ [])
    ∷ group_at l (word_at l (codes ":init") ∷ place_form l 0 ∷ [])
    ∷ group_at l (word_at l (codes ":goal") ∷ place_form l m ∷ [])
    ∷ group_at l (word_at l (codes ":goal-reward") ∷ word_at l (codes "100000") ∷ [])
    ∷ group_at l (word_at l (codes ":metric") ∷ word_at l (codes "maximize") ∷ group_at l (word_at l (codes "reward") ∷ []) ∷ [])
    ∷ []))
    (the_problem l n m) (declared n)
problem_is l n m few within =
    problem_by.problem
    {s = record { domain = true; requirements = false; objects = None; start = Some (record { items = item.Fact (place 0) ∷ []; values = [] }); goal = Some (condition.Atom (place m)); goal_reward = Some 100000000000; metric = true }}
    {e = declared n} {c = condition.Atom (place m)}
    (fold_by.one_more (problem_by.domain refl refl)
    (fold_by.one_more (problem_by.start refl (section_by.one_more (item_by.fact (atom_is n few [] l 0 (omega arith))) section_by.no_item))
    (fold_by.one_more (problem_by.goal refl (section_by.goal (condition_is n few [] l m within)))
    (fold_by.one_more (problem_by.reward refl (section_by.reward {n = 100000000000} refl (omega arith)))
    (fold_by.one_more (problem_by.metric refl (problem_by.metric word_by.grouped)) fold_by.ended)))))
    refl refl

-- ---- the task

abbrev pub the_task : ℕ → ℕ → ℕ → ℕ → ℕ → Task
the_task n seed k l m = record { domain = the_domain n seed k; domain_file = 1; problem = the_problem l n m }

pub spelled : (n m seed : ℕ) → n < 2 ^ 64 → m < n → IsTask (domain_form n m seed) (problem_form n m) (the_task n seed (0 + m) (suc (end_line m)) m)
spelled n m seed few within =
    text_by.task
    {n = named_at (codes "line") (on_line 1)} {o = named_at (numbered (codes "line-") n) (on_line (suc (end_line m)))}
    {m = the_domain n seed (0 + m)} {p = the_problem (suc (end_line m)) n m} {d = declared n} {e = declared n}
    (text_by.definition (text_by.heading refl))
    (domain_is n m seed few within)
    (text_by.definition (text_by.heading (line_is_name n few)))
    (problem_is (suc (end_line m)) n m few within)
