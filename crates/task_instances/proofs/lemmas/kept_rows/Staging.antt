-- Stages: how they are made, and what is left of them once a parameter is bound.
use Rattle.std.proofs.Common.{◌≡◌, ℕ, zero, suc, ◌-◌, ◌<◌, ◌≤◌, Bool, true, false, not, ◌&&◌, cond, List, [], ◌∷◌, ◌++◌, filter, length, drop, drop-cons, reverse, get_or, refl, sym, ap, subst, ◌∙◌, arith}
use Rattle.std.specs.Prelude.{Contains, flat_map}
use Rattle.std.specs.List.{list_all}
use Rattle.std.proofs.lemmas.Bool.{and_parts}
use Rattle.std.proofs.lemmas.List.{reverse-append}
use Rattle.std.proofs.lemmas.List.Elements.{All-nil, All-cons, All-head, All-tail, Contains-append_left, Contains-append_right}
use Rattle.plain_list.proofs.Members.{Contains-first, Contains-later}
use Rattle.ppddl_model.specs.declared.tree.Action.{Action}
use Rattle.ppddl_model.specs.declared.tree.Condition.{Condition}
use Rattle.ppddl_model.specs.declared.tree.Param.{Param}
use Rattle.ppddl_model.specs.declared.tree.Task.{Task}
use Rattle.ppddl_model.specs.Objects.{World, Binding, bindings}
use Rattle.ppddl_model.specs.Functions.{are_valued}
use Rattle.ppddl_model.specs.Steps.{world}
use Rattle.type_table.specs.Types.{object_at}
use Rattle.type_table.proofs.Lists.{by_test}
use Rattle.task_instances.specs.facts.Facts.{table_of}
use Rattle.task_instances.specs.declared.kept_rows.stages.Stage.{Stage}
use Rattle.task_instances.specs.kept_rows.Kept.{is_kept_under}
use Rattle.task_instances.specs.kept_rows.Stages.{names_variable, names_none, conjuncts_of, may_hold, may_all_hold, tests_of, params_of, may_pass, are_settled, HasRange, AreStages, IsLeft}
use Rattle.task_instances.proofs.lemmas.kept_rows.Alike.{all_same_below}
use Rattle.task_instances.proofs.lemmas.kept_rows.BindSteps.{ways_with, all_ways}
use Rattle.task_instances.proofs.lemmas.kept_rows.Conjoined.{each_may_hold, and_true}

-- ---- lists

and_assoc : (a b c : Bool) → ((a && b) && c) ≡ (a && (b && c))
and_assoc true b c = refl
and_assoc false b c = refl

and_swap : (a b c : Bool) → (a && (b && c)) ≡ (b && (a && c))
and_swap true true c = refl
and_swap true false c = refl
and_swap false true c = refl
and_swap false false c = refl

both_true : (a b : Bool) → a ≡ true → b ≡ true → (a && b) ≡ true
both_true a b first second = ap (λ t. t && b) first ∙ second

-- what holds of each holds of those that pass a test, and of those that fail it
pub all_parts : {X : Type 0} (f p : X → Bool) (xs : List X) → list_all f xs ≡ (list_all f (filter p xs) && list_all f (filter (λ x. not (p x)) xs))
all_parts f p [] = refl
all_parts f p (x ∷ xs) = by_test (p x)
    (λ e. rw e (ap (λ t. f x && t) (all_parts f p xs) ∙ sym (and_assoc (f x) (list_all f (filter p xs)) (list_all f (filter (λ y. not (p y)) xs)))))
    (λ e. rw e (ap (λ t. f x && t) (all_parts f p xs) ∙ and_swap (f x) (list_all f (filter p xs)) (list_all f (filter (λ y. not (p y)) xs))))

all_that_fail : {X : Type 0} (p : X → Bool) (xs : List X) → list_all (λ x. not (p x)) (filter (λ x. not (p x)) xs) ≡ true
all_that_fail p [] = refl
all_that_fail p (x ∷ xs) = by_test (p x) (λ e. rw e (all_that_fail p xs)) (λ e. rw e (rw e (all_that_fail p xs)))

all_both : {X : Type 0} (f g : X → Bool) (xs : List X) → list_all f xs ≡ true → list_all g xs ≡ true → list_all (λ x. f x && g x) xs ≡ true
all_both f g [] first second = refl
all_both f g (x ∷ xs) first second =
    let one = and_parts (f x) (list_all f xs) first in
    let two = and_parts (g x) (list_all g xs) second in
    both_true (f x && g x) (list_all (λ y. f y && g y) xs) (both_true (f x) (g x) one.0 two.0) (all_both f g xs one.1 two.1)

all_of_true : {X : Type 0} (xs : List X) → list_all (λ _. true) xs ≡ true
all_of_true [] = refl
all_of_true (x ∷ xs) = all_of_true xs

pub filter_none : {X : Type 0} (p : X → Bool) (xs : List X) → ((x : X) → Contains xs x → p x ≡ false) → filter p xs ≡ []
filter_none p [] fails = refl
filter_none p (x ∷ xs) fails =
    ap (λ t. cond t (x ∷ filter p xs) (filter p xs)) (fails x (Contains-first x xs))
    ∙ filter_none p xs (λ y inside. fails y (Contains-later x xs y inside))

contains_part : {X Y : Type 0} (g : X → List Y) (xs : List X) (i : ℕ) (d : X) (y : Y) → i < length xs → Contains (g (get_or xs i d)) y
    → Contains (flat_map g xs) y
contains_part g [] i d y within inside = absurd (omega arith)
contains_part g (x ∷ xs) zero d y within inside = Contains-append_left (g x) (flat_map g xs) y inside
contains_part g (x ∷ xs) (suc i) d y within inside =
    Contains-append_right (g x) (flat_map g xs) y (contains_part g xs i d y (omega arith) inside)

-- ---- how stages are made

module _ (w : World) (cs : List Condition) where
  pub made_first : (ps : List Param) (first : List Condition) → ps ≡ [] → first ≡ cs → AreStages w ps cs first []
  made_first ps first none are = record {
    params = sym none;
    ranges = All-nil (HasRange w);
    settled = refl;
    free = ap (λ qs. list_all (names_none qs) first) none ∙ all_of_true first;
    parts = λ f. ap (list_all f) (sym are) ∙ sym (and_true (list_all f first));
  }

  module _ (p : Param) (ps : List Param) (s : Stage) (first others : List Condition) (later : List Stage)
      (is : s.param.now ≡ p) (range : HasRange w s)
      (naming : tests_of s ≡ filter (names_variable p.name) first)
      (rest : others ≡ filter (λ c. not (names_variable p.name c)) first) (before : AreStages w ps cs first later) where
    -- what holds of each of the first holds of both parts
    both : (f : Condition → Bool) → list_all f first ≡ (list_all f (tests_of s) && list_all f others)
    both f =
        all_parts f (names_variable p.name) first
        ∙ ap (λ l. list_all f l && list_all f (filter (λ c. not (names_variable p.name c)) first)) (sym naming)
        ∙ ap (λ l. list_all f (tests_of s) && list_all f l) (sym rest)

    free_parts : (list_all (names_none ps) (tests_of s) ≡ true) × (list_all (names_none ps) others ≡ true)
    free_parts = and_parts (list_all (names_none ps) (tests_of s)) (list_all (names_none ps) others) (sym (both (names_none ps)) ∙ before.free)

    made_more : AreStages w (p ∷ ps) cs others (s ∷ later)
    made_more = record {
      params = ap (λ q. q ∷ params_of later) is ∙ ap (λ l. p ∷ l) before.params;
      ranges = All-cons (HasRange w) s later range before.ranges;
      settled =
          both_true (list_all (names_none (params_of later)) (tests_of s)) (are_settled later)
          (ap (λ l. list_all (names_none l) (tests_of s)) before.params ∙ free_parts.0) before.settled;
      free =
          all_both (λ c. not (names_variable p.name c)) (names_none ps) others
          (ap (list_all (λ c. not (names_variable p.name c))) rest ∙ all_that_fail (names_variable p.name) first
          ∙ refl) free_parts.1;
      parts = λ f.
          before.parts f
          ∙ ap (λ t. t && list_all (λ (x : Stage). list_all f (tests_of x)) later) (both f)
          ∙ and_assoc (list_all f (tests_of s)) (list_all f others) (list_all (λ (x : Stage). list_all f (tests_of x)) later)
          ∙ and_swap (list_all f (tests_of s)) (list_all f others) (list_all (λ (x : Stage). list_all f (tests_of x)) later);
    }

pub pushed_first : (stages after : List Stage) (s : Stage) → after ≡ stages ++ s ∷ [] → reverse after ≡ s ∷ reverse stages
pushed_first stages after s is = ap reverse is ∙ reverse-append stages (s ∷ [])

pub from_place : (params : List Param) (place : ℕ) (p : Param) → 0 < place → place ≤ length params → p ≡ get_or params (place - 1) p
    → drop (place - 1) params ≡ p ∷ drop place params
from_place params place p some within is =
    let before : suc (place - 1) ≡ place = omega (arith, some) in
    drop-cons params (place - 1) p (omega (arith, some, within)) ∙ ap (λ q. q ∷ drop (suc (place - 1)) params) (sym is)
    ∙ ap (λ k. p ∷ drop k params) before

-- the stages of one parameter more
pub next_made : (w : World) (cs : List Condition) (params : List Param) (place : ℕ) (p : Param) (s : Stage) (first others : List Condition)
    (stages after : List Stage) → 0 < place → place ≤ length params → p ≡ get_or params (place - 1) p → after ≡ stages ++ s ∷ []
    → s.param.now ≡ p → HasRange w s → tests_of s ≡ filter (names_variable p.name) first → others ≡ filter (λ c. not (names_variable p.name c)) first
    → AreStages w (drop place params) cs first (reverse stages) → AreStages w (drop (place - 1) params) cs others (reverse after)
next_made w cs params place p s first others stages after some within is put same range naming rest before =
    subst (AreStages w (drop (place - 1) params) cs others) (sym (pushed_first stages after s put))
    (subst (λ l. AreStages w l cs others (s ∷ reverse stages)) (sym (from_place params place p some within is))
    (made_more w cs p (drop place params) s first others (reverse stages) same range naming rest before))

-- ---- what is left of the precondition

closed : (task : Task) (a : Action) (b : Binding) → may_hold task b a.condition ≡ false → is_kept_under task a b ≡ false
closed task a b fails = ap (λ t. t && are_valued (world task) a.effect b) fails

pub open_at_end : (task : Task) (c : Condition) (stages : List Stage) (b : Binding) → length stages ≡ 0 → IsLeft task c stages b → may_hold task b c ≡ true
open_at_end task c [] b none left = left.left b (Contains-first b [])
open_at_end task c (s ∷ stages) b none left = absurd (omega (arith, none))

pub way_at_end : (task : Task) (stages : List Stage) (b : Binding) → length stages ≡ 0 → b ∷ [] ≡ bindings (world task) (params_of stages) b
way_at_end task [] b none = refl
way_at_end task (s ∷ stages) b none = absurd (omega (arith, none))

module _ (task : Task) (a : Action) (s : Stage) (later : List Stage) (b b1 : Binding) (i : ℕ) (within : i < length s.objects)
    (is : (s.param.now.name, object_at (table_of task) (get_or s.objects i 0)) ∷ b ≡ b1) (before : IsLeft task a.condition (s ∷ later) b) where
  below : (b' : Binding) → Contains (bindings (world task) (params_of later) b1) b' → Contains (bindings (world task) (params_of (s ∷ later)) b) b'
  below b' inside =
      subst (λ l. Contains l b')
      (all_ways task (params_of (s ∷ later)) s.param.now b s.objects (λ none. absurd (omega (arith, none))) refl
      (All-head (HasRange (table_of task)) s later before.ranges).are)
      (contains_part (ways_with (table_of task) (world task) (params_of later) s.param.now b) s.objects i 0 b' within
      (subst (λ x. Contains (bindings (world task) (params_of later) x) b') (sym is) inside))

  settled : (list_all (names_none (params_of later)) (tests_of s) ≡ true) × (are_settled later ≡ true)
  settled = and_parts (list_all (names_none (params_of later)) (tests_of s)) (are_settled later) before.settled

  -- further bindings don't change the tests of the stage
  module _ (may : Bool) (says : may_all_hold task b1 (tests_of s) ≡ may) (b' : Binding) (inside : Contains (bindings (world task) (params_of later) b1) b') where
    left_there : may_hold task b' a.condition ≡ (may && may_pass task later b')
    left_there =
        before.left b' (below b' inside)
        ∙ ap (λ t. t && may_pass task later b') (all_same_below task (tests_of s) (params_of later) b1 b' settled.0 inside ∙ says)

  pub still_left : may_all_hold task b1 (tests_of s) ≡ true → IsLeft task a.condition later b1
  still_left may = record {
    ranges = All-tail (HasRange (table_of task)) s later before.ranges;
    settled = settled.1;
    left = λ b' inside. left_there true may b' inside;
  }

  pub none_left : may_all_hold task b1 (tests_of s) ≡ false → filter (is_kept_under task a) (bindings (world task) (params_of later) b1) ≡ []
  none_left fails =
      filter_none (is_kept_under task a) (bindings (world task) (params_of later) b1)
      (λ b' inside. closed task a b' (left_there false fails b' inside))

-- before any parameter is bound
module _ (task : Task) (a : Action) (first : List Condition) (stages : List Stage)
    (made : AreStages (table_of task) a.params (conjuncts_of a.condition) first stages) where
  module _ (may : Bool) (says : may_all_hold task [] first ≡ may) (b' : Binding) (inside : Contains (bindings (world task) a.params []) b') where
    all_there : may_hold task b' a.condition ≡ (may && may_pass task stages b')
    all_there =
        each_may_hold task b' a.condition ∙ made.parts (may_hold task b')
        ∙ ap (λ t. t && may_pass task stages b') (all_same_below task first a.params [] b' made.free inside ∙ says)

  pub first_left : may_all_hold task [] first ≡ true → IsLeft task a.condition stages []
  first_left may = record {
    ranges = made.ranges;
    settled = made.settled;
    left = λ b' inside. all_there true may b' (subst (λ l. Contains (bindings (world task) l []) b') made.params inside);
  }

  pub first_none : may_all_hold task [] first ≡ false → filter (is_kept_under task a) (bindings (world task) a.params []) ≡ []
  first_none fails =
      filter_none (is_kept_under task a) (bindings (world task) a.params []) (λ b' inside. closed task a b' (all_there false fails b' inside))
