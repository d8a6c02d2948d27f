-- Quantified atoms that are put under more variables.
use Rattle.std.proofs.Common.{◌≡◌, ℕ, zero, suc, ◌+◌, ◌-◌, ◌<◌, ◌≤◌, Bool, true, false, not, ◌&&◌, ◌||◌, cond, List, [], ◌∷◌, ◌++◌, length, take, drop, drop-cons, reverse, get_or, refl, sym, ap, ◌∙◌, arith}
use Rattle.std.specs.Prelude.{flat_map}
use Rattle.std.specs.List.{list_all, list_any}
use Rattle.std.specs.Borrow.{Bor}
use Rattle.std.proofs.lemmas.List.{reverse-append, reverse-reverse, append-nil, map-append, drop_all}
use Rattle.std.proofs.lemmas.List.Folds.{list_all-append, list_any-append, list_all_more}
use Rattle.type_table.proofs.Lists.{by_test}
use Rattle.ppddl_model.specs.declared.tree.Atom.{Atom}
use Rattle.ppddl_model.specs.declared.tree.Param.{Param}
use Rattle.ppddl_model.specs.State.{GroundAtom}
use Rattle.ppddl_model.specs.declared.tree.Task.{Task}
use Rattle.ppddl_model.specs.Objects.{World, Binding, objects_of, bindings}
use Rattle.ppddl_model.specs.Steps.{world}
use Rattle.ground_terms.specs.sizes.Counted.{counted}
use Rattle.ground_terms.proofs.lemmas.sizes.CostSteps.{bindings-valued}
use Rattle.task_instances.specs.facts.Facts.{table_of}
use Rattle.task_instances.specs.declared.quantified_atoms.quantified_atom.QuantifiedAtom.{QuantifiedAtom}
use Rattle.task_instances.specs.quantified_atoms.Quantified.{passes, all_pass}
use Rattle.task_instances.specs.quantified_atoms.Needed.{hides, is_named, is_needed, params_of}
use Rattle.task_instances.proofs.lemmas.quantified_atoms.Alike.{grounds, opened, unneeded}

-- ---- tests of each of a list

pub all-flat : {X Y : Type 0} (f : Y → Bool) (g : X → List Y) (xs : List X) → list_all f (flat_map g xs) ≡ list_all (λ x. list_all f (g x)) xs
all-flat f g [] = refl
all-flat f g (x ∷ xs) = list_all-append f (g x) (flat_map g xs) ∙ ap (λ b. list_all f (g x) && b) (all-flat f g xs)

pub all_same : {X : Type 0} (f g : X → Bool) → ((x : X) → f x ≡ g x) → (xs : List X) → list_all f xs ≡ list_all g xs
all_same f g same [] = refl
all_same f g same (x ∷ xs) = λ i. same x i && all_same f g same xs i

all_true : {X : Type 0} (xs : List X) → list_all (λ (x : X). true) xs ≡ true
all_true [] = refl
all_true (x ∷ xs) = all_true xs

pub all_const : {X : Type 0} (c : Bool) (xs : List X) → (length xs ≡ 0 → ⊥) → list_all (λ (x : X). c) xs ≡ c
all_const true xs some = all_true xs
all_const false [] some = absurd (some refl)
all_const false (x ∷ xs) some = refl

and_swap : (a b c d : Bool) → ((a && b) && (c && d)) ≡ ((a && c) && (b && d))
and_swap true true c d = refl
and_swap true false true d = refl
and_swap true false false d = refl
and_swap false b c d = refl

pub all_both : {X : Type 0} (f g : X → Bool) (xs : List X) → list_all (λ x. f x && g x) xs ≡ (list_all f xs && list_all g xs)
all_both f g [] = refl
all_both f g (x ∷ xs) = ap (λ t. (f x && g x) && t) (all_both f g xs) ∙ and_swap (f x) (g x) (list_all f xs) (list_all g xs)

or_swap : (a b : Bool) → (b || (a || false)) ≡ (a || b)
or_swap true true = refl
or_swap true false = refl
or_swap false true = refl
or_swap false false = refl

any_reverse : {X : Type 0} (f : X → Bool) (xs : List X) → list_any f (reverse xs) ≡ list_any f xs
any_reverse f [] = refl
any_reverse f (x ∷ xs) =
    ap (list_any f) (reverse-append (x ∷ []) xs) ∙ list_any-append f (reverse xs) (x ∷ [])
    ∙ ap (λ t. t || (f x || false)) (any_reverse f xs) ∙ or_swap (f x) (list_any f xs)

-- ---- variables that have objects

flat_none : {X Y : Type 0} (f : X → List Y) (xs : List X) → ((x : X) → f x ≡ []) → flat_map f xs ≡ []
flat_none f [] none = refl
flat_none f (x ∷ xs) none = ap (λ l. l ++ flat_map f xs) (none x) ∙ flat_none f xs none

empty : {X : Type 0} (xs : List X) → length xs ≡ 0 → xs ≡ []
empty [] none = refl
empty (x ∷ xs) none = absurd (omega (arith, none))

none_there : (w : World) (ps : List Param) (i : ℕ) (d : Param) (b : Binding) → i < length ps → length (objects_of w (get_or ps i d)) ≡ 0 → bindings w ps b ≡ []
none_there w [] i d b within none = absurd (omega arith)
none_there w (p ∷ ps) zero d b within none = ap (flat_map (λ o. bindings w ps ((p.name, o) ∷ b))) (empty (objects_of w p) none)
none_there w (p ∷ ps) (suc i) d b within none =
    flat_none (λ o. bindings w ps ((p.name, o) ∷ b)) (objects_of w p) (λ o. none_there w ps i d ((p.name, o) ∷ b) (omega arith) none)

pub some_objects : (w : World) (ps : List Param) (i : ℕ) (d : Param) (b : Binding) → 0 < length (bindings w ps b) → i < length ps
    → length (objects_of w (get_or ps i d)) ≡ 0 → ⊥
some_objects w ps i d b some within none =
    let count : length (bindings w ps b) ≡ 0 = ap length (none_there w ps i d b within none) in
    omega (arith, some, count)

-- ---- one variable more

from_place : (params : List Param) (place : ℕ) (p : Param) → 0 < place → place ≤ length params → p ≡ get_or params (place - 1) p
    → drop (place - 1) params ≡ p ∷ drop place params
from_place params place p some within is =
    let before : suc (place - 1) ≡ place = omega (arith, some) in
    drop-cons params (place - 1) p (omega (arith, some, within)) ∙ ap (λ q. q ∷ drop (suc (place - 1)) params) (sym is)
    ∙ ap (λ k. p ∷ drop k params) before

module _ (w : World) (a : Atom) (f : GroundAtom → Bool) where
  abbrev pub pass : List Param → Binding → Bool
  pass ps b = list_all f (grounds w a ps b)

  -- a variable that is needed is put before the others, and any other is left out
  one_more : (p : Param) (named : List Param) (b : Binding) → (length (objects_of w p) ≡ 0 → ⊥)
      → pass (reverse (named ++ cond (is_needed a named p.name) (p ∷ []) [])) b
      ≡ list_all (λ o. pass (reverse named) ((p.name, o) ∷ b)) (objects_of w p)
  one_more p named b some = by_test (is_needed a named p.name)
      (λ e. ap (λ t. pass (reverse (named ++ cond t (p ∷ []) [])) b) e
      ∙ ap (λ l. pass l b) (reverse-append named (p ∷ []))
      ∙ ap (list_all f) (opened w a p (reverse named) b)
      ∙ all-flat f (λ o. grounds w a (reverse named) ((p.name, o) ∷ b)) (objects_of w p))
      (λ e. ap (λ t. pass (reverse (named ++ cond t (p ∷ []) [])) b) e
      ∙ ap (λ l. pass (reverse l) b) (append-nil named)
      ∙ sym (all_const (pass (reverse named) b) (objects_of w p) some)
      ∙ sym (all_same (λ o. pass (reverse named) ((p.name, o) ∷ b)) (λ o. pass (reverse named) b)
      (λ o. ap (list_all f) (unneeded w a p.name o (reverse named) b
      (ap (λ t. is_named' && not t) (any_reverse (hides p.name) named) ∙ e))) (objects_of w p)))
    where
      is_named' : Bool
      is_named' = is_named p.name a

  pub next_under : (vs : List Param) (place : ℕ) (p : Param) (named after : List Param) (inner : Binding → Bool)
      → 0 < place → place ≤ length vs → p ≡ get_or vs (place - 1) p → (length (objects_of w p) ≡ 0 → ⊥)
      → after ≡ named ++ cond (is_needed a named p.name) (p ∷ []) []
      → ((b : Binding) → pass (reverse named) b ≡ list_all inner (bindings w (drop place vs) b))
      → (b : Binding) → pass (reverse after) b ≡ list_all inner (bindings w (drop (place - 1) vs) b)
  next_under vs place p named after inner some within is objects put before b =
      ap (λ l. pass (reverse l) b) put
      ∙ one_more p named b objects
      ∙ all_same (λ o. pass (reverse named) ((p.name, o) ∷ b)) (λ o. list_all inner (bindings w (drop place vs) ((p.name, o) ∷ b)))
      (λ o. before ((p.name, o) ∷ b)) (objects_of w p)
      ∙ sym (all-flat inner (λ o. bindings w (drop place vs) ((p.name, o) ∷ b)) (objects_of w p))
      ∙ ap (λ l. list_all inner (bindings w l b)) (sym (from_place vs place p some within is))

-- ---- one quantified atom after another

and_pair : (a b c : Bool) → ((a && b) && (c && true)) ≡ (a && (b && c))
and_pair true true true = refl
and_pair true true false = refl
and_pair true false c = refl
and_pair false b c = refl

module _ (w : World) (f : GroundAtom → Bool) where
  pub no_more : (qs : List QuantifiedAtom) (bs : List Binding) (b : Binding) → all_pass w f qs b ≡ (all_pass w f qs b && list_all (all_pass w f []) bs)
  no_more qs bs b = sym (ap (λ t. all_pass w f qs b && t) (all_true bs) ∙ and_true (all_pass w f qs b))
    where
      and_true : (a : Bool) → (a && true) ≡ a
      and_true true = refl
      and_true false = refl

  pub one_under : (inner : List QuantifiedAtom) (i : ℕ) (q outer : QuantifiedAtom) (old mid new : List QuantifiedAtom) (bs : List Binding) (b : Binding)
      → i < length inner → q ≡ get_or inner i q → new ≡ mid ++ outer ∷ [] → passes w f outer b ≡ list_all (passes w f q) bs
      → all_pass w f mid b ≡ (all_pass w f old b && list_all (all_pass w f (take i inner)) bs)
      → all_pass w f new b ≡ (all_pass w f old b && list_all (all_pass w f (take (i + 1) inner)) bs)
  one_under inner i q outer old mid new bs b within is put here before =
      ap (λ l. all_pass w f l b) put
      ∙ list_all-append (λ (x : QuantifiedAtom). passes w f x b) mid (outer ∷ [])
      ∙ (λ j. before j && (here j && true))
      ∙ and_pair (all_pass w f old b) (list_all (all_pass w f (take i inner)) bs) (list_all (passes w f q) bs)
      ∙ ap (λ t. all_pass w f old b && t)
      (sym (all_both (all_pass w f (take i inner)) (passes w f q) bs)
      ∙ all_same (λ x. all_pass w f (take i inner) x && passes w f q x) (all_pass w f (take (i + 1) inner))
      (λ x. sym (list_all_more (λ (y : QuantifiedAtom). passes w f y x) inner i q within
      ∙ ap (λ (y : QuantifiedAtom). all_pass w f (take i inner) x && passes w f y x) (sym is))) bs)

-- ---- the variables of a quantified atom, which are turned round while more are put behind them

pub reverse_params : (xs : List (Bor Param)) → reverse (params_of (reverse xs)) ≡ params_of xs
reverse_params [] = refl
reverse_params (x ∷ xs) =
    ap (λ l. reverse (params_of l)) (reverse-append (x ∷ []) xs)
    ∙ ap reverse (map-append (λ (r : Bor Param). r.now) (reverse xs) (x ∷ []))
    ∙ reverse-append (params_of (reverse xs)) (x.now ∷ [])
    ∙ ap (λ l. x.now ∷ l) (reverse_params xs)

pub params_reversed : (xs : List (Bor Param)) → params_of (reverse xs) ≡ reverse (params_of xs)
params_reversed xs = sym (reverse-reverse (params_of (reverse xs))) ∙ ap reverse (reverse_params xs)

pub under_none : (w : World) (f : GroundAtom → Bool) (q : QuantifiedAtom) (vs : List Param) (named turned : List (Bor Param)) (b : Binding)
    → turned ≡ reverse named → named ≡ q.variables.items
    → pass w q.atom.now f (reverse (params_of turned)) b ≡ list_all (passes w f q) (bindings w (drop (length vs) vs) b)
under_none w f q vs named turned b is own =
    ap (λ l. pass w q.atom.now f (reverse (params_of l)) b) (is ∙ ap reverse own)
    ∙ ap (λ l. pass w q.atom.now f l b) (reverse_params q.variables.items)
    ∙ alone (passes w f q b)
    ∙ ap (λ l. list_all (passes w f q) (bindings w l b)) (sym (drop_all (length vs) vs (omega arith)))
  where
    alone : (a : Bool) → a ≡ (a && true)
    alone true = refl
    alone false = refl

-- ---- where ways are counted, there are some

by_length : {X : Type 0} (xs : List X) → (length xs ≡ 0 → ⊥) → 0 < length xs
by_length [] some = absurd (some refl)
by_length (x ∷ xs) some = omega arith

pub some_ways : (task : Task) (ps : List Param) (n : ℕ) → n ≡ counted (length (bindings (table_of task) ps [])) → (n ≡ 0 → ⊥)
    → 0 < length (bindings (world task) ps [])
some_ways task ps n is some = by_length (bindings (world task) ps [])
    (λ none. let same : length (bindings (table_of task) ps []) ≡ 0 = ap length (sym (bindings-valued (table_of task) task.problem.values ps [])) ∙ none in
    some (omega (arith, is, same)))
