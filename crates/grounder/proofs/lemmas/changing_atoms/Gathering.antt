-- The changing atoms of a task are gathered action by action.
use Rattle.std.proofs.Common.{◌≡◌, ℕ, zero, suc, ◌+◌, ◌-◌, ◌<◌, ◌≤◌, Bool, true, false, List, [], ◌∷◌, ◌++◌, map, filter, length, take, drop, get_or, add-one, refl, sym, ap, subst, ◌∙◌, arith}
use Rattle.std.specs.Prelude.{flat_map}
use Rattle.std.specs.List.{AllZip}
use Rattle.std.proofs.lemmas.List.{map-append}
use Rattle.std.proofs.lemmas.Grind.{flat_map-append}
use Rattle.plain_list.specs.Texts.{list_text}
use Rattle.ppddl_model.specs.declared.tree.Action.{Action}
use Rattle.ppddl_model.specs.declared.tree.InitItem.{InitItem}
use Rattle.ppddl_model.specs.declared.tree.Task.{Task}
use Rattle.ppddl_model.specs.State.{GroundAtom}
use Rattle.ppddl_model.specs.Objects.{Binding, bindings}
use Rattle.ppddl_model.specs.Steps.{Instance, world}
use Rattle.ppddl_model.specs.Changing.{is_kept, kept_instances, literals, changing_atoms, chance_atoms, fact_atoms, facts}
use Rattle.type_table.proofs.Lists.{by_test, zip_push}
use Rattle.task_instances.specs.facts.Facts.{table_of}
use Rattle.task_instances.specs.kept_rows.Rows.{Table}
use Rattle.task_instances.specs.kept_rows.Kept.{binding_of_row, AreKept}
use Rattle.grounder.specs.texts.Texts.{with_texts, literal_texts, chance_texts, fact_texts}
use Rattle.grounder.specs.texts.Wanted.{Wanted, none_wanted, with_more, IsPut}
use Rattle.grounder.proofs.lemmas.texts.Adding.{texts-append}
use Rattle.grounder.proofs.lemmas.texts.Sorting.{texts_in_order}
use Rattle.grounder.proofs.lemmas.texts.Wanting.{with_longer, all_put_in, full_of}
use Rattle.ground_meaning.specs.refusals.Atoms.{texts_of}
use Rattle.grounder.specs.changing_atoms.Atoms.{kept_of, action_texts}

filter-append : {X : Type 0} (p : X → Bool) (xs ys : List X) → filter p (xs ++ ys) ≡ filter p xs ++ filter p ys
filter-append p [] ys = refl
filter-append p (x ∷ xs) ys = by_test (p x)
    (λ e. rw e (ap (λ l. x ∷ l) (filter-append p xs ys)))
    (λ e. rw e (filter-append p xs ys))

filter-map : {X Y : Type 0} (p : Y → Bool) (g : X → Y) (xs : List X) → filter p (map g xs) ≡ map g (filter (λ x. p (g x)) xs)
filter-map p g [] = refl
filter-map p g (x ∷ xs) = by_test (p (g x))
    (λ e. rw e (ap (λ l. g x ∷ l) (filter-map p g xs)))
    (λ e. rw e (filter-map p g xs))

filter-flat : {X Y : Type 0} (p : Y → Bool) (f : X → List Y) (xs : List X) → filter p (flat_map f xs) ≡ flat_map (λ x. filter p (f x)) xs
filter-flat p f [] = refl
filter-flat p f (x ∷ xs) = filter-append p (f x) (flat_map f xs) ∙ ap (λ l. filter p (f x) ++ l) (filter-flat p f xs)

flat_same : {X Y : Type 0} (f g : X → List Y) → ((x : X) → f x ≡ g x) → (xs : List X) → flat_map f xs ≡ flat_map g xs
flat_same f g each [] = refl
flat_same f g each (x ∷ xs) = λ i. each x i ++ flat_same f g each xs i

flat-flat : {X Y Z : Type 0} (f : Y → List Z) (g : X → List Y) (xs : List X) → flat_map f (flat_map g xs) ≡ flat_map (λ x. flat_map f (g x)) xs
flat-flat f g [] = refl
flat-flat f g (x ∷ xs) = flat_map-append f (g x) (flat_map g xs) ∙ ap (λ l. flat_map f (g x) ++ l) (flat-flat f g xs)

flat-map : {X Y Z : Type 0} (g : Y → List Z) (f : X → Y) (xs : List X) → flat_map g (map f xs) ≡ flat_map (λ x. g (f x)) xs
flat-map g f [] = refl
flat-map g f (x ∷ xs) = ap (λ l. g (f x) ++ l) (flat-map g f xs)

map-flat : {X Y Z : Type 0} (g : Y → Z) (f : X → List Y) (xs : List X) → map g (flat_map f xs) ≡ flat_map (λ x. map g (f x)) xs
map-flat g f [] = refl
map-flat g f (x ∷ xs) = map-append g (f x) (flat_map f xs) ∙ ap (λ l. map g (f x) ++ l) (map-flat g f xs)

module _ (task : Task) where
  abbrev instance_of : Action → Binding → Instance
  instance_of a b = record { action = a; binding = b }

  abbrev kept_instances_of : Action → List Instance
  kept_instances_of a = map (instance_of a) (kept_of task a)

  pub kept_by_action : kept_instances task ≡ flat_map kept_instances_of task.domain.actions
  kept_by_action =
      filter-flat (is_kept task) (λ (a : Action). map (instance_of a) (bindings (world task) a.params [])) task.domain.actions
      ∙ flat_same (λ (a : Action). filter (is_kept task) (map (instance_of a) (bindings (world task) a.params []))) kept_instances_of
      (λ a. filter-map (is_kept task) (instance_of a) (bindings (world task) a.params [])) task.domain.actions

  abbrev instance_literals : Instance → List GroundAtom
  instance_literals i = literals (world task) i.action.effect i.binding

  abbrev instance_texts : Instance → List (List ℕ)
  instance_texts i = map list_text (instance_literals i)

  literals_by_action : map list_text (flat_map instance_literals (kept_instances task)) ≡ flat_map (action_texts task) task.domain.actions
  literals_by_action =
      map-flat list_text instance_literals (kept_instances task)
      ∙ ap (flat_map instance_texts) kept_by_action
      ∙ flat-flat instance_texts kept_instances_of task.domain.actions
      ∙ flat_same (λ a. flat_map instance_texts (kept_instances_of a)) (action_texts task)
      (λ a. flat-map instance_texts (instance_of a) (kept_of task a)) task.domain.actions

  pub gathered : (texts last : List (List ℕ)) → texts ≡ with_texts [] (flat_map (action_texts task) task.domain.actions)
      → last ≡ with_texts texts (flat_map chance_texts task.problem.init) → last ≡ texts_of (changing_atoms task)
  gathered texts last first second =
      let atoms : List GroundAtom = flat_map instance_literals (kept_instances task) in
      let chances : List GroundAtom = flat_map chance_atoms task.problem.init in
      second
      ∙ ap (λ l. with_texts l (flat_map chance_texts task.problem.init)) first
      ∙ sym (texts-append [] (flat_map (action_texts task) task.domain.actions) (flat_map chance_texts task.problem.init))
      ∙ (λ i. with_texts [] (sym literals_by_action i ++ sym (map-flat list_text chance_atoms task.problem.init) i))
      ∙ ap (with_texts []) (sym (map-append list_text atoms chances))
      ∙ texts_in_order (changing_atoms task)

  module _ (most : ℕ) (actions : List Action) (are : actions ≡ task.domain.actions) (begun mid : Wanted) (first : Bool) (none : begun ≡ none_wanted most) where
    abbrev of_actions : List (List ℕ)
    of_actions = flat_map (action_texts task) actions

    abbrev of_items : List InitItem → List (List ℕ)
    of_items items = flat_map chance_texts items

    all_of : (items : List InitItem) → items ≡ task.problem.init → with_texts (with_texts [] of_actions) (of_items items) ≡ texts_of (changing_atoms task)
    all_of items same =
        gathered (with_texts [] of_actions) (with_texts (with_texts [] of_actions) (of_items items))
        (ap (λ l. with_texts [] (flat_map (action_texts task) l)) are) (ap (λ l. with_texts (with_texts [] of_actions) (of_items l)) same)

    -- there are more atoms than are wanted, by the literals alone
    pub over_first : first ≡ false → IsPut begun of_actions first mid → most < length (texts_of (changing_atoms task))
    over_first over put_in =
        let full : most < length (with_texts [] of_actions)
        = full_of (none_wanted most) of_actions first mid over (subst (λ s. IsPut s of_actions first mid) none put_in) in
        let more = with_longer (with_texts [] of_actions) (of_items task.problem.init) in
        let all = ap length (all_of task.problem.init refl) in
        omega (arith, full, more, all)

    module _ (items : List InitItem) (same : items ≡ task.problem.init) (last : Wanted) (second : Bool) (all_first : first ≡ true) (put_in : IsPut begun of_actions first mid)
        (then_put : IsPut mid (of_items items) second last) where
      mid_is : mid ≡ with_more (none_wanted most) of_actions
      mid_is = all_put_in begun of_actions first mid all_first put_in ∙ ap (λ s. with_more s of_actions) none

      -- with those that are drawn
      pub over_last : second ≡ false → most < length (texts_of (changing_atoms task))
      over_last over =
          let full : most < length (with_texts (with_texts [] of_actions) (of_items items))
          = full_of (with_more (none_wanted most) of_actions) (of_items items) second last over
          (subst (λ s. IsPut s (of_items items) second last) mid_is then_put) in
          subst (λ l. most < length l) (all_of items same) full

      pub all_listed : second ≡ true → last.texts ≡ texts_of (changing_atoms task)
      all_listed also =
          ap (λ (s : Wanted). s.texts) (all_put_in mid (of_items items) second last also then_put ∙ ap (λ s. with_more s (of_items items)) mid_is) ∙ all_of items same

  pub facts_gathered : (texts : List (List ℕ)) → texts ≡ with_texts [] (flat_map fact_texts task.problem.init) → texts ≡ texts_of (facts task)
  facts_gathered texts is =
      is ∙ ap (with_texts []) (sym (map-flat list_text fact_atoms task.problem.init)) ∙ texts_in_order (facts task)

-- ---- rows

take_all : {X : Type 0} (i : ℕ) (xs : List X) → length xs ≤ i → take i xs ≡ xs
take_all zero [] short = refl
take_all (suc i) [] short = refl
take_all zero (x ∷ xs) short = absurd (omega arith)
take_all (suc i) (x ∷ xs) short = ap (λ l. x ∷ l) (take_all i xs (omega arith))

pub tail_is : {X : Type 0} (xs : List X) → take (length xs - 1) (drop 1 xs) ≡ drop 1 xs
tail_is [] = refl
tail_is (x ∷ xs) = take_all (length (x ∷ xs) - 1) xs (omega arith)

-- the texts of an action by its rows
pub by_rows : (task : Task) (a : Action) (t : Table) → AreKept task a t
    → flat_map (λ row. literal_texts (world task) (binding_of_row (table_of task) a.params row) a.effect) t.rows ≡ action_texts task a
by_rows task a t kept =
    sym (flat-map (λ b. literal_texts (world task) b a.effect) (binding_of_row (table_of task) a.params) t.rows)
    ∙ ap (flat_map (λ b. literal_texts (world task) b a.effect)) kept.bound

pub zip_at : {X Y : Type 0} (R : X → Y → Type 0) (xs : List X) (ys : List Y) (i : ℕ) (d : X) (e : Y) → AllZip R xs ys → i < length xs → R (get_or xs i d) (get_or ys i e)
zip_at R [] ys i d e zip within = absurd (omega arith)
zip_at R (x ∷ xs) [] i d e zip within = absurd zip
zip_at R (x ∷ xs) (y ∷ ys) zero d e zip within = zip.0
zip_at R (x ∷ xs) (y ∷ ys) (suc i) d e zip within = zip_at R xs ys i d e zip.1 (omega arith)

pub zip_long : {X Y : Type 0} (R : X → Y → Type 0) (xs : List X) (ys : List Y) → AllZip R xs ys → length xs ≡ length ys
zip_long R [] [] zip = refl
zip_long R [] (y ∷ ys) zip = absurd zip
zip_long R (x ∷ xs) [] zip = absurd zip
zip_long R (x ∷ xs) (y ∷ ys) zip = ap suc (zip_long R xs ys zip.1)

take_more : {X : Type 0} (xs : List X) (i : ℕ) (d : X) → i < length xs → take (suc i) xs ≡ take i xs ++ get_or xs i d ∷ []
take_more [] i d within = absurd (omega arith)
take_more (x ∷ xs) zero d within = refl
take_more (x ∷ xs) (suc i) d within = ap (λ l. x ∷ l) (take_more xs i d (omega arith))

pub one_more : {X Y : Type 0} (R : X → Y → Type 0) (xs : List X) (ys next : List Y) (i : ℕ) (x : X) (y : Y) → i < length xs → x ≡ get_or xs i x
    → next ≡ ys ++ y ∷ [] → R x y → AllZip R (take i xs) ys → AllZip R (take (i + 1) xs) next
one_more R xs ys next i x y within is step one before =
    let front : take (i + 1) xs ≡ take i xs ++ x ∷ []
    = ap (λ k. take k xs) (add-one i) ∙ take_more xs i x within ∙ ap (λ z. take i xs ++ z ∷ []) (sym is) in
    subst (λ l. AllZip R l next) (sym front)
    (subst (AllZip R (take i xs ++ x ∷ [])) (sym step) (zip_push R (take i xs) ys x y before one))
