-- The literals of the kept instances of an action: those that name no parameter are the same in each.
use Rattle.std.proofs.Common.{◌≡◌, ℕ, Bool, true, false, ◌&&◌, cond, List, [], ◌∷◌, ◌++◌, ◌-◌, map, length, take, drop, refl, sym, ap, subst, ◌∙◌, arith}
use Rattle.std.specs.Prelude.{flat_map, All}
use Rattle.std.specs.List.{list_all}
use Rattle.std.proofs.lemmas.Bool.{and_parts}
use Rattle.std.proofs.lemmas.List.Elements.{All-tail}
use Rattle.std.proofs.lemmas.List.Folds.{list_all-append}
use Rattle.plain_list.specs.Texts.{list_text}
use Rattle.ppddl_model.specs.declared.tree.Action.{Action}
use Rattle.ppddl_model.specs.declared.tree.Param.{Param}
use Rattle.ppddl_model.specs.declared.tree.Task.{Task}
use Rattle.ppddl_model.specs.State.{GroundAtom}
use Rattle.ppddl_model.specs.Objects.{World, Binding}
use Rattle.ppddl_model.specs.Steps.{world}
use Rattle.ppddl_model.specs.Changing.{literals}
use Rattle.type_table.proofs.Lists.{by_test}
use Rattle.task_instances.specs.facts.Facts.{table_of}
use Rattle.task_instances.specs.declared.quantified_atoms.quantified_atom.QuantifiedAtom.{QuantifiedAtom}
use Rattle.task_instances.specs.declared.quantified_atoms.atom_kind.AtomKind.TheVariants.{Literal}
use Rattle.task_instances.specs.quantified_atoms.Quantified.{variables_of, is_settled, instances_of, passes, HasAtoms}
use Rattle.task_instances.proofs.lemmas.quantified_atoms.Alike.{settled_alike}
use Rattle.task_instances.proofs.lemmas.quantified_atoms.MoreVariables.{all-flat, all_same, all_both, all_const}
use Rattle.task_instances.specs.kept_rows.Rows.{Table}
use Rattle.task_instances.specs.kept_rows.Kept.{bound_to, binding_of_row, AreKept}
use Rattle.grounder.specs.texts.Laws.{SameTextsPutIn}
use Rattle.grounder.specs.texts.Texts.{with_texts, literal_texts, first_texts, under_texts}
use Rattle.grounder.proofs.lemmas.texts.Adding.{texts-append}
use Rattle.grounder.specs.changing_atoms.Atoms.{action_texts, row_texts}
use Rattle.grounder.proofs.lemmas.changing_atoms.Gathering.{by_rows, tail_is}

all-map : {X Y : Type 0} (f : Y → Bool) (g : X → Y) (xs : List X) → list_all f (map g xs) ≡ list_all (λ x. f (g x)) xs
all-map f g [] = refl
all-map f g (x ∷ xs) = ap (λ b. f (g x) && b) (all-map f g xs)

-- atoms that name no parameter give no texts in a row
pub settled_row : (task : Task) (a : Action) (qs : List QuantifiedAtom) (row : List ℕ) → list_all is_settled qs ≡ true → row_texts task a qs row ≡ []
settled_row task a [] row all = refl
settled_row task a (q ∷ qs) row all =
    let parts = and_parts (is_settled q) (list_all is_settled qs) all in
    let texts = map list_text (instances_of (world task) q (binding_of_row (table_of task) a.params row)) in
    ap (λ t. cond t [] texts ++ row_texts task a qs row) parts.0 ∙ settled_row task a qs row parts.1

pub settled_rows : (task : Task) (a : Action) (qs : List QuantifiedAtom) (rows : List (List ℕ)) → list_all is_settled qs ≡ true → flat_map (row_texts task a qs) rows ≡ []
settled_rows task a qs [] all = refl
settled_rows task a qs (row ∷ rows) all =
    ap (λ l. l ++ flat_map (row_texts task a qs) rows) (settled_row task a qs row all) ∙ settled_rows task a qs rows all

module _ (w : World) (g : List ℕ → Bool) where
  abbrev on_atoms : GroundAtom → Bool
  on_atoms a = g (list_text a)

  abbrev first_pass : QuantifiedAtom → Bool
  first_pass q = list_all g (first_texts w q)

  abbrev under_pass : Binding → QuantifiedAtom → Bool
  under_pass b q = list_all g (under_texts w b q)

  both_pass : (b : Binding) (q : QuantifiedAtom) → (first_pass q && under_pass b q) ≡ passes w on_atoms q b
  both_pass b q = by_test (is_settled q)
      (λ e. ap (λ t. list_all g (cond t (texts []) []) && list_all g (cond t [] (texts b))) e ∙ ends (list_all g (texts []))
      ∙ all-map g list_text (instances_of w q [])
      ∙ ap (list_all on_atoms) (settled_alike w q.atom.now (variables_of q) [] b e))
      (λ e. ap (λ t. list_all g (cond t (texts []) []) && list_all g (cond t [] (texts b))) e ∙ all-map g list_text (instances_of w q b))
    where
      texts : Binding → List (List ℕ)
      texts b = map list_text (instances_of w q b)

      ends : (a : Bool) → (a && true) ≡ a
      ends true = refl
      ends false = refl

module _ (task : Task) (a : Action) (t : Table) (kept : AreKept task a t) where
  abbrev row_binding : List ℕ → Binding
  row_binding = binding_of_row (table_of task) a.params

  pub no_rows : length t.rows ≡ 0 → action_texts task a ≡ []
  no_rows none = sym (by_rows task a t kept) ∙ nothing t.rows none
    where
      nothing : (rows : List (List ℕ)) → length rows ≡ 0 → flat_map (λ row. literal_texts (world task) (row_binding row) a.effect) rows ≡ []
      nothing [] none = refl
      nothing (row ∷ rows) none = absurd (omega (arith, none))

  module _ (qs : List QuantifiedAtom) (has : HasAtoms (world task) Literal a.effect qs) (some : length t.rows ≡ 0 → ⊥) where
    abbrev once : List (List ℕ)
    once = flat_map (first_texts (world task)) qs

    abbrev each : List (List ℕ)
    each = flat_map (row_texts task a qs) t.rows

    -- in one row
    row_pass : (g : List ℕ → Bool) (row : List ℕ)
        → (list_all (first_pass (world task) g) qs && list_all g (row_texts task a qs row))
        ≡ list_all g (literal_texts (world task) (row_binding row) a.effect)
    row_pass g row =
        let w = world task in
        let b = row_binding row in
        ap (λ x. list_all (first_pass w g) qs && x) (all-flat g (under_texts w b) qs)
        ∙ sym (all_both (first_pass w g) (under_pass w g b) qs)
        ∙ all_same (λ q. first_pass w g q && under_pass w g b q) (λ (q : QuantifiedAtom). passes w (on_atoms w g) q b) (λ q. both_pass w g b q) qs
        ∙ has (on_atoms w g) b
        ∙ sym (all-map g list_text (literals w a.effect b))

    same_pass : (g : List ℕ → Bool) → list_all g (once ++ each) ≡ list_all g (action_texts task a)
    same_pass g =
        let w = world task in
        let first : Bool = list_all (first_pass w g) qs in
        list_all-append g once each
        ∙ (λ i. all-flat g (first_texts w) qs i && all-flat g (row_texts task a qs) t.rows i)
        ∙ ap (λ x. x && list_all (λ row. list_all g (row_texts task a qs row)) t.rows) (sym (all_const first t.rows some))
        ∙ sym (all_both (λ row. first) (λ row. list_all g (row_texts task a qs row)) t.rows)
        ∙ all_same (λ row. first && list_all g (row_texts task a qs row)) (λ row. list_all g (literal_texts w (row_binding row) a.effect))
        (λ row. row_pass g row) t.rows
        ∙ sym (all-flat g (λ row. literal_texts w (row_binding row) a.effect) t.rows)
        ∙ ap (list_all g) (by_rows task a t kept)

    pub all_rows : SameTextsPutIn → (texts : List (List ℕ))
        → with_texts (with_texts texts once) each ≡ with_texts texts (action_texts task a)
    all_rows alike texts = sym (texts-append texts once each) ∙ alike texts (once ++ each) (action_texts task a) (λ g. same_pass g)

-- ---- a row of objects, bound one by one

pub bound_none : (w : World) (params : List Param) (row : List ℕ) (b : Binding) → length params ≡ 0 → bound_to w params row b ≡ b
bound_none w [] row b none = refl
bound_none w (p ∷ params) row b none = absurd (omega (arith, none))

pub one_less : {X : Type 0} (xs : List X) → length (take (length xs - 1) (drop 1 xs)) ≡ length xs - 1
one_less [] = refl
one_less (x ∷ xs) = let same = ap length (tail_is (x ∷ xs)) in omega (arith, same)

pub all_behind : (P : ℕ → Type 0) (row : List ℕ) → All P row → All P (take (length row - 1) (drop 1 row))
all_behind P [] all = all
all_behind P (o ∷ row) all = subst (All P) (sym (tail_is (o ∷ row))) (All-tail P o row all)
