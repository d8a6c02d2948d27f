-- Whether function terms have values, variable by variable and term by term.
use Rattle.std.proofs.Common.{◌≡◌, Bool, true, false, not, ◌&&◌, ◌||◌, List, [], ◌∷◌, map, filter, length, drop, get_or, refl, sym, ap, ◌∙◌, arith}
use Rattle.std.specs.Borrow.{Bor}
use Rattle.std.specs.List.{list_all}
use Rattle.ppddl_model.specs.declared.tree.Action.{Action}
use Rattle.ppddl_model.specs.declared.tree.Atom.{Atom}
use Rattle.ppddl_model.specs.declared.tree.Effect.{Effect}
use Rattle.ppddl_model.specs.declared.tree.Param.{Param}
use Rattle.ppddl_model.specs.declared.tree.Task.{Task}
use Rattle.ppddl_model.specs.State.{Name}
use Rattle.ppddl_model.specs.Objects.{World, Binding, objects_of}
use Rattle.ppddl_model.specs.Functions.{has_value, are_valued}
use Rattle.ppddl_model.specs.Steps.{world}
use Rattle.type_table.proofs.Lists.{by_test}
use Rattle.task_instances.specs.declared.quantified_atoms.quantified_atom.QuantifiedAtom.{QuantifiedAtom}
use Rattle.task_instances.specs.quantified_atoms.Needed.{params_of}
use Rattle.task_instances.specs.declared.quantified_atoms.atom_kind.AtomKind.TheVariants.{FunctionTerm}
use Rattle.task_instances.specs.quantified_atoms.Quantified.{variables_of, is_settled, all_pass, HasAtoms}
use Rattle.task_instances.proofs.lemmas.quantified_atoms.Alike.{grounds, opened, settled_alike}
use Rattle.task_instances.proofs.lemmas.quantified_atoms.MoreVariables.{all-flat, all_both, all_same}
use Rattle.task_instances.specs.kept_rows.Kept.{is_kept_under}
use Rattle.task_instances.specs.kept_rows.Stages.{may_hold}
use Rattle.task_instances.specs.kept_rows.Terms.{has_values, is_valued, is_valued_first, is_valued_under}
use Rattle.task_instances.proofs.lemmas.kept_rows.Staging.{filter_none}

pub all-map : {X Y : Type 0} (f : Y → Bool) (g : X → Y) (xs : List X) → list_all (λ x. f (g x)) xs ≡ list_all f (map g xs)
all-map f g [] = refl
all-map f g (x ∷ xs) = ap (λ b. f (g x) && b) (all-map f g xs)

-- ---- variables bound one by one

module _ (w : World) where
  abbrev pub valued_object : Atom → List Param → Param → Binding → Name → Bool
  valued_object a rest p b o = has_values w a rest ((p.name, o) ∷ b)

  pub first_valued : (a : Atom) (ps : List Param) (p : Param) (b : Binding) → (length ps ≡ 0 → ⊥) → p ≡ get_or ps 0 p
      → list_all (valued_object a (drop 1 ps) p b) (objects_of w p) ≡ has_values w a ps b
  first_valued a [] p b some is = absurd (some refl)
  first_valued a (q ∷ ps) p b some is =
      sym (all-flat (has_value w) (λ o. grounds w a ps ((p.name, o) ∷ b)) (objects_of w p))
      ∙ sym (ap (list_all (has_value w)) (opened w a p ps b))
      ∙ ap (λ r. has_values w a (r ∷ ps) b) is

  pub first_valued_of : (a : Atom) (vars : List (Bor Param)) (p : Bor Param) (b : Binding) → (length vars ≡ 0 → ⊥) → p ≡ get_or vars 0 p
      → list_all (valued_object a (params_of (drop 1 vars)) p.now b) (objects_of w p.now) ≡ has_values w a (params_of vars) b
  first_valued_of a [] p b some is = absurd (some refl)
  first_valued_of a (q ∷ vars) p b some is =
      first_valued a (q.now ∷ params_of vars) p.now b (λ none. absurd (omega (arith, none))) (ap (λ (r : Bor Param). r.now) is)

  -- ---- terms that name no parameter, and others

  settled_valued : (q : QuantifiedAtom) (b : Binding) → is_settled q ≡ true → is_valued w q [] ≡ is_valued w q b
  settled_valued q b settled = ap (list_all (has_value w)) (settled_alike w q.atom.now (variables_of q) [] b settled)

  -- a term has its values where it passes at first and later
  both_times : (q : QuantifiedAtom) (b : Binding) → (is_valued_first w q && is_valued_under w b q) ≡ is_valued w q b
  both_times q b = by_test (is_settled q)
      (λ e. ap (λ t. (not t || is_valued w q []) && (t || is_valued w q b)) e ∙ ends (is_valued w q []) ∙ settled_valued q b e)
      (λ e. ap (λ t. (not t || is_valued w q []) && (t || is_valued w q b)) e)
    where
      ends : (a : Bool) → (a && true) ≡ a
      ends true = refl
      ends false = refl

  all_times : (qs : List QuantifiedAtom) (b : Binding)
      → (list_all (is_valued_first w) qs && list_all (is_valued_under w b) qs) ≡ all_pass w (has_value w) qs b
  all_times qs b =
      sym (all_both (is_valued_first w) (is_valued_under w b) qs)
      ∙ all_same (λ q. is_valued_first w q && is_valued_under w b q) (λ (q : QuantifiedAtom). is_valued w q b) (λ q. both_times q b) qs

  module _ (e : Effect) (qs : List QuantifiedAtom) (has : HasAtoms w FunctionTerm e qs) where
    pub first_passed : list_all (is_valued_first w) qs ≡ true → (b : Binding) → list_all (is_valued_under w b) qs ≡ are_valued w e b
    first_passed passed b =
        sym (ap (λ t. t && list_all (is_valued_under w b) qs) passed) ∙ all_times qs b ∙ has (has_value w) b

    pub first_failed : list_all (is_valued_first w) qs ≡ false → (b : Binding) → are_valued w e b ≡ false
    first_failed failed b =
        sym (has (has_value w) b) ∙ sym (all_times qs b) ∙ ap (λ t. t && list_all (is_valued_under w b) qs) failed

pub none_valued : (task : Task) (a : Action) (bs : List Binding) → ((b : Binding) → are_valued (world task) a.effect b ≡ false)
    → filter (is_kept_under task a) bs ≡ []
none_valued task a bs fails =
    filter_none (is_kept_under task a) bs (λ b inside. ap (λ t. may_hold task b a.condition && t) (fails b) ∙ never (may_hold task b a.condition))
  where
    never : (a : Bool) → (a && false) ≡ false
    never true = refl
    never false = refl
