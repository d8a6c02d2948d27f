-- Conditions, guarded parts and choices that are found equal are equal.
use Rattle.std.proofs.Common.{◌≡◌, ℕ, Bool, true, ◌&&◌, List, [], ◌∷◌, ◌++◌}
use Rattle.std.proofs.Common.{refl, sym, ap, ◌∙◌}
use Rattle.std.specs.Prelude.{nat_eq}
use Rattle.std.specs.Cmp.Lexicographic.{pointwise, same_text}
use Rattle.std.proofs.lemmas.Bool.{eqb-true, and_parts}
use Rattle.std.proofs.lemmas.List.{append_assoc, append-nil}
use denote.Hole.Carrier.{hidden}
use Rattle.ground_model.specs.declared.action.Choice.{Choice}
use Rattle.ground_model.specs.declared.action.Guarded.{Guarded}
use Rattle.ground_model.specs.declared.condition.GroundCondition.{GroundCondition}
use Rattle.ground_model.specs.declared.condition.GroundCondition.{Row_of-GroundCondition}
use Rattle.ground_model.specs.declared.condition.GroundCondition.{end_of-GroundCondition}
use Rattle.ground_model.specs.declared.condition.GroundCondition.{more_of-GroundCondition}
use Rattle.ground_model.specs.declared.condition.GroundCondition.{items-the_row-GroundCondition}
use Rattle.ground_model.specs.declared.condition.GroundCondition.TheBlock.{backs-GroundCondition, items_shown-the_row-GroundCondition-1, shape-the_row-GroundCondition-0, hidden-the_row-GroundCondition-0}
use Rattle.ground_model.specs.declared.condition.GroundCondition.TheVariants as condition
use Rattle.ground_meaning.specs.choices.Same.{words_of, words_of_each, same_numbers, same_condition}
use Rattle.ground_meaning.specs.choices.Same.{same_part, same_choice}
use Rattle.ground_meaning.specs.choices.Joint.{with_weight}

-- ---- conditions

abbrev tail_of : List ℕ → List ℕ
tail_of [] = []
tail_of (x ∷ xs) = xs

abbrev head_of : List ℕ → ℕ
head_of [] = 0
head_of (x ∷ xs) = x

all_of : (us : List GroundCondition) (s : _) (row : Row_of-GroundCondition _)
    → us ≡ items-the_row-GroundCondition _ row → condition.All' s row ≡ condition.All us
all_of us s row e =
    sym (backs-GroundCondition (condition.All' s row))
    ∙ ap condition.All (items_shown-the_row-GroundCondition-1 s row ∙ sym e)

any_of : (us : List GroundCondition) (s : _) (row : Row_of-GroundCondition _)
    → us ≡ items-the_row-GroundCondition _ row → condition.Any' s row ≡ condition.Any us
any_of us s row e =
    sym (backs-GroundCondition (condition.Any' s row))
    ∙ ap condition.Any (items_shown-the_row-GroundCondition-1 s row ∙ sym e)

not_of : (s : _) (c : GroundCondition)
    → condition.Not' s (more_of-GroundCondition c end_of-GroundCondition) ≡ condition.Not c
unfolding shape-the_row-GroundCondition-0 hidden-the_row-GroundCondition-0 hidden
not_of s c = refl

-- by which number a condition begins
abbrev form : GroundCondition → ℕ
form condition.True = 1
form condition.False = 2
form (condition.Atom q) = 3
form (condition.Not' s cs) = 4
form (condition.All' s cs) = 5
form (condition.Any' s cs) = 6

begins : (c : GroundCondition) (r : List ℕ) → head_of (words_of c ++ r) ≡ form c
begins condition.True r = refl
begins condition.False r = refl
begins (condition.Atom q) r = refl
begins (condition.Not' s (more_of-GroundCondition c end_of-GroundCondition)) r = refl
begins (condition.All' s cs) r = refl
begins (condition.Any' s cs) r = refl

-- none begins as the end of a list does
no_form : (c : GroundCondition) → form c ≡ 0 → ⊥
no_form condition.True e = cc e
no_form condition.False e = cc e
no_form (condition.Atom q) e = cc e
no_form (condition.Not' s cs) e = cc e
no_form (condition.All' s cs) e = cc e
no_form (condition.Any' s cs) e = cc e

not_end : (c : GroundCondition) (r r' : List ℕ) → words_of c ++ r ≡ 0 ∷ r' → ⊥
not_end c r r' e = no_form c (sym (begins c r) ∙ ap head_of e)

same_form : (c d : GroundCondition) (r r' : List ℕ) → words_of c ++ r ≡ words_of d ++ r' → form c ≡ form d
same_form c d r r' e = sym (begins c r) ∙ ap head_of e ∙ begins d r'

abbrev rows : {n : _} → Row_of-GroundCondition n → List GroundCondition
rows row = items-the_row-GroundCondition _ row

mutual
  condition_is : (c d : GroundCondition) (r r' : List ℕ) → words_of c ++ r ≡ words_of d ++ r'
      → (c ≡ d) × (r ≡ r')
  condition_is condition.True condition.True r r' e = (refl, ap tail_of e)
  condition_is condition.False condition.False r r' e = (refl, ap tail_of e)
  condition_is (condition.Atom q) (condition.Atom q') r r' e =
      (ap condition.Atom (ap (λ l. head_of (tail_of l)) e), ap (λ l. tail_of (tail_of l)) e)
  condition_is (condition.Not' s (more_of-GroundCondition c end_of-GroundCondition))
      (condition.Not' s' (more_of-GroundCondition d end_of-GroundCondition)) r r' e =
      let inner = condition_is c d r r' (ap tail_of e) in
      (not_of s c ∙ ap condition.Not inner.0 ∙ sym (not_of s' d), inner.1)
  condition_is (condition.All' s cs) (condition.All' s' ds) r r' e =
      let inner = conditions_are cs ds r r' (ap tail_of e) in
      (all_of (rows ds) s cs (sym inner.0) ∙ sym (all_of (rows ds) s' ds refl), inner.1)
  condition_is (condition.Any' s cs) (condition.Any' s' ds) r r' e =
      let inner = conditions_are cs ds r r' (ap tail_of e) in
      (any_of (rows ds) s cs (sym inner.0) ∙ sym (any_of (rows ds) s' ds refl), inner.1)
  condition_is c d r r' e = absurd (cc (same_form c d r r' e))

  conditions_are : {n m : _} (cs : Row_of-GroundCondition n) (ds : Row_of-GroundCondition m) (r r' : List ℕ)
      → words_of_each cs ++ r ≡ words_of_each ds ++ r' → (rows cs ≡ rows ds) × (r ≡ r')
  conditions_are end_of-GroundCondition end_of-GroundCondition r r' e = (refl, ap tail_of e)
  conditions_are end_of-GroundCondition (more_of-GroundCondition d ds) r r' e =
      absurd (not_end d (words_of_each ds ++ r') r (sym (e ∙ append_assoc (words_of d) (words_of_each ds) r')))
  conditions_are (more_of-GroundCondition c cs) end_of-GroundCondition r r' e =
      absurd (not_end c (words_of_each cs ++ r) r' (sym (append_assoc (words_of c) (words_of_each cs) r) ∙ e))
  conditions_are (more_of-GroundCondition c cs) (more_of-GroundCondition d ds) r r' e =
      let first = condition_is c d (words_of_each cs ++ r) (words_of_each ds ++ r')
      (sym (append_assoc (words_of c) (words_of_each cs) r) ∙ e ∙ append_assoc (words_of d) (words_of_each ds) r') in
      let rest = conditions_are cs ds r r' first.1 in
      (λ i. first.0 i ∷ rest.0 i, rest.1)

pub words_exact : (c d : GroundCondition) → words_of c ≡ words_of d → c ≡ d
words_exact c d e =
    (condition_is c d [] [] (append-nil (words_of c) ∙ e ∙ sym (append-nil (words_of d)))).0

pub same_condition-is : (c d : GroundCondition) → same_condition c d ≡ true → c ≡ d
same_condition-is c d e = words_exact c d (same_text (words_of c) (words_of d) (sym e))

-- ---- parts and choices

same_part-is : (x y : Guarded) → same_part x y ≡ true → x ≡ y
same_part-is x y e =
    let a : Bool = same_condition x.condition y.condition in
    let b : Bool = same_numbers x.adds y.adds in
    let c : Bool = same_numbers x.deletes y.deletes in
    let d : Bool = nat_eq x.cost y.cost in
    let three = and_parts (a && b && c) d e in
    let two = and_parts (a && b) c three.0 in
    let one = and_parts a b two.0 in
    let p : x.condition ≡ y.condition = same_condition-is x.condition y.condition one.0 in
    let q : x.adds ≡ y.adds = same_text x.adds y.adds (sym one.1) in
    let r : x.deletes ≡ y.deletes = same_text x.deletes y.deletes (sym two.1) in
    let s : x.cost ≡ y.cost = eqb-true x.cost y.cost three.1 in
    λ i. record { condition = p i; adds = q i; deletes = r i; cost = s i }

same_parts-are : (xs ys : List Guarded) → pointwise same_part xs ys ≡ true → xs ≡ ys
same_parts-are [] [] e = refl
same_parts-are (x ∷ xs) (y ∷ ys) e =
    let parts = and_parts (same_part x y) (pointwise same_part xs ys) e in
    let first : x ≡ y = same_part-is x y parts.0 in
    let rest : xs ≡ ys = same_parts-are xs ys parts.1 in
    λ i. first i ∷ rest i
same_parts-are xs ys e = absurd cc

-- equal but for their weights
pub same_choice-is : (x y : Choice) → same_choice x y ≡ true → (weight : ℕ) → with_weight weight x ≡ with_weight weight y
same_choice-is x y e weight =
    let a : Bool = nat_eq x.cost y.cost in
    let b : Bool = same_numbers x.adds y.adds in
    let c : Bool = same_numbers x.deletes y.deletes in
    let d : Bool = pointwise same_part x.guarded y.guarded in
    let three = and_parts (a && b && c) d e in
    let two = and_parts (a && b) c three.0 in
    let one = and_parts a b two.0 in
    let p : x.cost ≡ y.cost = eqb-true x.cost y.cost one.0 in
    let q : x.adds ≡ y.adds = same_text x.adds y.adds (sym one.1) in
    let r : x.deletes ≡ y.deletes = same_text x.deletes y.deletes (sym two.1) in
    let s : x.guarded ≡ y.guarded = same_parts-are x.guarded y.guarded three.1 in
    λ i. record { weight = weight; cost = p i; adds = q i; deletes = r i; guarded = s i }
