-- Items of `:init` that are read fit, draw by probabilities, and give a function no second value.
use Rattle.std.proofs.Common.{◌≡◌, ℕ, Bool, true, false, ◌==◌, ◌&&◌, List, [], ◌∷◌, ◌++◌, nat_le, cond, Option, Some, None, Decides, All, refl, sym, ap, subst, ◌∙◌, true≢false}
use Rattle.std.specs.Cmp.Lexicographic.{bytes_decides}
use Rattle.std.specs.List.{find, list_all}
use Rattle.std.specs.Option.{option_map, option_or}
use Rattle.std.proofs.lemmas.Bool.{and_from, not-false}
use Rattle.std.proofs.lemmas.Bool.Decides.{Decides-eqb}
use Rattle.std.proofs.lemmas.List.Elements.{All-nil, All-cons}
use Rattle.std.proofs.lemmas.List.Folds.{find-append}
use Rattle.std.proofs.lemmas.Slice.Eq.{slice_eq-Decides}
use Rattle.exact_fraction.specs.declared.fraction.Fraction.{Fraction}
use Rattle.ppddl_model.specs.declared.limits.TheConstants.{MOST_COST}
use Rattle.ppddl_model.specs.declared.tree.Atom.{Atom}
use Rattle.ppddl_model.specs.declared.tree.Domain.{Domain}
use Rattle.ppddl_model.specs.declared.tree.InitBranch.{InitBranch}
use Rattle.ppddl_model.specs.declared.tree.InitItem.{InitItem}
use Rattle.ppddl_model.specs.declared.tree.InitItem.TheVariants as tree
use Rattle.ppddl_model.specs.declared.tree.ValueItem.{ValueItem}
use Rattle.ppddl_model.specs.Draws.{EachItemDraw}
use Rattle.ppddl_model.specs.Objects.{World}
use Rattle.ppddl_model.specs.State.{GroundAtom, same_atom}
use Rattle.ppddl_model.specs.WellFormed.{atom_fits, item_fits, has_one_value, values_fit, AreProbabilities}
use Rattle.ppddl_model.proofs.States.{same_atom-Decides}
use Rattle.ppddl_forms.specs.names.Declarations.{Declared, world_of}
use Rattle.ppddl_cursor.specs.Forms.{Form, Forms}
use Rattle.ppddl_form_grammar.specs.forms.Words as word
use Rattle.ppddl_form_grammar.specs.forms.Words.{Each}
use Rattle.ppddl_form_grammar.specs.forms.Terms.{IsAtom}
use Rattle.ppddl_form_grammar.proofs.lemmas.forms.Shares.{no_chances}
use Rattle.ppddl_forms.specs.items.Items.{chances_of}
use Rattle.ppddl_forms.specs.items.Values.{same_term, term_of, value_in, is_another, has_another}
use Rattle.ppddl_form_grammar.specs.lists.Items as by
use Rattle.ppddl_form_grammar.specs.lists.Items.{value_of, Adds, InitBranches, IsItem}
use Rattle.ppddl_form_grammar.proofs.lemmas.lists.Items.{item_derived}
use Rattle.ppddl_form_grammar.specs.fits.Growth.{domain_of, is_value}
use Rattle.ppddl_form_grammar.specs.fits.Laws.{ItemFits, ItemDraws, ValueFits}
use Rattle.ppddl_form_grammar.proofs.lemmas.fits.Tests.{by_test, all-parts, all-join, all-both}
use Rattle.ppddl_form_grammar.proofs.lemmas.fits.Agreeing as by_value
use Rattle.ppddl_form_grammar.proofs.lemmas.fits.Atoms.{IsLater, atom_fits-grows}
use Rattle.ppddl_form_grammar.proofs.lemmas.fits.Growth.{later_from}
use Rattle.ppddl_form_grammar.proofs.lemmas.fits.Conditions.{atom_fit}
use Rattle.ppddl_form_grammar.proofs.lemmas.fits.Effects.{amount_within, function_fits}
use Rattle.ppddl_form_grammar.proofs.lemmas.fits.Problem.{item-grows}

module _ (d : Declared) where
  -- ---- facts and branches

  abbrev is_fact : Atom → Bool
  is_fact = atom_fits (world_of d) [] d.predicates

  abbrev are_facts : InitBranch → Bool
  are_facts branch = list_all is_fact branch.atoms

  facts_fit : (fs : Forms) (xs : List Atom) → Each (IsAtom d []) fs xs → list_all is_fact xs ≡ true
  facts_fit fs xs word.no_form = refl
  facts_fit fs xs (word.one_more {f = f} {fs = gs} {x = x} {xs = others} is rest) = and_from (is_fact x) (list_all is_fact others) (atom_fit d [] f x is) (facts_fit gs others rest)

  adds_fit : (f : Form) (xs : List Atom) → Adds d f xs → list_all is_fact xs ≡ true
  adds_fit f xs by.nothing = refl
  adds_fit f xs (by.one {x = x} is) = and_from (is_fact x) true (atom_fit d [] f x is) refl
  adds_fit f xs (by.conjunction {fs = gs} each) = facts_fit gs xs each

  branches_fit : (fs : Forms) (bs : List InitBranch) → InitBranches d fs bs → list_all are_facts bs ≡ true
  branches_fit fs bs by.no_branch = refl
  branches_fit fs bs (by.branch {g = g} {fs = gs} {xs = xs} {bs = others} one adds rest) =
      and_from (list_all is_fact xs) (list_all are_facts others) (adds_fit g xs adds) (branches_fit gs others rest)

  -- ---- items

  item_fit : (values : List ValueItem) (f : Form) (i : InitItem) → IsItem d values f i → is_value i ≡ false → item_fits (world_of d) (domain_of d) i ≡ true
  item_fit values f i (by.fact {x = x} is) other = atom_fit d [] f x is
  item_fit values f i (by.denial is) other = refl
  item_fit values f i (by.chance {fs = gs} {bs = bs} parts are) other = branches_fit gs bs parts
  item_fit values f i (by.value is number only) other = absurd (true≢false other)

  alone : (chances : List Fraction) → AreProbabilities chances → All AreProbabilities (chances ∷ [])
  alone chances are = All-cons AreProbabilities chances [] are (All-nil AreProbabilities)

  item_draws : (values : List ValueItem) (f : Form) (i : InitItem) → IsItem d values f i → EachItemDraw AreProbabilities i
  item_draws values f i (by.fact is) = All-nil AreProbabilities
  item_draws values f i (by.denial is) = alone [] no_chances
  item_draws values f i (by.chance {bs = bs} parts are) = alone (chances_of bs) are
  item_draws values f i (by.value is number only) = All-nil AreProbabilities

-- ---- values of functions

same_term-Decides : (t u : GroundAtom) → Decides (same_term t u) (t ≡ u)
same_term-Decides t u = slice_eq-Decides bytes_decides t u (same_term t u) refl

abbrev number_of : ValueItem → ℕ
number_of v = v.value

abbrev first_number : List ValueItem → GroundAtom → Option ℕ
first_number values t = option_map number_of (find (λ v. same_atom (term_of v) t) values)

-- the value that is found is that of the first item of the function
found_first : (values : List ValueItem) (t : GroundAtom) → value_in values t ≡ first_number values t
found_first [] t = refl
found_first (v ∷ values) t = by_test (same_term t (term_of v))
    (λ yes.
    let same : same_atom (term_of v) t ≡ true = (same_atom-Decides (term_of v) t).1 (sym ((same_term-Decides t (term_of v)).0 yes)) in
    ap (λ b. cond b (Some v.value) (value_in values t)) yes ∙ sym (ap (λ b. option_map number_of (cond b (Some v) (find (λ x. same_atom (term_of x) t) values))) same))
    (λ no.
    ap (λ b. cond b (Some v.value) (value_in values t)) no
    ∙ found_first values t
    ∙ by_test (same_atom (term_of v) t)
    (λ yes. absurd (true≢false (sym ((same_term-Decides t (term_of v)).1 (sym ((same_atom-Decides (term_of v) t).0 yes))) ∙ no)))
    (λ other. sym (ap (λ b. option_map number_of (cond b (Some v) (find (λ x. same_atom (term_of x) t) values))) other)))

no_other : (n : ℕ) (r : Option ℕ) → is_another n r ≡ false → option_or r (Some n) ≡ Some n
no_other n None alike = refl
no_other n (Some m) alike = ap (λ (k : ℕ). Some k) ((Decides-eqb m n).0 (not-false (m == n) alike))

mapped : (r s : Option ValueItem) → option_map number_of (option_or r s) ≡ option_or (option_map number_of r) (option_map number_of s)
mapped None s = refl
mapped (Some v) s = refl

-- a value behind others, of which the function has no other
first_of_all : (values : List ValueItem) (v : ValueItem) → has_another values (term_of v) v.value ≡ false → first_number (values ++ v ∷ []) (term_of v) ≡ Some v.value
first_of_all values v only =
    let named : ValueItem → Bool = λ x. same_atom (term_of x) (term_of v) in
    let own : find named (v ∷ []) ≡ Some v = ap (λ b. cond b (Some v) None) ((same_atom-Decides (term_of v) (term_of v)).1 refl) in
    ap (option_map number_of) (find-append named values (v ∷ []))
    ∙ mapped (find named values) (find named (v ∷ []))
    ∙ ap (λ r. option_or (first_number values (term_of v)) (option_map number_of r)) own
    ∙ ap (λ r. option_or r (Some v.value)) (sym (found_first values (term_of v)))
    ∙ no_other v.value (value_in values (term_of v)) only

-- what an item that gives a value says of it
pub record IsGiven (d : Declared) (values : List ValueItem) (v : ValueItem) : Type 0 where
  pub function : atom_fits (world_of d) [] d.functions v.function ≡ true
  pub number : nat_le v.value MOST_COST ≡ true
  pub only : has_another values (term_of v) v.value ≡ false

given : (d : Declared) (values : List ValueItem) (f : Form) (i : InitItem) → IsItem d values f i → (v : ValueItem) → i ≡ tree.Value v → IsGiven d values v
given d values f i (by.fact is) v same = absurd cc
given d values f i (by.denial is) v same = absurd cc
given d values f i (by.chance parts are) v same = absurd cc
given d values f i (by.value {f = g} {w = w} {x = x} {n = n} is number only) v same =
    let e : value_of x n ≡ v = cc in
    subst (IsGiven d values) e (record { function = function_fits d [] g x is; number = amount_within w MOST_COST n number; only = only })

module _ (w : World) (domain : Domain) where
  abbrev is_proper : ValueItem → Bool
  is_proper v = atom_fits w [] domain.functions v.function && nat_le v.value MOST_COST

  value_behind : (values : List ValueItem) (v : ValueItem) → is_proper v ≡ true → has_another values (term_of v) v.value ≡ false
      → values_fit w domain values ≡ true → values_fit w domain (values ++ v ∷ []) ≡ true
  value_behind values v proper only fit =
      let before = all-parts is_proper (has_one_value w domain values) values fit in
      let firsts = All-cons (by_value.HasFirst term_of number_of same_atom (λ a b. a == b) same_atom-Decides Decides-eqb (values ++ v ∷ [])) v [] (first_of_all values v only)
      (All-nil (by_value.HasFirst term_of number_of same_atom (λ a b. a == b) same_atom-Decides Decides-eqb (values ++ v ∷ []))) in
      all-join is_proper (has_one_value w domain (values ++ v ∷ [])) (values ++ v ∷ [])
      (all-both is_proper values (v ∷ []) before.0 (and_from (is_proper v) true proper refl))
      (by_value.both_agree term_of number_of same_atom (λ a b. a == b) same_atom-Decides Decides-eqb values (v ∷ []) before.1 firsts)

-- ---- laws

pub item-fits : ItemFits
item-fits d values f i is other w domain declared =
    item-grows (world_of d) w (domain_of d) domain (later_from d w domain declared) i (item_fit d values f i (item_derived d values f i is) other)

pub item-draws : ItemDraws
item-draws d values f i is = item_draws d values f i (item_derived d values f i is)

pub value-fits : ValueFits
value-fits d values f v is w domain declared fit =
    let one = given d values f (tree.Value v) (item_derived d values f (tree.Value v) is) v refl in
    let later : IsLater (world_of d) w (domain_of d) domain = later_from d w domain declared in
    let function = atom_fits-grows (world_of d) w (domain_of d) domain later d.functions domain.functions later.functions [] v.function one.function in
    value_behind w domain values v (and_from (atom_fits w [] domain.functions v.function) (nat_le v.value MOST_COST) function one.number) one.only fit
