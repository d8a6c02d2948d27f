-- Which forms spell which items of `:init`. No variable is in sight.
-- Sources: PPDDL 1.0 for items by chance, PDDL 2.1 (Fox and Long 2003) for values of functions.
--     Adds d f xs               what a branch adds: `( )`, an atom, or `( and ATOM* )`
--     InitBranches d fs bs      probabilities, each with what its branch adds
--     IsItem d values f i       f spells the item i, behind those that gave the values: a function has no other value than before
use Rattle.std.specs.Prelude.{◌≡◌, ℕ, List, [], ◌∷◌, false, Ok}
use Rattle.exact_fraction.specs.declared.fraction.Fraction.{Fraction}
use Rattle.exact_fraction.specs.Numbers.{amount_of}
use Rattle.ppddl_lex.specs.declared.keywords.TheConstants.{NOT, AND, PROBABILISTIC}
use Rattle.ppddl_model.specs.declared.limits.TheConstants.{MOST_COST}
use Rattle.ppddl_model.specs.declared.tree.Atom.{Atom}
use Rattle.ppddl_model.specs.declared.tree.InitBranch.{InitBranch}
use Rattle.ppddl_model.specs.declared.tree.InitItem.{InitItem}
use Rattle.ppddl_model.specs.declared.tree.InitItem.TheVariants as tree
use Rattle.ppddl_model.specs.declared.tree.ValueItem.{ValueItem}
use Rattle.ppddl_model.specs.Objects.{ground_atom}
use Rattle.ppddl_model.specs.WellFormed.{AreProbabilities}
use Rattle.ppddl_forms.specs.names.Declarations.{Declared}
use Rattle.ppddl_cursor.specs.declared.place.Place.{Place}
use Rattle.ppddl_cursor.specs.Forms.{Form, Forms, lone, group, none, more}
use Rattle.ppddl_forms.specs.declared.symbols.TheConstants.{EQUAL}
use Rattle.ppddl_form_grammar.specs.forms.Words.{forms, headed, Each, IsChance}
use Rattle.ppddl_form_grammar.specs.forms.Terms.{IsAtom, IsFunction}
use Rattle.ppddl_forms.specs.items.Items.{chances_of, branch_of}
use Rattle.ppddl_forms.specs.items.Values.{has_another}

abbrev pub value_of : Atom → ℕ → ValueItem
value_of x n = record { function = x; value = n }

module _ (d : Declared) where
  pub data Adds : Form → List Atom → Type 0 where
    nothing : {a b : Place} → Adds (group a none b) []
    one : {f : Form} {x : Atom} → IsAtom d [] f x → Adds f (x ∷ [])
    conjunction : {a c b : Place} {fs : Forms} {xs : List Atom} → Each (IsAtom d []) fs xs → Adds (headed a c AND.now fs b) xs

  pub data InitBranches : Forms → List InitBranch → Type 0 where
    no_branch : InitBranches none []
    branch : {f g : Form} {fs : Forms} {p : Fraction} {xs : List Atom} {bs : List InitBranch}
        → IsChance f p → Adds g xs → InitBranches fs bs → InitBranches (more f (more g fs)) (branch_of p xs ∷ bs)

  pub data IsItem (values : List ValueItem) : Form → InitItem → Type 0 where
    fact : {f : Form} {x : Atom} → IsAtom d [] f x → IsItem values f (tree.Fact x)
    denial : {a c b : Place} {f : Form} {x : Atom} → IsAtom d [] f x → IsItem values (headed a c NOT.now (forms (f ∷ [])) b) (tree.Chance [])
    chance : {a c b : Place} {fs : Forms} {bs : List InitBranch}
        → InitBranches fs bs → AreProbabilities (chances_of bs) → IsItem values (headed a c PROBABILISTIC.now fs b) (tree.Chance bs)
    value : {a c b e : Place} {f : Form} {w : List ℕ} {x : Atom} {n : ℕ} → IsFunction d [] f x → amount_of w MOST_COST ≡ Ok n
        → has_another values (ground_atom [] x) n ≡ false → IsItem values (headed a c EQUAL.now (forms (f ∷ lone w e ∷ [])) b) (tree.Value (value_of x n))
