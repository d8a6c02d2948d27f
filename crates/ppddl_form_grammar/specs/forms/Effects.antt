-- Which forms spell which effects, over what is declared and the variables in sight.
-- Sources: PDDL 2.1 (Fox and Long 2003) for conditional effects, PPDDL 1.0 for chances and rewards.
--     IsCost d s f e            what a `decrease` costs: an amount, in a word that has not the form of a name, or a function
--     IsEffect d s f e          f spells the effect e
--     Effects d s fs es         each form spells an effect
--     Branches d s fs bs        probabilities, each with its effect
use Rattle.std.specs.Prelude.{◌≡◌, ℕ, List, [], ◌∷◌, false, Ok}
use Rattle.exact_fraction.specs.declared.fraction.Fraction.{Fraction}
use Rattle.exact_fraction.specs.Numbers.{amount_of}
use Rattle.ppddl_lex.specs.declared.keywords.TheConstants.{NOT, AND, FORALL, WHEN, PROBABILISTIC, DECREASE}
use Rattle.ppddl_model.specs.declared.limits.TheConstants.{MOST_COST}
use Rattle.ppddl_model.specs.declared.tree.Atom.{Atom}
use Rattle.ppddl_model.specs.declared.tree.Branch.{Branch}
use Rattle.ppddl_model.specs.declared.tree.Condition.{Condition}
use Rattle.ppddl_model.specs.declared.tree.Effect.{Effect}
use Rattle.ppddl_model.specs.declared.tree.Effect.TheVariants as tree
use Rattle.ppddl_model.specs.declared.tree.Param.{Param}
use Rattle.ppddl_model.specs.WellFormed.{AreProbabilities}
use Rattle.ppddl_forms.specs.names.Declarations.{Declared}
use Rattle.ppddl_cursor.specs.declared.place.Place.{Place}
use Rattle.ppddl_cursor.specs.Forms.{Form, Forms, lone, group, none, more}
use Rattle.ppddl_forms.specs.Costs.{is_named}
use Rattle.ppddl_forms.specs.Effects.{chances_of}
use Rattle.ppddl_forms.specs.Terms.{Scope}
use Rattle.ppddl_form_grammar.specs.forms.Words.{forms, headed, IsChance, IsReward}
use Rattle.ppddl_form_grammar.specs.forms.Terms.{IsAtom, IsFunction}
use Rattle.ppddl_form_grammar.specs.forms.Lists.{IsVariableList}
use Rattle.ppddl_form_grammar.specs.forms.Conditions.{IsCondition}

abbrev pub branch_of : Fraction → Effect → Branch
branch_of p e = record { chance = p; effect = e }

module _ (d : Declared) where
  pub data IsCost (s : Scope) : Form → Effect → Type 0 where
    amount : {w : List ℕ} {a : Place} {n : ℕ} → is_named w ≡ false → amount_of w MOST_COST ≡ Ok n → IsCost s (lone w a) (tree.Cost n)
    function : {f : Form} {x : Atom} → IsFunction d s f x → IsCost s f (tree.CostOf x)

  mutual
    pub data IsEffect : Scope → Form → Effect → Type 0 where
      nothing : {s : Scope} {a b : Place} → IsEffect s (group a none b) (tree.Both [])
      addition : {s : Scope} {f : Form} {x : Atom} → IsAtom d s f x → IsEffect s f (tree.Add x)
      deletion : {s : Scope} {a c b : Place} {f : Form} {x : Atom} → IsAtom d s f x → IsEffect s (headed a c NOT.now (forms (f ∷ [])) b) (tree.Delete x)
      conjunction : {s : Scope} {a c b : Place} {fs : Forms} {es : List Effect} → Effects s fs es → IsEffect s (headed a c AND.now fs b) (tree.Both es)
      universality : {s : Scope} {a c b : Place} {f g : Form} {ps : List Param} {e : Effect}
          → IsVariableList d f ps → IsEffect (ps ∷ s) g e → IsEffect s (headed a c FORALL.now (forms (f ∷ g ∷ [])) b) (tree.Forall ps e)
      condition : {s : Scope} {a c b : Place} {f g : Form} {x : Condition} {e : Effect}
          → IsCondition d s f x → IsEffect s g e → IsEffect s (headed a c WHEN.now (forms (f ∷ g ∷ [])) b) (tree.When x e)
      chance : {s : Scope} {a c b : Place} {fs : Forms} {bs : List Branch}
          → Branches s fs bs → AreProbabilities (chances_of bs) → IsEffect s (headed a c PROBABILISTIC.now fs b) (tree.Chance bs)
      cost : {s : Scope} {a c b : Place} {f g : Form} {e : Effect} → IsReward f → IsCost s g e → IsEffect s (headed a c DECREASE.now (forms (f ∷ g ∷ [])) b) e

    pub data Effects : Scope → Forms → List Effect → Type 0 where
      no_effect : {s : Scope} → Effects s none []
      one_more : {s : Scope} {f : Form} {fs : Forms} {e : Effect} {es : List Effect} → IsEffect s f e → Effects s fs es → Effects s (more f fs) (e ∷ es)

    pub data Branches : Scope → Forms → List Branch → Type 0 where
      no_branch : {s : Scope} → Branches s none []
      branch : {s : Scope} {f g : Form} {fs : Forms} {p : Fraction} {e : Effect} {bs : List Branch}
          → IsChance f p → IsEffect s g e → Branches s fs bs → Branches s (more f (more g fs)) (branch_of p e ∷ bs)
