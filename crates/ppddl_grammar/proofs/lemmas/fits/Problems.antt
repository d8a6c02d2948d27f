-- What is read of a problem's start and goal fits, and draws by probabilities.
--     StartSoFar w domain s     what is known of `:init` while it is read
use Rattle.std.proofs.Common.{◌≡◌, Bool, true, All, List, [], ◌∷◌, Some, Ok, refl, subst}
use Rattle.std.specs.List.{list_all}
use Rattle.std.proofs.lemmas.Bool.{and_from, and_parts}
use Rattle.std.proofs.lemmas.List.Elements.{All-nil, All-cons, All-head, All-tail, All-push}
use Rattle.plain_list.proofs.Results.{bind_ok, ok_is}
use Rattle.ppddl_model.specs.declared.limits.TheConstants.{MOST_PENALTY}
use Rattle.ppddl_model.specs.declared.tree.Domain.{Domain}
use Rattle.ppddl_model.specs.declared.tree.InitItem.{InitItem}
use Rattle.ppddl_model.specs.declared.tree.InitItem.TheVariants as tree
use Rattle.ppddl_model.specs.Draws.{EachItemDraw}
use Rattle.ppddl_model.specs.Objects.{World}
use Rattle.ppddl_model.specs.WellFormed.{condition_fits, item_fits, values_fit, reward_fits, AreProbabilities}
use Rattle.ppddl_forms.specs.names.Declarations.{Declared}
use Rattle.ppddl_cursor.specs.declared.place.Place.{Place}
use Rattle.ppddl_cursor.specs.Forms.{Form, Forms, none, more}
use Rattle.ppddl_cursor.specs.Reading.{Fault}
use Rattle.ppddl_cursor.specs.Sequences.{checking, one_then, last}
use Rattle.ppddl_forms.specs.Conditions.{condition}
use Rattle.ppddl_forms.specs.Words.{amount}
use Rattle.ppddl_forms.specs.items.Items.{item}
use Rattle.ppddl_reader.specs.declared.sections.start.Start.{Start}
use Rattle.ppddl_reader.specs.sections.Goals.{goal, goal_reward}
use Rattle.ppddl_reader.specs.sections.Starts.{no_items, behind_facts, put, started, start_behind}
use Rattle.ppddl_form_grammar.specs.fits.Growth.{AreDeclaredIn}
use Rattle.ppddl_form_grammar.proofs.lemmas.fits.Items.{item-fits, item-draws, value-fits}
use Rattle.ppddl_form_grammar.proofs.lemmas.fits.Problem.{reward_fit}
use Rattle.ppddl_form_grammar.proofs.lemmas.fits.Reading.{condition-fits}
use Rattle.ppddl_form_grammar.proofs.lemmas.fits.Tests.{all-both}
use Rattle.ppddl_grammar.specs.fits.Laws.{StartFits, StartDraws, ValuesFit, GoalFits, GoalRewardFits}
use Rattle.ppddl_grammar.proofs.lemmas.fits.Walks.{Any, any-forms, each-keeps}

-- ---- an item behind facts

all-behind : (p : InitItem → Bool) (i : InitItem) (l : List InitItem) → list_all p l ≡ true → p i ≡ true → list_all p (behind_facts i l) ≡ true
all-behind p i [] each one = and_from (p i) true one refl
all-behind p i (tree.Fact x ∷ l) each one =
    let both = and_parts (p (tree.Fact x)) (list_all p l) each in
    and_from (p (tree.Fact x)) (list_all p (behind_facts i l)) both.0 (all-behind p i l both.1 one)
all-behind p i (tree.Chance branches ∷ l) each one = and_from (p i) (list_all p (tree.Chance branches ∷ l)) one each
all-behind p i (tree.Value v ∷ l) each one = and_from (p i) (list_all p (tree.Value v ∷ l)) one each

each-behind : (P : InitItem → Type 0) (i : InitItem) (l : List InitItem) → All P l → P i → All P (behind_facts i l)
each-behind P i [] each one = All-cons P i [] one each
each-behind P i (tree.Fact x ∷ l) each one =
    All-cons P (tree.Fact x) (behind_facts i l) (All-head P (tree.Fact x) l each) (each-behind P i l (All-tail P (tree.Fact x) l each) one)
each-behind P i (tree.Chance branches ∷ l) each one = All-cons P i (tree.Chance branches ∷ l) one each
each-behind P i (tree.Value v ∷ l) each one = All-cons P i (tree.Value v ∷ l) one each

-- ---- the start

module _ (d : Declared) where
  -- what holds of each start so far
  module _ (P : Start → Type 0) (one : (s : Start) (f : Form) (i : InitItem) → P s → item d s.values f ≡ Ok i → P (put s i)) where
    started-keeps : (s : Start) (f : Form) (t : Start) → P s → Any f → started d s f ≡ Ok t → P t
    unfolding started checking
    started-keeps s f t holds any is =
        let r = bind_ok (item d s.values f) (λ i. Ok (put s i)) t is in subst P (ok_is {E = Fault} (put s r.0) t r.2) (one s f r.0 holds r.1)

    start-keeps : (fs : Forms) (b : Place) (t : Start) → P no_items → start_behind d no_items fs b ≡ Ok t → P t
    unfolding start_behind
    start-keeps fs b t holds is = each-keeps (started d) P Any started-keeps no_items fs b t holds (any-forms fs) is

  module _ (w : World) (domain : Domain) (declared : AreDeclaredIn d w domain) where
    abbrev ItemsFit : Start → Type 0
    ItemsFit s = list_all (item_fits w domain) s.items ≡ true

    item-put : (s : Start) (f : Form) (i : InitItem) → ItemsFit s → item d s.values f ≡ Ok i → ItemsFit (put s i)
    item-put s f (tree.Fact x) fit is =
        all-behind (item_fits w domain) (tree.Fact x) s.items fit (item-fits d s.values f (tree.Fact x) is refl w domain declared)
    item-put s f (tree.Chance branches) fit is =
        all-both (item_fits w domain) s.items (tree.Chance branches ∷ []) fit
        (and_from (item_fits w domain (tree.Chance branches)) true (item-fits d s.values f (tree.Chance branches) is refl w domain declared) refl)
    item-put s f (tree.Value v) fit is = fit

    abbrev AreValued : Start → Type 0
    AreValued s = values_fit w domain s.values ≡ true

    value-put : (s : Start) (f : Form) (i : InitItem) → AreValued s → item d s.values f ≡ Ok i → AreValued (put s i)
    value-put s f (tree.Fact x) fit is = fit
    value-put s f (tree.Chance branches) fit is = fit
    value-put s f (tree.Value v) fit is = value-fits d s.values f v is w domain declared fit

  abbrev Draws : Start → Type 0
  Draws s = All (EachItemDraw AreProbabilities) s.items

  draw-put : (s : Start) (f : Form) (i : InitItem) → Draws s → item d s.values f ≡ Ok i → Draws (put s i)
  draw-put s f (tree.Fact x) each is = each-behind (EachItemDraw AreProbabilities) (tree.Fact x) s.items each (item-draws d s.values f (tree.Fact x) is)
  draw-put s f (tree.Chance branches) each is =
      All-push (EachItemDraw AreProbabilities) s.items (tree.Chance branches) each (item-draws d s.values f (tree.Chance branches) is)
  draw-put s f (tree.Value v) each is = each

pub start-fits : StartFits
start-fits d fs b s is w domain declared = start-keeps d (ItemsFit d w domain declared) (item-put d w domain declared) fs b s refl is

pub values-fit : ValuesFit
values-fit d fs b s is w domain declared = start-keeps d (AreValued d w domain declared) (value-put d w domain declared) fs b s refl is

pub start-draws : StartDraws
start-draws d fs b s is = start-keeps d (Draws d) (draw-put d) fs b s (All-nil (EachItemDraw AreProbabilities)) is

-- ---- the goal

-- the last form of a group
last-is : {A : Type 0} (x y : A) (fs : Forms) (b : Place) → last x fs b ≡ Ok y → x ≡ y
unfolding last
last-is x y none b is = cc
last-is x y (more f fs) b is = absurd cc

pub goal-fits : GoalFits
unfolding goal one_then
goal-fits d none b c is w domain declared = absurd cc
goal-fits d (more f fs) b c is w domain declared =
    let r = bind_ok (condition d [] f) (λ x. last x fs b) c is in
    subst (λ x. condition_fits w domain x [] ≡ true) (last-is r.0 c fs b r.2) (condition-fits d [] f r.0 r.1 w domain declared)

pub goal_reward-fits : GoalRewardFits
unfolding goal_reward one_then
goal_reward-fits none b n is = absurd cc
goal_reward-fits (more f fs) b n is =
    let r = bind_ok (amount 1 MOST_PENALTY f) (λ x. last x fs b) n is in
    subst (λ x. reward_fits (Some x) ≡ true) (last-is r.0 n fs b r.2) (reward_fit f r.0 r.1)
