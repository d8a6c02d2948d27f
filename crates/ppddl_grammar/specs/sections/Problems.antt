-- Which forms spell what a problem says of its start and its goal.
-- Source: PPDDL 1.0.
--     Items d s fs t       items of `:init` behind those of s, with which they are t
--     IsGoal d fs c        one condition, with no variable in sight
--     IsGoalReward fs n    an amount of at least 1 micro-unit
use Rattle.std.specs.Prelude.{◌≡◌, ℕ, ◌≤◌, List, [], Ok}
use Rattle.exact_fraction.specs.Numbers.{amount_of}
use Rattle.ppddl_model.specs.declared.limits.TheConstants.{MOST_PENALTY}
use Rattle.ppddl_model.specs.declared.tree.Condition.{Condition}
use Rattle.ppddl_model.specs.declared.tree.InitItem.{InitItem}
use Rattle.ppddl_forms.specs.names.Declarations.{Declared}
use Rattle.ppddl_cursor.specs.declared.place.Place.{Place}
use Rattle.ppddl_cursor.specs.Forms.{Form, Forms, lone, none, more}
use Rattle.ppddl_reader.specs.declared.sections.start.Start.{Start}
use Rattle.ppddl_reader.specs.sections.Starts.{put}
use Rattle.ppddl_form_grammar.specs.forms.Conditions.{IsCondition}
use Rattle.ppddl_form_grammar.specs.lists.Items.{IsItem}

module _ (d : Declared) where
  pub data Items : Start → Forms → Start → Type 0 where
    no_item : {s : Start} → Items s none s
    one_more : {s t : Start} {f : Form} {fs : Forms} {i : InitItem} → IsItem d s.values f i → Items (put s i) fs t → Items s (more f fs) t

  pub data IsGoal : Forms → Condition → Type 0 where
    goal : {f : Form} {c : Condition} → IsCondition d [] f c → IsGoal (more f none) c

pub data IsGoalReward : Forms → ℕ → Type 0 where
  reward : {w : List ℕ} {a : Place} {n : ℕ} → amount_of w MOST_PENALTY ≡ Ok n → 1 ≤ n → IsGoalReward (more (lone w a) none) n
