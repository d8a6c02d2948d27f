-- Upper words by their parts, and when one follows from those of the next states.
--     act_of word                the action that an upper word names; None where its code is that of giving up
--     goal_word, quit_word P     the word of a goal, and that of giving up at the penalty P
--     first_word g s             the upper word of a state of which nothing is known yet
--     raised_at s x f, sunk_at s x f
--                                f, with the greater and the smaller of f and x at the state s
--     policy_of upper            what the upper words say to do in each state
--     IsSupported g upper s w    the word w of s follows from the upper words of the next states: at a goal it is
--                                the goal's, elsewhere it names an open action whose backup it covers, or gives
--                                up at no less than the penalty (an upper bound, Bertsekas 2007)
use Rattle.std.specs.Prelude.{◌≡◌, ℕ, max, min, true, cond, nat_eq, Option, Some, None}
use Rattle.fixed_round.specs.Words.{word_of, value_of, code_of}
use Rattle.decision_process.specs.Following.{IsUpperFrom}
use Rattle.ground_model.specs.Packed.{State, same_state}
use Rattle.ground_model.specs.Ground.{Ground}
use Rattle.ground_model.specs.Steps.{ground_process}
use Rattle.bound_core.specs.declared.codes.TheConstants.{AT_GOAL, GIVE_UP}

abbrev pub act_of : ℕ → Option ℕ
act_of word = cond (nat_eq (code_of word) GIVE_UP) None (Some (code_of word))

abbrev pub goal_word : ℕ
goal_word = word_of 0 AT_GOAL

abbrev pub quit_word : ℕ → ℕ
quit_word penalty = word_of penalty GIVE_UP

abbrev pub first_word : Ground → State → ℕ
first_word g s = cond ((ground_process g).goal s) goal_word (quit_word g.penalty)

abbrev pub raised_at : State → ℕ → (State → ℕ) → State → ℕ
raised_at s x f t = cond (same_state t s) (max (f t) x) (f t)

abbrev pub sunk_at : State → ℕ → (State → ℕ) → State → ℕ
sunk_at s x f t = cond (same_state t s) (min (f t) x) (f t)

abbrev pub policy_of : (State → ℕ) → State → Option ℕ
policy_of upper s = act_of (upper s)

pub record IsSupported (g : Ground) (upper : State → ℕ) (s : State) (word : ℕ) : Type 0 where
  pub at_goal : (ground_process g).goal s ≡ true → word ≡ goal_word
  pub follows :
      IsUpperFrom (ground_process g) (λ t. value_of (upper t)) s (act_of word) (value_of word)
