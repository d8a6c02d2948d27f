-- What a reading of an interval notes and tells.
--     word_in i                  the upper word of an interval
--     with_interval v id i       a load of the lower number, and then of the upper word
--     TellsInterval g v id i     the interval is no wider than what the view had noted, its lower bound is at most the upper one, and
--                                it covers the least cost from a state that the view has the id with, with an act that is worth it
use Rattle.std.specs.Prelude.{ℕ, ◌≤◌, IsTrue}
use Rattle.fixed_round.specs.Words.{word_of}
use Rattle.decision_process.specs.Least.{Covers}
use Rattle.ground_model.specs.Packed.{State}
use Rattle.ground_model.specs.Ground.{Ground}
use Rattle.ground_model.specs.Steps.{ground_process}
use Rattle.word_table.specs.declared.view.View.{View}
use Rattle.word_table.specs.view.Views.{has_state, noted_lower, noted_upper}
use Rattle.word_table.specs.view.Steps.{with_lower_load, with_upper_load}
use Rattle.word_table.specs.rule.Told.{IsWorth}
use Rattle.bound_words.specs.declared.bounds.Interval.{Interval}

abbrev pub word_in : Interval → ℕ
word_in i = word_of i.upper i.code

abbrev pub with_interval : View → ℕ → Interval → View
with_interval v id i = with_upper_load (with_lower_load v id i.lower) id (word_in i)

pub record TellsInterval (g : Ground) (v : View) (id : ℕ) (i : Interval) : Type 0 where
  pub lower_narrower : noted_lower v id ≤ i.lower
  pub upper_narrower : word_in i ≤ noted_upper v id
  pub ordered : i.lower ≤ i.upper
  pub within_quit : i.upper ≤ g.penalty
  pub covers : (s : State) → IsTrue (has_state v id s) → Covers (ground_process g) i.lower i.upper s
  pub worth : (s : State) → IsTrue (has_state v id s) → IsWorth g s (word_in i)
