-- Intervals that are read together with a rule.
--     with_value i v             the interval with the greater of its lower bound and v
--     IsSeeded answers g old id s new i
--                                a reading of the interval of the id is noted, and i is it with what the rule answers for s
use Rattle.std.specs.Prelude.{◌≡◌, ℕ, max}
use Rattle.ground_model.specs.Packed.{State}
use Rattle.ground_model.specs.Ground.{Ground}
use Rattle.word_table.specs.Seen.{Knowledge, knowledge}
use Rattle.bound_words.specs.declared.bounds.Interval.{Interval}
use Rattle.bound_words.specs.Intervals.{with_interval, TellsInterval}

abbrev pub with_value : Interval → ℕ → Interval
with_value i value = record { lower = max i.lower value; upper = i.upper; code = i.code }

module _ (answers : State → ℕ → Type 0) (g : Ground) where
  pub record IsSeeded (old : Knowledge) (id : ℕ) (s : State) (new : Knowledge) (i : Interval) : Type 0 where
    pub read : Interval
    pub seen : new ≡ knowledge old.table (with_interval old.view id read)
    pub told : TellsInterval g old.view id read
    pub value : ℕ
    pub answered : answers s value
    pub greater : i ≡ with_value read value
