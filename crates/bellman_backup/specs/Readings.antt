-- What a backup reads of the states that may follow.
--     Reading                    the id of a state, if it has one, its lower number and its upper word
--     WasFull v t w              between v and w a look for the state t has found the table full: no id has it, and none is left
--     IsReading g v w t r        what was read of the state t: no wider than what v had seen of it, and no narrower than what w has
--                                seen since. A state that has no id has its first numbers, and then the table was found full
--     IsRead g v w t r           the same by ids alone: no wider than what v had noted of the id, and a state without an id had none in v
--     loads_of r, loads_in rs    the loads that found them, the last one first; a state without an id takes none
use Rattle.std.specs.Prelude.{◌≡◌, ℕ, ◌≤◌, IsTrue, Option, Some, None, List, [], ◌∷◌, ◌++◌}
use Rattle.fixed_round.specs.Words.{value_of}
use Rattle.ground_model.specs.Packed.{State}
use Rattle.ground_model.specs.Ground.{Ground}
use Rattle.bound_core.specs.Numbers.{first_word}
use Rattle.word_table.specs.declared.view.notes.Load.{Load}
use Rattle.word_table.specs.declared.view.notes.Load.TheVariants.{Lower, Upper}
use Rattle.word_table.specs.declared.view.View.{View}
use Rattle.word_table.specs.view.Views.{knows, has_state, seen_lower, seen_upper, noted_lower, noted_upper}
use Rattle.word_table.specs.view.Laws.{HasMore}
use Rattle.state_interner.specs.Interned.{AddsLooks, IsFull}

pub record Reading : Type 0 where
  pub id : Option ℕ
  pub lower : ℕ
  pub word : ℕ

pub record WasFull (v : View) (t : State) (w : View) : Type 0 where
  pub before : View
  pub after : View
  pub noted_before : HasMore v before
  pub looks_before : AddsLooks v before
  pub full : IsFull before t after
  pub noted_after : HasMore after w
  pub looks_after : AddsLooks after w

pub record IsReading (g : Ground) (v w : View) (t : State) (r : Reading) : Type 0 where
  pub lower_since : seen_lower v t ≤ r.lower
  pub lower_until : r.lower ≤ seen_lower w t
  pub upper_since : r.word ≤ seen_upper v t
  pub upper_until : seen_upper w t ≤ r.word
  pub ordered : r.lower ≤ value_of r.word
  pub within_quit : value_of r.word ≤ g.penalty
  pub placed : (id : ℕ) → r.id ≡ Some id → knows w id × IsTrue (has_state w id t)
  pub unplaced : r.id ≡ None → (r.lower ≡ 0) × (r.word ≡ first_word g t) × WasFull v t w

pub record IsRead (g : Ground) (v w : View) (t : State) (r : Reading) : Type 0 where
  pub lower_noted : (id : ℕ) → r.id ≡ Some id → noted_lower v id ≤ r.lower
  pub upper_noted : (id : ℕ) → r.id ≡ Some id → r.word ≤ noted_upper v id
  pub lower_until : r.lower ≤ seen_lower w t
  pub upper_until : seen_upper w t ≤ r.word
  pub ordered : r.lower ≤ value_of r.word
  pub within_quit : value_of r.word ≤ g.penalty
  pub within_first : r.word ≤ first_word g t
  pub placed : (id : ℕ) → r.id ≡ Some id → knows w id × IsTrue (has_state w id t)
  pub unplaced : r.id ≡ None → (r.lower ≡ 0) × (r.word ≡ first_word g t) × WasFull v t w
  pub missing : r.id ≡ None → (id : ℕ) → IsTrue (has_state v id t) → ⊥

abbrev pub loads_at : Option ℕ → ℕ → ℕ → List Load
loads_at None lower word = []
loads_at (Some id) lower word = Upper id word ∷ Lower id lower ∷ []

abbrev pub loads_of : Reading → List Load
loads_of r = loads_at r.id r.lower r.word

abbrev pub loads_in : List Reading → List Load
loads_in [] = []
loads_in (r ∷ rs) = loads_in rs ++ loads_of r
