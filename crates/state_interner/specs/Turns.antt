-- What the parts of a look-up tell.
--     with_words ns v            v with more words of states
--     with_draft ds v            v with another draft
--     NotesWords old new         nothing but words of states is noted
--     WritesDraft old new        nothing but words of the spare's state is written
--     Differs v id s             a word of the id's state is another than that of s
--     CompareTells s id turn v   what a comparison of the id's state with s tells
--     TurnTells free s b turn v  what a bucket of the run of s tells; free is what it tells where the state has no id
--     IsEnd v w                  all ids were found given out, there is no spare, and no state was learnt since v
--     SpareTells v spare w       what taking a spare tells
use Rattle.std.specs.Prelude.{◌≡◌, ◌≢◌, ℕ, Option, Some, None, List, ◌++◌, get_or, IsTrue}
use Rattle.ground_model.specs.Packed.{State}
use Rattle.word_table.specs.declared.view.notes.StateWord.{StateWord}
use Rattle.word_table.specs.declared.view.notes.Written.{Written}
use Rattle.word_table.specs.declared.view.notes.Look.TheVariants.{End}
use Rattle.word_table.specs.declared.view.View.{View}
use Rattle.word_table.specs.view.Views.{has_word, has_state, IsOther}
use Rattle.word_table.specs.rule.Told.{HasRoom}
use Rattle.word_table.specs.Seen.{Knowledge, knowledge}
use Rattle.state_interner.specs.declared.turn.Turn.{Turn}
use Rattle.state_interner.specs.declared.turn.Turn.TheVariants.{Own, Other, Free}
use Rattle.state_interner.specs.Interned.{HasLooked, HasOwn}

abbrev pub with_words : List StateWord → View → View
with_words ns v = record v { words = ns ++ v.words }

abbrev pub with_draft : List Written → View → View
with_draft ds v = record v { draft = ds }

abbrev pub NotesWords : Knowledge → Knowledge → Type 0
NotesWords old new =
    (ns : List StateWord) × (new ≡ knowledge old.table (with_words ns old.view))

abbrev pub WritesDraft : Knowledge → Knowledge → Type 0
WritesDraft old new =
    (ds : List Written) × (new ≡ knowledge old.table (with_draft ds old.view))

pub record Differs (v : View) (id : ℕ) (s : State) : Type 0 where
  pub place : ℕ
  pub word : ℕ
  pub noted : IsTrue (has_word v.words id place word)
  pub differs : word ≢ get_or s place 0

abbrev pub CompareTells : State → ℕ → Turn → View → Type 0
CompareTells s id (Own i) v = (i ≡ id) × IsTrue (has_state v id s)
CompareTells s id Other v = Differs v id s
CompareTells s id Free v = ⊥

abbrev pub TurnTells : Type 0 → State → ℕ → Turn → View → Type 0
TurnTells free s bucket (Own id) v = HasOwn v s id
TurnTells free s bucket Other v = IsOther v bucket s × HasRoom v
TurnTells free s bucket Free v = free

pub record IsEnd (v w : View) : Type 0 where
  pub end : HasLooked v w End
  pub count : w.count ≡ w.layout.ids
  pub spare : w.spare ≡ None
  pub words : w.words ≡ v.words

abbrev pub SpareTells : View → Option ℕ → View → Type 0
SpareTells v (Some id) w = w.spare ≡ Some id
SpareTells v None w = IsEnd v w
