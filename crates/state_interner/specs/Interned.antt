-- What a look-up of a state tells its pass.
--     AddsLooks v w              w has made the looks of v, and maybe more
--     HasLooked v w look         this is one of the looks that w has made since v
--     GoesOn b old new           a pass of the same words that has noted more. It has the same rights, and has loaded no number
--     HasOwn v s id              the view knows the id and has it with the state
--     IsIdOf v s id              so it is, and at a goal the view has noted the word of goals
--     IsMissing v s w            since v a bucket of the run of s was found empty behind buckets of other states, and w has no id with s
--     IsFull v s w               nor is there a spare, and all ids were found given out
--     InternTells v s r w        what interning s tells
--     HaveOneEach v w            ids that two views have with one state are one id
use Rattle.std.specs.Prelude.{◌≡◌, ℕ, ◌≤◌, true, None, List, ◌++◌, Contains, IsTrue}
use Rattle.ground_model.specs.Packed.{State}
use Rattle.ground_model.specs.Steps.{ground_process}
use Rattle.bound_core.specs.Numbers.{goal_word}
use Rattle.word_table.specs.declared.view.notes.Look.{Look}
use Rattle.word_table.specs.declared.view.notes.Look.TheVariants.{End, Empty}
use Rattle.word_table.specs.declared.view.View.{View}
use Rattle.word_table.specs.view.Views.{knows, has_state, noted_upper, IsClear}
use Rattle.word_table.specs.view.Laws.{HasMore}
use Rattle.word_table.specs.Seen.{Board, Knowledge, IsOf}
use Rattle.state_interner.specs.declared.interned.Interned.{Interned}
use Rattle.state_interner.specs.declared.interned.Interned.TheVariants.{Id, Full}

abbrev pub AddsLooks : View → View → Type 0
AddsLooks v w = (added : List Look) × (w.looks ≡ added ++ v.looks)

abbrev pub HasLooked : View → View → Look → Type 0
HasLooked v w look = (added : List Look) × (w.looks ≡ added ++ v.looks) × Contains added look

pub record GoesOn (b : Board) (old new : Knowledge) : Type 0 where
  pub here : IsOf b new
  pub noted : HasMore old.view new.view
  pub rights : new.view.rights ≡ old.view.rights
  pub count : old.view.count ≤ new.view.count
  pub loads : new.view.loads ≡ old.view.loads
  pub looks : AddsLooks old.view new.view

pub record HasOwn (v : View) (s : State) (id : ℕ) : Type 0 where
  pub known : knows v id
  pub state : IsTrue (has_state v id s)

pub record IsIdOf (v : View) (s : State) (id : ℕ) : Type 0 where
  pub known : knows v id
  pub state : IsTrue (has_state v id s)
  pub at_goal : (ground_process v.problem).goal s ≡ true → noted_upper v id ≤ goal_word

pub record IsMissing (v : View) (s : State) (w : View) : Type 0 where
  pub bucket : ℕ
  pub empty : HasLooked v w (Empty bucket)
  pub clear : IsClear w s bucket
  pub none : (id : ℕ) → IsTrue (has_state w id s) → ⊥

pub record IsFull (v : View) (s : State) (w : View) : Type 0 where
  pub missing : IsMissing v s w
  pub end : HasLooked v w End
  pub count : w.count ≡ w.layout.ids
  pub spare : w.spare ≡ None

abbrev pub InternTells : View → State → Interned → View → Type 0
InternTells v s (Id id) w = IsIdOf w s id
InternTells v s Full w = IsFull v s w

abbrev pub HaveOneEach : View → View → Type 0
HaveOneEach v w = (i j : ℕ) (s : State) → IsTrue (has_state v i s) → IsTrue (has_state w j s)
    → i ≡ j
