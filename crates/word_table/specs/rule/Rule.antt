-- The one rule: the words and all views show a sound core.
--     ShowsNumbers g l ws c id   the core's numbers of a published id's state are those of the id: its upper word is the smaller
--                                of the word and the first word of the state
--     ShowsWords g l ws c        the core's ids, states and numbers are those of the words
--     IsHeld, IsStateWord, IsBelow, IsAbove
--                                what a view noted stands there, or is no narrower; and the worker's sight has seen it
--     IsShownBy g l ws w v       the worker's sight w has seen at least what the view notes, and holds its spare
--     Shows g l s c              the words and all views show the core: the seats are its workers
--     total views                the rights of all views
--     holders views              how many views hold a spare
--     taken_below ws n           how many of the first n buckets are taken
--     AreRights l most s         the rights of all views are those that the table was made with, and each id given out stands in a
--                                bucket or is held as a spare
--     IsTable g l                the problem, the layout, and states as wide as the problem's
--     Holds g l most s           the rule
use Rattle.std.specs.Prelude.{◌≡◌, ◌≢◌, ◌⊎◌, ℕ, suc, zero, ◌+◌, ◌<◌, ◌≤◌, min, true, cond, nat_eq}
use Rattle.std.specs.Prelude.{Option, Some, None, List, [], ◌∷◌, length, All}
use mathlib.Core.Option.{some}
use lib.ListN.{get_elem?}
use Rattle.ground_model.specs.Packed.{State}
use Rattle.ground_model.specs.Ground.{Ground}
use Rattle.ground_model.specs.Steps.{ground_process}
use Rattle.ground_model.specs.Invariant.{IsGroundProblem}
use Rattle.bound_core.specs.Numbers.{first_word, goal_word, quit_word}
use Rattle.bound_core.specs.Core.{Sight, Core, sight_at, width}
use Rattle.bound_core.specs.Sound.{Sound}
use Rattle.word_table.specs.declared.layout.Layout.{Layout}
use Rattle.word_table.specs.layout.Places.{IsLayout, state_at}
use Rattle.word_table.specs.declared.view.notes.Number.{Number}
use Rattle.word_table.specs.declared.view.notes.StateWord.{StateWord}
use Rattle.word_table.specs.declared.view.notes.Held.{Held}
use Rattle.word_table.specs.declared.view.View.{View}
use Rattle.word_table.specs.view.Views.{written_at}
use Rattle.word_table.specs.rule.Words.{Table, word, given_in, held_in, state_in, lower_in, upper_in}
use Rattle.word_table.specs.rule.Words.{IsPublished, AreWords}

-- ---- the core

module _ (g : Ground) (l : Layout) where
  pub record ShowsNumbers (ws : List ℕ) (c : Core) (id : ℕ) : Type 0 where
    pub lower : c.lower (state_in l ws id) ≡ lower_in l ws id
    pub upper : c.upper (state_in l ws id)
        ≡ min (first_word g (state_in l ws id)) (upper_in l ws id)
    pub within_quit : upper_in l ws id ≤ quit_word g.penalty
    pub at_goal : (ground_process g).goal (state_in l ws id) ≡ true
        → (upper_in l ws id ≡ quit_word g.penalty) ⊎ (upper_in l ws id ≡ goal_word)

  pub record ShowsWords (ws : List ℕ) (c : Core) : Type 0 where
    pub given : c.given ≡ given_in ws
    pub published : (id : ℕ) → IsPublished l ws id → c.state_of id ≡ Some (state_in l ws id)
    pub in_bucket : (id : ℕ) (s : State) → c.state_of id ≡ Some s → IsPublished l ws id
    pub numbers : (id : ℕ) → IsPublished l ws id → ShowsNumbers ws c id
    pub others : (s : State) → ((id : ℕ) → IsPublished l ws id → state_in l ws id ≢ s)
        → (c.lower s ≡ 0) × (c.upper s ≡ first_word g s)

  -- ---- views

  pub record IsHeld (ws : List ℕ) (n : Held) : Type 0 where
    pub bucket : n.bucket < l.buckets
    pub here : held_in ws n.bucket ≡ n.id + 1

  pub record IsStateWord (ws : List ℕ) (n : StateWord) : Type 0 where
    pub published : IsPublished l ws n.id
    pub place : n.place < l.width
    pub here : word ws (state_at l n.id n.place) ≡ n.word

  pub record IsBelow (ws : List ℕ) (low : State → ℕ) (n : Number) : Type 0 where
    pub published : IsPublished l ws n.id
    pub within : n.number ≤ lower_in l ws n.id
    pub seen : n.number ≤ low (state_in l ws n.id)

  pub record IsAbove (ws : List ℕ) (high : State → ℕ) (n : Number) : Type 0 where
    pub published : IsPublished l ws n.id
    pub within : upper_in l ws n.id ≤ n.number
    pub seen : high (state_in l ws n.id) ≤ n.number

  pub record IsDraft (ws : List ℕ) (spare : Option ℕ) (i x : ℕ) : Type 0 where
    pub place : i < l.width
    pub here : (id : ℕ) → spare ≡ Some id → word ws (state_at l id i) ≡ x

  pub record IsShownBy (ws : List ℕ) (w : Sight) (v : View) : Type 0 where
    pub live : v.live ≡ true → w.live ≡ true
    pub first : (s : State) → w.upper s ≤ first_word g s
    pub count : v.count ≤ given_in ws
    pub spare : w.spare ≡ v.spare
    pub right : (id : ℕ) → v.spare ≡ Some id → 0 < v.rights
    pub draft : (place x : ℕ) → written_at v.draft place ≡ Some x
        → (w.draft place ≡ Some x) × IsDraft ws v.spare place x
    pub known : All (λ id. w.knows id ≡ true) v.known
    pub held : All (IsHeld ws) v.held
    pub words : All (IsStateWord ws) v.words
    pub lower : All (IsBelow ws w.lower) v.lower
    pub upper : All (IsAbove ws w.upper) v.upper

  pub record Shows (s : Table) (c : Core) : Type 0 where
    pub words : ShowsWords s.words c
    pub count : length c.workers ≡ length s.views
    pub views : (k : ℕ) (v : View) → get_elem? s.views k ≡ some v
        → IsShownBy s.words (sight_at g c k) v

-- ---- rights

abbrev pub total : List View → ℕ
total [] = 0
total (v ∷ vs) = v.rights + total vs

abbrev pub one_if_some : Option ℕ → ℕ
one_if_some None = 0
one_if_some (Some id) = 1

abbrev pub holders : List View → ℕ
holders [] = 0
holders (v ∷ vs) = one_if_some v.spare + holders vs

abbrev pub taken_below : List ℕ → ℕ → ℕ
taken_below ws zero = 0
taken_below ws (suc n) = taken_below ws n + cond (nat_eq (held_in ws n) 0) 0 1

pub record AreRights (l : Layout) (most : ℕ) (s : Table) : Type 0 where
  pub total : total s.views ≡ most
  pub balance : given_in s.words ≡ taken_below s.words l.buckets + holders s.views

-- ---- the rule

pub record IsTable (g : Ground) (l : Layout) : Type 0 where
  pub problem : IsGroundProblem g
  pub layout : IsLayout l
  pub width : l.width ≡ width g

pub record Holds (g : Ground) (l : Layout) (most : ℕ) (s : Table) : Type 0 where
  pub table : IsTable g l
  pub words : AreWords g l s.words
  pub rights : AreRights l most s
  pub core : (c : Core) × Sound g c × Shows g l s c
