-- The laws of views, as statements.
--     HasMore v w                w has noted all that v has, of the same table
--     IsLater v w                w knows and has what v did, and has seen no wider numbers
--     SeenLowerIsGreatest        what is seen of a state is the greatest number noted of an id that the view has with it
--     SeenUpperIsLeast           and the least word, which is at most the first one
--     RaisedIsSeen, SunkIsSeen   a number that is noted of an id is seen at each state that the view has it with
--     MoreIsLater                a view that has noted more is later
--     LaterIsReflexive, LaterIsTransitive
--     NotedIsMore                each kind of step notes more
--     UnitedIsMore               and so does a join, for both views
--     GivenIsHad                 the first view has the states that a table is made with
--     DraftIsHad                 who publishes a state has it
use Rattle.std.specs.Prelude.{◌≡◌, ℕ, ◌≤◌, IsTrue, List, Contains, length}
use Rattle.std.specs.Prelude.{Some}
use Rattle.std.specs.List.{slice_get}
use Rattle.ground_model.specs.Packed.{State}
use Rattle.ground_model.specs.Ground.{Ground}
use Rattle.bound_core.specs.Numbers.{first_word}
use Rattle.word_table.specs.declared.layout.Layout.{Layout}
use Rattle.word_table.specs.declared.view.notes.Number.{Number}
use Rattle.word_table.specs.declared.view.notes.Held.{Held}
use Rattle.word_table.specs.declared.view.View.{View}
use Rattle.word_table.specs.view.Views.{knows, has_word, has_state, drafted, seen_lower, seen_upper}
use Rattle.word_table.specs.view.Views.{noted_lower, noted_upper, IsWritten}
use Rattle.word_table.specs.view.Steps.{first_view, united, with_lower_load, with_upper_load, with_lower}
use Rattle.word_table.specs.view.Steps.{with_upper, with_count, with_spare, with_written, with_held}
use Rattle.word_table.specs.view.Steps.{with_empty, with_state_word, with_published, without_rights, richer}

pub record HasMore (v w : View) : Type 0 where
  pub problem : w.problem ≡ v.problem
  pub layout : w.layout ≡ v.layout
  pub known : (id : ℕ) → knows v id → knows w id
  pub held : (n : Held) → Contains v.held n → Contains w.held n
  pub words : (id place x : ℕ) → IsTrue (has_word v.words id place x)
      → IsTrue (has_word w.words id place x)
  pub lower : (n : Number) → Contains v.lower n → Contains w.lower n
  pub upper : (n : Number) → Contains v.upper n → Contains w.upper n

pub record IsLater (v w : View) : Type 0 where
  pub known : (id : ℕ) → knows v id → knows w id
  pub states : (id : ℕ) (s : State) → IsTrue (has_state v id s) → IsTrue (has_state w id s)
  pub lower : (s : State) → seen_lower v s ≤ seen_lower w s
  pub upper : (s : State) → seen_upper w s ≤ seen_upper v s
  pub noted_lower : (id : ℕ) → noted_lower v id ≤ noted_lower w id
  pub noted_upper : (id : ℕ) → noted_upper w id ≤ noted_upper v id

abbrev pub SeenLowerIsGreatest : Type 0
SeenLowerIsGreatest = (v : View) (s : State) (most : ℕ)
    → ((n : Number) → Contains v.lower n → IsTrue (has_state v n.id s) → n.number ≤ most)
    → seen_lower v s ≤ most

abbrev pub SeenUpperIsLeast : Type 0
SeenUpperIsLeast = (v : View) (s : State) (least : ℕ) → least ≤ first_word v.problem s
    → ((n : Number) → Contains v.upper n → IsTrue (has_state v n.id s) → least ≤ n.number)
    → least ≤ seen_upper v s

abbrev pub RaisedIsSeen : Type 0
RaisedIsSeen = (v : View) (n : Number) (s : State) → Contains v.lower n
    → IsTrue (has_state v n.id s) → n.number ≤ seen_lower v s

abbrev pub SunkIsSeen : Type 0
SunkIsSeen = (v : View) (n : Number) (s : State) → Contains v.upper n
    → IsTrue (has_state v n.id s) → seen_upper v s ≤ n.number

abbrev pub MoreIsLater : Type 0
MoreIsLater = (v w : View) → HasMore v w → IsLater v w

abbrev pub LaterIsReflexive : Type 0
LaterIsReflexive = (v : View) → IsLater v v

abbrev pub LaterIsTransitive : Type 0
LaterIsTransitive = (u v w : View) → IsLater u v → IsLater v w → IsLater u w

pub record NotesMore (v : View) : Type 0 where
  pub rights : HasMore v (without_rights v)
  pub richer : (w : View) → HasMore v (richer v w)
  pub lower_load : (id n : ℕ) → HasMore v (with_lower_load v id n)
  pub upper_load : (id word : ℕ) → HasMore v (with_upper_load v id word)
  pub lower : (id n : ℕ) → HasMore v (with_lower v id n)
  pub upper : (id word : ℕ) → HasMore v (with_upper v id word)
  pub count : (n : ℕ) → HasMore v (with_count v n)
  pub spare : (id : ℕ) → HasMore v (with_spare v id)
  pub written : (place x : ℕ) → HasMore v (with_written v place x)
  pub held : (bucket id : ℕ) → HasMore v (with_held v bucket id)
  pub empty : (bucket : ℕ) → HasMore v (with_empty v bucket)
  pub state_word : (id place x : ℕ) → HasMore v (with_state_word v id place x)
  pub published : (bucket : ℕ) → HasMore v (with_published v bucket)

abbrev pub NotedIsMore : Type 0
NotedIsMore = (v : View) → NotesMore v

abbrev pub UnitedIsMore : Type 0
UnitedIsMore = (v w : View) → w.problem ≡ v.problem → w.layout ≡ v.layout
    → HasMore v (united v w) × HasMore w (united v w)

abbrev pub GivenIsHad : Type 0
GivenIsHad = (g : Ground) (l : Layout) (rights : ℕ) (states : List State) (id : ℕ) (s : State)
    → slice_get states id ≡ Some s → length s ≡ l.width
    → knows (first_view g l rights states) id
    × IsTrue (has_state (first_view g l rights states) id s)

abbrev pub DraftIsHad : Type 0
DraftIsHad = (v : View) (s : State) (id bucket : ℕ) → IsWritten v s → v.spare ≡ Some id
    → (drafted v ≡ s) × knows (with_published v bucket) id
    × IsTrue (has_state (with_published v bucket) id s)
