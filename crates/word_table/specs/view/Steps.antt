-- What each kind of step notes in the view of the pass that makes it.
--     first_view g l rights states
--                                the view of the first pass: it knows the states that a table is made with, each by its place
--     without_rights v           the view of a pass that is split off: it knows and has seen the same, and holds no spare
--     with_one_right v           the same with one right
--     less_one_right v           the view that has handed on one right
--     united v w                 it knows what either knew, and has the rights of both
--     richer v w                 it has the rights of both, and nothing else of w
--     spent                      the view of a pass that was joined
--     with_lower_load, with_upper_load
--                                a load of a number
--     with_lower, with_upper     a raise and a sink
--     with_count v n             a look at the count of ids given out, which found n
--     with_spare v id            a claim of the id
--     with_written v place x     a word of the spare's state
--     with_held v b id           a bucket that was found to hold the id
--     with_empty v b             a bucket that was found empty
--     with_state_word v id place x
--                                a word of a state
--     with_published v b         the spare stands in the bucket
use Rattle.std.specs.Prelude.{ℕ, ◌+◌, ◌-◌, max, true, false, cond, nat_eq, Some, None}
use Rattle.std.specs.Prelude.{List, [], ◌∷◌, ◌++◌, length}
use Rattle.std.specs.Option.{unwrap_or}
use Rattle.std.specs.List.{range_with_len}
use Rattle.ground_model.specs.declared.condition.GroundCondition.TheVariants.{True}
use Rattle.ground_model.specs.Packed.{State}
use Rattle.ground_model.specs.Ground.{Ground}
use Rattle.word_table.specs.declared.layout.Layout.{Layout}
use Rattle.word_table.specs.declared.view.notes.StateWord.{StateWord}
use Rattle.word_table.specs.declared.view.notes.Load.TheVariants.{Lower, Upper}
use Rattle.word_table.specs.declared.view.notes.Look.TheVariants.{End, Empty}
use Rattle.word_table.specs.declared.view.View.{View}
use Rattle.word_table.specs.view.Views.{number, state_word, held, written, drafted}

-- the notes of a state's words, from a place on
abbrev pub words_of : ℕ → ℕ → State → List StateWord
words_of id place [] = []
words_of id place (x ∷ xs) = state_word id place x ∷ words_of id (place + 1) xs

-- the notes of states, from an id on
abbrev pub words_of_all : ℕ → List State → List StateWord
words_of_all id [] = []
words_of_all id (s ∷ states) = words_of id 0 s ++ words_of_all (id + 1) states

abbrev pub first_view : Ground → Layout → ℕ → List State → View
first_view g l rights states = record {
  live = true;
  problem = g;
  layout = l;
  count = 0;
  rights = rights;
  spare = None;
  draft = [];
  known = range_with_len 0 (length states);
  held = [];
  words = words_of_all 0 states;
  lower = [];
  upper = [];
  loads = [];
  looks = [];
}

-- a problem without atoms and a table without ids, for views that are spent
abbrev pub no_problem : Ground
no_problem =
    record { atoms = []; penalty = 0; starts = []; start_den = 0; goal = True; actions = [] }

abbrev pub no_layout : Layout
no_layout = record { ids = 0; buckets = 0; width = 0 }

abbrev pub spent : View
spent = record (first_view no_problem no_layout 0 []) { live = false }

-- ---- rights

abbrev pub without_rights : View → View
without_rights v = record v { rights = 0; spare = None; draft = [] }

abbrev pub with_one_right : View → View
with_one_right v = record v { rights = 1; spare = None; draft = [] }

abbrev pub less_one_right : View → View
less_one_right v = record v { rights = v.rights - 1 }

abbrev pub united : View → View → View
united v w = record v {
  count = max v.count w.count;
  rights = v.rights + w.rights;
  known = v.known ++ w.known;
  held = v.held ++ w.held;
  words = v.words ++ w.words;
  lower = v.lower ++ w.lower;
  upper = v.upper ++ w.upper;
}

abbrev pub richer : View → View → View
richer v w = record v { rights = v.rights + w.rights }

-- ---- numbers

abbrev pub with_lower_load : View → ℕ → ℕ → View
with_lower_load v id n =
    record v { lower = number id n ∷ v.lower; loads = Lower id n ∷ v.loads }

abbrev pub with_upper_load : View → ℕ → ℕ → View
with_upper_load v id word =
    record v { upper = number id word ∷ v.upper; loads = Upper id word ∷ v.loads }

abbrev pub with_lower : View → ℕ → ℕ → View
with_lower v id n = record v { lower = number id n ∷ v.lower }

abbrev pub with_upper : View → ℕ → ℕ → View
with_upper v id word = record v { upper = number id word ∷ v.upper }

-- ---- ids

abbrev pub with_count : View → ℕ → View
with_count v n =
    record v { count = n; looks = cond (nat_eq n v.layout.ids) (End ∷ v.looks) v.looks }

abbrev pub with_spare : View → ℕ → View
with_spare v id = record v { count = id + 1; spare = Some id; draft = [] }

abbrev pub with_written : View → ℕ → ℕ → View
with_written v place x = record v { draft = written place x ∷ v.draft }

abbrev pub with_held : View → ℕ → ℕ → View
with_held v bucket id = record v { held = held bucket id ∷ v.held; known = id ∷ v.known }

abbrev pub with_empty : View → ℕ → View
with_empty v bucket = record v { looks = Empty bucket ∷ v.looks }

abbrev pub with_state_word : View → ℕ → ℕ → ℕ → View
with_state_word v id place x = record v { words = state_word id place x ∷ v.words }

abbrev pub with_published : View → ℕ → View
with_published v bucket = let id = unwrap_or v.spare 0 in record v {
  spare = None;
  draft = [];
  known = id ∷ v.known;
  held = held bucket id ∷ v.held;
  words = words_of id 0 (drafted v) ++ v.words;
}
