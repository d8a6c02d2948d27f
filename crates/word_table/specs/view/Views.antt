-- What a view knows, has and has seen.
--     number, state_word, held, written
--                                a note of these parts
--     knows v id                 it knows the id
--     has_word v id place x      it has noted that the word x stands at this place of the state of the id
--     has_state v id s           it has noted each word of the state of the id: it found, published or was given them
--     written_at ds place        the word that was written last at this place, if there is one
--     drafted v                  the state that it has written of its spare, a word that is not written counting as 0
--     noted_lower v id           the greatest number that it has noted as the id's lower number, 0 where it noted none
--     noted_upper v id           the least number that it has noted as the id's upper word, the penalty and giving up where it
--                                noted none
--     seen_lower v s             the greatest lower number that it has seen of the state, by ids that it has with it; 0 where
--                                there is none
--     seen_upper v s             the least upper word likewise, the first word of the state where there is none
--     CanRaise v id n            the lower number of the id may be raised to n: n follows from what the view has seen
--     CanSink v id word          the upper word of the id may be sunk to the word: what the view has seen supports it
--     IsWritten v s              s is written whole
--     IsOther v b s              the bucket holds an id of another state, by what the view has noted
--     IsClear v s b              the bucket comes in the run of s behind buckets of other states alone
--     IsReached v s              s is a successor of the state of an id that the view knows with it
--     CanPublish v s b           the spare may be published with the state s in the bucket b
use Rattle.std.specs.Prelude.{◌≡◌, ◌≢◌, ℕ, ◌+◌, ◌<◌, min, max, Bool, true, ◌&&◌, cond, nat_eq, IsTrue}
use Rattle.std.specs.Prelude.{Option, Some, None, IsSome, List, [], ◌∷◌, length, map, get_or, Contains}
use Rattle.std.specs.Option.{unwrap_or}
use Rattle.std.specs.List.{list_any, range_with_len}
use Rattle.decision_process.specs.Following.{IsLowerFrom}
use Rattle.decision_process.specs.Levels.{successors}
use Rattle.ground_model.specs.Packed.{State}
use Rattle.ground_model.specs.Steps.{ground_process}
use Rattle.ground_step.specs.Hash.{hash_of}
use Rattle.bound_core.specs.Numbers.{first_word, quit_word, IsSupported}
use Rattle.word_table.specs.layout.Places.{turn}
use Rattle.word_table.specs.declared.view.notes.Number.{Number}
use Rattle.word_table.specs.declared.view.notes.StateWord.{StateWord}
use Rattle.word_table.specs.declared.view.notes.Held.{Held}
use Rattle.word_table.specs.declared.view.notes.Written.{Written}
use Rattle.word_table.specs.declared.view.View.{View}

-- ---- notes

abbrev pub number : ℕ → ℕ → Number
number id x = record { id = id; number = x }

abbrev pub state_word : ℕ → ℕ → ℕ → StateWord
state_word id place x = record { id = id; place = place; word = x }

abbrev pub held : ℕ → ℕ → Held
held bucket id = record { bucket = bucket; id = id }

abbrev pub written : ℕ → ℕ → Written
written place x = record { place = place; word = x }

-- ---- states

abbrev pub knows : View → ℕ → Type 0
knows v id = Contains v.known id

abbrev pub is_word : ℕ → ℕ → ℕ → StateWord → Bool
is_word id place x n = nat_eq n.id id && nat_eq n.place place && nat_eq n.word x

abbrev pub has_word : List StateWord → ℕ → ℕ → ℕ → Bool
has_word ns id place x = list_any (is_word id place x) ns

-- the words of a state, from a place on
abbrev pub has_words : List StateWord → ℕ → ℕ → State → Bool
has_words ns id place [] = true
has_words ns id place (x ∷ xs) = has_word ns id place x && has_words ns id (place + 1) xs

abbrev pub has_state : View → ℕ → State → Bool
has_state v id s = nat_eq (length s) v.layout.width && has_words v.words id 0 s

abbrev pub written_at : List Written → ℕ → Option ℕ
written_at [] place = None
written_at (d ∷ ds) place = cond (nat_eq place d.place) (Some d.word) (written_at ds place)

abbrev pub drafted : View → State
drafted v = map (λ place. unwrap_or (written_at v.draft place) 0) (range_with_len 0 v.layout.width)

-- ---- numbers

abbrev pub greatest_of : (ℕ → Bool) → List Number → ℕ
greatest_of of [] = 0
greatest_of of (n ∷ ns) = cond (of n.id) (max (greatest_of of ns) n.number) (greatest_of of ns)

abbrev pub least_of : (ℕ → Bool) → ℕ → List Number → ℕ
least_of of first [] = first
least_of of first (n ∷ ns) =
    cond (of n.id) (min (least_of of first ns) n.number) (least_of of first ns)

abbrev pub noted_lower : View → ℕ → ℕ
noted_lower v id = greatest_of (λ i. nat_eq i id) v.lower

abbrev pub noted_upper : View → ℕ → ℕ
noted_upper v id = least_of (λ i. nat_eq i id) (quit_word v.problem.penalty) v.upper

abbrev pub seen_lower : View → State → ℕ
seen_lower v s = greatest_of (λ id. has_state v id s) v.lower

abbrev pub seen_upper : View → State → ℕ
seen_upper v s = least_of (λ id. has_state v id s) (first_word v.problem s) v.upper

-- ---- conditions

abbrev pub CanRaise : View → ℕ → ℕ → Type 0
CanRaise v id n = knows v id × ((s : State) × IsTrue (has_state v id s)
    × IsLowerFrom (ground_process v.problem) (seen_lower v) s n)

abbrev pub CanSink : View → ℕ → ℕ → Type 0
CanSink v id word = knows v id × ((s : State) × IsTrue (has_state v id s)
    × IsSupported v.problem (seen_upper v) s word)

pub record IsWritten (v : View) (s : State) : Type 0 where
  pub whole : length s ≡ v.layout.width
  pub words : (place : ℕ) → place < length s → written_at v.draft place ≡ Some (get_or s place 0)

pub record IsOther (v : View) (bucket : ℕ) (s : State) : Type 0 where
  pub id : ℕ
  pub place : ℕ
  pub word : ℕ
  pub found : Contains v.held (held bucket id)
  pub noted : IsTrue (has_word v.words id place word)
  pub differs : word ≢ get_or s place 0

pub record IsClear (v : View) (s : State) (bucket : ℕ) : Type 0 where
  pub turns : ℕ
  pub here : turn v.layout (hash_of s) turns ≡ bucket
  pub others : (m : ℕ) → m < turns → IsOther v (turn v.layout (hash_of s) m) s

pub record IsReached (v : View) (s : State) : Type 0 where
  pub id : ℕ
  pub from : State
  pub known : knows v id
  pub has : IsTrue (has_state v id from)
  pub next : Contains (successors (ground_process v.problem) from) s

pub record CanPublish (v : View) (s : State) (bucket : ℕ) : Type 0 where
  pub spare : IsSome v.spare
  pub written : IsWritten v s
  pub clear : IsClear v s bucket
  pub reached : IsReached v s
