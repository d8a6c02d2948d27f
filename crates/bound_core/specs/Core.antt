-- The core: the bounds that workers share, what each worker knows and has seen, and who holds which id.
-- Bounds are those of states and not of ids: a raise of one id is a raise at its state, and a state without an id has
-- its first bounds. So no bound changes where an id is published.
--     Sight                  what one worker knows and has seen; the id that it holds as a spare, and the words that it has
--                            written of the spare's state
--     Core                   the number of ids given out, the state of each published id, the lower number and the upper
--                            word of each state, and the workers
--     ended g                a worker that another has joined: it knows nothing
--     sight_at g c k         the sight of worker k; one that is not there counts as ended
--     state_at c id          the state of a published id
--     IsLive, Knows          worker k works; and it knows the id
--     IsPublished c id       the id is published
--     width g                the number of words of a state
--     written g w            the state that worker w has written, a word that is not written counting as 0
--     first_core g states    the core in which these states are published, each with its place as its id, and known to
--                            worker 0, all at their first bounds
use Rattle.std.specs.Prelude.{◌≡◌, ℕ, Bool, true, false, nat_lt, Option, None, IsSome, unwrap_or}
use Rattle.std.specs.Prelude.{List, [], ◌∷◌, length, map, get_or}
use Rattle.std.specs.List.{range_with_len, slice_get}
use Rattle.ground_model.specs.Packed.{State, words_for}
use Rattle.ground_model.specs.Ground.{Ground}
use Rattle.bound_core.specs.Numbers.{first_word}

pub record Sight : Type 0 where
  pub live : Bool
  pub knows : ℕ → Bool
  pub lower : State → ℕ
  pub upper : State → ℕ
  pub spare : Option ℕ
  pub draft : ℕ → Option ℕ

pub record Core : Type 0 where
  pub given : ℕ
  pub state_of : ℕ → Option State
  pub lower : State → ℕ
  pub upper : State → ℕ
  pub workers : List Sight

abbrev pub ended : Ground → Sight
ended g = record {
  live = false;
  knows = λ id. false;
  lower = λ s. 0;
  upper = first_word g;
  spare = None;
  draft = λ place. None;
}

abbrev pub sight_at : Ground → Core → ℕ → Sight
sight_at g c k = get_or c.workers k (ended g)

abbrev pub state_at : Core → ℕ → State
state_at c id = unwrap_or (c.state_of id) []

abbrev pub IsLive : Ground → Core → ℕ → Type 0
IsLive g c k = (sight_at g c k).live ≡ true

abbrev pub Knows : Ground → Core → ℕ → ℕ → Type 0
Knows g c k id = IsLive g c k × ((sight_at g c k).knows id ≡ true)

abbrev pub IsPublished : Core → ℕ → Type 0
IsPublished c id = IsSome (c.state_of id)

abbrev pub width : Ground → ℕ
width g = words_for (length g.atoms)

abbrev pub written : Ground → Sight → State
written g w = map (λ place. unwrap_or (w.draft place) 0) (range_with_len 0 (width g))

abbrev pub first_sight : Ground → List State → Sight
first_sight g states = record {
  live = true;
  knows = λ id. nat_lt id (length states);
  lower = λ s. 0;
  upper = first_word g;
  spare = None;
  draft = λ place. None;
}

abbrev pub first_core : Ground → List State → Core
first_core g states = record {
  given = length states;
  state_of = λ id. slice_get states id;
  lower = λ s. 0;
  upper = first_word g;
  workers = first_sight g states ∷ [];
}
