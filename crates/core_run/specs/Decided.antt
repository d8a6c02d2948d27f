-- Where events are allowed, as tests on rows and workers. `proofs/Allowance.antt` shows that they decide `Allowed`.
--     live_in workers k            the worker, where it works
--     knower_in workers k id       the worker, where it works and knows the id
--     can_raise g v s value        the value follows from the lower numbers v
--     can_sink g v s word          the word is supported by the upper values v
--     leads_to g s t               t is a successor of s
--     is_reached g ids w t         t is a successor of a state that w knows
--     is_taken ids t               a published id has the state t
--     can_publish g ids w          the spare of w may be published
--     allows g b e                 the event may come
use Rattle.std.specs.Prelude.{◌*◌, ℕ, Bool, false, cond, not, ◌&&◌, ◌||◌, nat_eq, nat_lt, nat_le}
use Rattle.std.specs.Prelude.{Option, Some, None, is_some, is_none, List, length}
use Rattle.std.specs.List.{slice_get, list_any, list_all}
use Rattle.fixed_round.specs.Words.{value_of, code_of}
use Rattle.ground_model.specs.declared.action.Choice.{Choice}
use Rattle.ground_model.specs.declared.action.GroundAction.{GroundAction}
use Rattle.ground_model.specs.Packed.{State, has_bit, same_state, is_inside}
use Rattle.ground_model.specs.Truth.{truth}
use Rattle.ground_model.specs.Choices.{next_state}
use Rattle.ground_model.specs.Ground.{Ground}
use Rattle.ground_model.specs.Steps.{own_action_value}
use Rattle.bound_core.specs.declared.codes.TheConstants.{GIVE_UP, MOST_IDS}
use Rattle.bound_core.specs.declared.event.Event.{Event}
use Rattle.bound_core.specs.declared.event.Event.TheVariants.{SeeLower, SeeUpper, Raise, Sink, Claim, Write}
use Rattle.bound_core.specs.declared.event.Event.TheVariants.{Publish, Look, Split, Join}
use Rattle.bound_core.specs.declared.id_row.IdRow.{IdRow}
use Rattle.bound_core.specs.declared.worker.Seen.{Seen}
use Rattle.bound_core.specs.declared.worker.Worker.{Worker}
use Rattle.bound_core.specs.Numbers.{goal_word, first_word}
use Rattle.bound_core.specs.Core.{width}
use Rattle.bound_core.specs.Shown.{state_in, published_state, is_of, seen_lower_in, seen_upper_in}
use Rattle.core_run.specs.declared.board.Board.{Board}
use Rattle.core_run.specs.Merged.{knows_in}

-- ---- workers

abbrev pub if_live : Option Worker → Option Worker
if_live None = None
if_live (Some w) = cond w.live (Some w) None

abbrev pub live_in : List Worker → ℕ → Option Worker
live_in workers k = if_live (slice_get workers k)

abbrev pub if_knows : ℕ → Option Worker → Option Worker
if_knows id None = None
if_knows id (Some w) = cond (knows_in w.seen id) (Some w) None

abbrev pub knower_in : List Worker → ℕ → ℕ → Option Worker
knower_in workers k id = if_knows id (live_in workers k)

-- ---- numbers

module _ (g : Ground) where
  abbrev pub upper_values : List IdRow → List Seen → State → ℕ
  upper_values ids seen s = value_of (seen_upper_in ids (first_word g s) seen s)

  abbrev pub is_open : GroundAction → State → Bool
  is_open a s = truth (has_bit s) a.condition

  abbrev pub stays_below : (State → ℕ) → State → ℕ → GroundAction → Bool
  stays_below v s value a = not (is_open a s) || nat_le (value * a.den) (own_action_value v a s)

  abbrev pub can_raise : (State → ℕ) → State → ℕ → Bool
  can_raise v s value =
      cond (truth (has_bit s) g.goal) (nat_eq value 0)
      (nat_le value g.penalty && list_all (stays_below v s value) g.actions)

  abbrev pub covers_action : (State → ℕ) → State → ℕ → Option GroundAction → Bool
  covers_action v s value None = false
  covers_action v s value (Some a) = is_open a s && nat_le (own_action_value v a s) (value * a.den)

  abbrev pub can_sink : (State → ℕ) → State → ℕ → Bool
  can_sink v s word =
      cond (truth (has_bit s) g.goal) (nat_eq word goal_word)
      (cond (nat_eq (code_of word) GIVE_UP) (nat_le g.penalty (value_of word))
      (covers_action v s (value_of word) (slice_get g.actions (code_of word))))

  -- ---- publications

  abbrev pub leads_by : State → State → GroundAction → Bool
  leads_by s t a = list_any (λ (c : Choice). same_state (next_state s c) t) a.choices

  abbrev pub has_next : State → State → GroundAction → Bool
  has_next s t a = is_open a s && leads_by s t a

  abbrev pub leads_to : State → State → Bool
  leads_to s t = cond (truth (has_bit s) g.goal) false (list_any (has_next s t) g.actions)

  abbrev pub leads_from : State → Option State → Bool
  leads_from t None = false
  leads_from t (Some s) = leads_to s t

  abbrev pub is_reached : List IdRow → List Seen → State → Bool
  is_reached ids seen t =
      list_any (λ (x : Seen). leads_from t (published_state (slice_get ids x.id))) seen

  abbrev pub is_taken : List IdRow → State → Bool
  is_taken ids t = list_any (λ (row : IdRow). is_of (Some row) t) ids

  abbrev pub is_whole : IdRow → Bool
  is_whole row = list_all (λ (word : Option ℕ). is_some word) row.words

  abbrev pub publishes_row : List IdRow → List Seen → Option IdRow → Bool
  publishes_row ids seen None = false
  publishes_row ids seen (Some row) =
      (is_whole row && not (is_taken ids (state_in row)))
      && (is_inside (length g.atoms) (state_in row) && is_reached ids seen (state_in row))

  abbrev pub publishes_spare : List IdRow → List Seen → Option ℕ → Bool
  publishes_spare ids seen None = false
  publishes_spare ids seen (Some id) = publishes_row ids seen (slice_get ids id)

  -- ---- events

  abbrev pub raises_at : (State → ℕ) → ℕ → Option State → Bool
  raises_at v value None = false
  raises_at v value (Some s) = can_raise v s value

  abbrev pub raises : List IdRow → ℕ → ℕ → Option Worker → Bool
  raises ids id value None = false
  raises ids id value (Some w) =
      raises_at (seen_lower_in ids w.seen) value (published_state (slice_get ids id))

  abbrev pub sinks_at : (State → ℕ) → ℕ → Option State → Bool
  sinks_at v word None = false
  sinks_at v word (Some s) = can_sink v s word

  abbrev pub sinks : List IdRow → ℕ → ℕ → Option Worker → Bool
  sinks ids id word None = false
  sinks ids id word (Some w) =
      sinks_at (upper_values ids w.seen) word (published_state (slice_get ids id))

  abbrev pub claims : ℕ → Option Worker → Bool
  claims given None = false
  claims given (Some w) = is_none w.spare && nat_lt given MOST_IDS

  abbrev pub writes : ℕ → Option Worker → Bool
  writes place None = false
  writes place (Some w) = is_some w.spare && nat_lt place (width g)

  abbrev pub publishes : List IdRow → Option Worker → Bool
  publishes ids None = false
  publishes ids (Some w) = publishes_spare ids w.seen w.spare

  abbrev pub is_without_spare : Option Worker → Bool
  is_without_spare None = false
  is_without_spare (Some w) = is_none w.spare

  abbrev pub allows : Board → Event → Bool
  allows b (SeeLower k id) = is_some (knower_in b.workers.items k id)
  allows b (SeeUpper k id) = is_some (knower_in b.workers.items k id)
  allows b (Raise k id value) = raises b.ids.items id value (knower_in b.workers.items k id)
  allows b (Sink k id word) = sinks b.ids.items id word (knower_in b.workers.items k id)
  allows b (Claim k) = claims (length b.ids.items) (live_in b.workers.items k)
  allows b (Write k place word) = writes place (live_in b.workers.items k)
  allows b (Publish k) = publishes b.ids.items (live_in b.workers.items k)
  allows b (Look k None) = is_some (live_in b.workers.items k)
  allows b (Look k (Some id)) =
      is_some (live_in b.workers.items k) && is_some (published_state (slice_get b.ids.items id))
  allows b (Split k) = is_some (live_in b.workers.items k)
  allows b (Join k other) =
      is_some (live_in b.workers.items k)
      && (not (nat_eq other k) && is_without_spare (live_in b.workers.items other))
