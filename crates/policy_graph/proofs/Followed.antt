-- The policy of a certificate in the process of a ground problem: what it does in a state, and the starts.
use Rattle.std.proofs.Common.{◌≡◌, ◌≢◌, ℕ, ◌<◌, ◌/◌, Bool, true, false, cond, List, [], ◌∷◌, Option, Some, None, map, length, get_or, refl, sym, ap, subst, ◌∙◌}
use Rattle.std.specs.Prelude.{AllPairs, Contains}
use Rattle.std.specs.List.{slice_get}
use Rattle.std.proofs.lemmas.List.{get_or-map, length-map}
use Rattle.plain_list.proofs.Members.{Contains-nil}
use Rattle.certificate.specs.Content.{Content}
use Rattle.certificate_check.specs.Laws.{act_in}
use Rattle.decision_process.specs.Process.{Outcome, Start}
use Rattle.ground_model.specs.declared.action.Choice.{Choice}
use Rattle.ground_model.specs.declared.action.GroundAction.{GroundAction}
use Rattle.ground_model.specs.declared.start.Start as declared
use Rattle.ground_model.specs.Packed.{State}
use Rattle.ground_model.specs.Choices.{next_state}
use Rattle.ground_model.specs.Ground.{Ground}
use Rattle.ground_model.specs.Invariant.{IsGroundProblem}
use Rattle.ground_model.specs.Steps.{den_of, outcome_of, start_of, step_at, ground_process, ground_starts}
use Rattle.ground_model.proofs.Steps.{outcomes_have_weight, starts_have_weight}
use Rattle.policy_graph.specs.Reached.{followed, outcomes_by}
use Rattle.policy_graph.specs.Search.{nexts, start_states}
use Rattle.policy_graph.specs.Claims.{told_in, action_at}
use Rattle.policy_graph.proofs.Growing.{images_differ}
use Rattle.policy_graph.proofs.Told.{told_act}

module _ (g : Ground) (c : Content) (s : State) where
  abbrev By : Bool → Option ℕ → List (Outcome State)
  By b act = cond b [] (outcomes_by (ground_process g) (act_in g c) act s)

  -- ---- weights

  likely_by : IsGroundProblem g → (b : Bool) (act : Option ℕ) (o : Outcome State) → Contains (By b act) o → 0 < o.weight
  likely_by is true act o inside = absurd (Contains-nil o inside)
  likely_by is false None o inside = absurd (Contains-nil o inside)
  likely_by is false (Some k) o inside = outcomes_have_weight g is k s o inside

  pub followed_likely : IsGroundProblem g → (o : Outcome State)
      → Contains (followed (ground_process g) (act_in g c) s) o → 0 < o.weight
  followed_likely is o inside = likely_by is ((ground_process g).goal s) (act_in g c s) o inside

  -- ---- next states

  abbrev next_of : Outcome State → State
  next_of o = o.next

  none_by : (b : Bool) (act : Option ℕ) → cond b None act ≡ None → map next_of (By b act) ≡ []
  none_by true act none = refl
  none_by false act none = ap (λ (o : Option ℕ). map next_of (By false o)) none

  some_by : (b : Bool) (act : Option ℕ) (k : ℕ) → cond b None act ≡ Some k
      → map next_of (By b act) ≡ map next_of (step_at (den_of g.actions) (slice_get g.actions k) s)
  some_by true act k some = absurd cc
  some_by false act k some = ap (λ (o : Option ℕ). map next_of (By false o)) some

  next_each : (scale : ℕ) (choices : List Choice) → map next_of (map (outcome_of scale s) choices) ≡ map (next_state s) choices
  next_each scale [] = refl
  next_each scale (x ∷ choices) = ap (λ l. next_state s x ∷ l) (next_each scale choices)

  by_told : nexts (ground_process g) (act_in g c) s ≡ map next_of (By ((ground_process g).goal s) (told_in g c s).act)
  by_told = ap (λ (o : Option ℕ). map next_of (By ((ground_process g).goal s) o)) (sym (told_act g c s))

  pub nexts_none : action_at g c s ≡ None → nexts (ground_process g) (act_in g c) s ≡ []
  nexts_none none = by_told ∙ none_by ((ground_process g).goal s) (told_in g c s).act none

  pub nexts_past : (k : ℕ) → action_at g c s ≡ Some k → slice_get g.actions k ≡ None
      → nexts (ground_process g) (act_in g c) s ≡ []
  nexts_past k some past =
      by_told ∙ some_by ((ground_process g).goal s) (told_in g c s).act k some
      ∙ ap (λ (o : Option GroundAction). map next_of (step_at (den_of g.actions) o s)) past

  pub nexts_some : (k : ℕ) (a : GroundAction) → action_at g c s ≡ Some k → slice_get g.actions k ≡ Some a
      → nexts (ground_process g) (act_in g c) s ≡ map (next_state s) a.choices
  nexts_some k a some at =
      by_told ∙ some_by ((ground_process g).goal s) (told_in g c s).act k some
      ∙ ap (λ (o : Option GroundAction). map next_of (step_at (den_of g.actions) o s)) at
      ∙ next_each (den_of g.actions / a.den) a.choices

-- ---- starts

states_of_starts : (xs : List declared.Start) → start_states (map start_of xs) ≡ map (λ (x : declared.Start). x.state) xs
states_of_starts [] = refl
states_of_starts (x ∷ xs) = ap (λ l. x.state ∷ l) (states_of_starts xs)

no_start : declared.Start
no_start = record { weight = 0; state = [] }

pub starts_apart : (g : Ground) → IsGroundProblem g → AllPairs (λ s t. s ≢ t) (start_states (ground_starts g))
starts_apart g is =
    subst (AllPairs (λ s t. s ≢ t)) (sym (states_of_starts g.starts))
    (images_differ (λ (x : declared.Start). x.state) g.starts no_start is.starts_differ)

pub starts_likely : (g : Ground) → IsGroundProblem g → (start : Start State) → Contains (ground_starts g) start → 0 < start.weight
starts_likely g is = starts_have_weight g is

pub starts_long : (g : Ground) → length (start_states (ground_starts g)) ≡ length g.starts
starts_long g = length-map (ground_starts g) (λ (x : Start State). x.state) ∙ length-map g.starts start_of

pub start_there : (g : Ground) (i : ℕ) (x : declared.Start) → i < length g.starts → x ≡ get_or g.starts i x
    → x.state ≡ get_or (start_states (ground_starts g)) i []
start_there g i x within is =
    ap (λ (y : declared.Start). y.state) is
    ∙ sym (get_or-map (λ (y : declared.Start). y.state) g.starts i x [] within)
    ∙ sym (ap (λ l. get_or l i []) (states_of_starts g.starts))
