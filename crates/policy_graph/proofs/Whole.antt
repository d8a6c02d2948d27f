-- A graph of which nothing is cut off has all states that the policy reaches.
use Rattle.std.proofs.Common.{◌≡◌, ℕ, zero, suc, ◌+◌, ◌<◌, ◌≤◌, ◌/◌, Bool, true, false, not, ◌||◌, cond, inl, inr, List, [], ◌∷◌, Option, Some, None, map, length, get_or, is_some, refl, sym, ap, subst, ◌∙◌, true≢false, arith}
use Rattle.std.specs.Prelude.{Contains, nat_lt, option_map}
use Rattle.std.specs.List.{list_any, flat_map, range_with_len, slice_get, position_or_len}
use Rattle.std.specs.Cmp.Lexicographic.{bytes_decides}
use Rattle.std.proofs.lemmas.Bool.{ltb-true, ltb-false, cases_eq}
use Rattle.std.proofs.lemmas.List.{length-map}
use Rattle.std.proofs.lemmas.List.Sums.{passes_at_first}
use Rattle.std.proofs.lemmas.Option.{slice_get-map, slice_get-get_or}
use Rattle.plain_list.proofs.Members.{Contains-nil, Contains-first, Contains-later, Contains-cons_cases, Contains-map, Contains-map_cases, Contains-flat_map}
use Rattle.certificate.specs.Content.{Content}
use Rattle.certificate_check.specs.Laws.{act_in}
use Rattle.decision_process.specs.Process.{Outcome, Start}
use Rattle.ground_model.specs.declared.action.GroundAction.{GroundAction}
use Rattle.ground_model.specs.Packed.{State, same_state}
use Rattle.ground_model.specs.Ground.{Ground}
use Rattle.ground_model.specs.Steps.{den_of, outcome_of, start_of, step_at, ground_process, ground_starts}
use Rattle.ground_model.proofs.Steps.{slice_get-contains}
use Rattle.policy_graph.specs.declared.edge.Edge.{Edge}
use Rattle.policy_graph.specs.declared.graph.PolicyGraph.{PolicyGraph}
use Rattle.policy_graph.specs.declared.node.Node.{Node}
use Rattle.policy_graph.specs.Graph.{action_edges, edge_of, kind_edges, kind_of, node_edges, node_of, place_in, states_in, IsGraphOf}
use Rattle.policy_graph.specs.Laws.{AllAreDrawn}
use Rattle.policy_graph.specs.Reached.{outcomes_by, Leads, IsReachedIn}
use Rattle.policy_graph.specs.Text.{is_cut, leads_on}

-- ---- lists

or_parts : (a b : Bool) → (a || b) ≡ false → (a ≡ false) × (b ≡ false)
or_parts true b e = absurd (true≢false e)
or_parts false b e = (refl, e)

of_not : (b : Bool) → not b ≡ false → b ≡ true
of_not true e = refl
of_not false e = absurd (true≢false e)

none_passes : {X : Type 0} (f : X → Bool) (xs : List X) → list_any f xs ≡ false → (x : X) → Contains xs x → f x ≡ false
none_passes f [] none x inside = absurd (Contains-nil x inside)
none_passes f (y ∷ xs) none x inside =
    let parts = or_parts (f y) (list_any f xs) none in
    elim (Contains-cons_cases y xs x inside) [
      | inl same ↦ subst (λ z. f z ≡ false) same parts.0
      | inr later ↦ none_passes f xs parts.1 x later
    ]

in_range : (a n k : ℕ) → a ≤ k → k < a + n → Contains (range_with_len a n) k
in_range a zero k first last = absurd (omega arith)
in_range a (suc n) k first last = elim (cases_eq a k) [
  | inl same ↦ subst (λ x. Contains (a ∷ range_with_len (a + 1) n) x) same (Contains-first a (range_with_len (a + 1) n))
  | inr apart ↦ Contains-later a (range_with_len (a + 1) n) k (in_range (a + 1) n k (omega arith) (omega arith))
]

at_place : {X : Type 0} (xs : List X) (x : X) → (inside : Contains xs x) → slice_get xs inside.0 ≡ Some x
at_place xs x (k, below, found) = slice_get-get_or xs k x below ∙ ap Some found

-- a state that has a place is one of them
placed : (states : List State) (x : State) → is_some (place_in states x) ≡ true → Contains states x
placed states x on = by_test (nat_lt (position_or_len (same_state x) states) (length states)) refl on
  where
    by_test : (b : Bool) → nat_lt (position_or_len (same_state x) states) (length states) ≡ b
        → is_some (cond b (Some (position_or_len (same_state x) states)) None) ≡ true → Contains states x
    by_test true below on =
        let k = position_or_len (same_state x) states in
        let within = ltb-true k (length states) below in
        (k, within, sym ((bytes_decides x (get_or states k x)).0 (passes_at_first (same_state x) states x within)))
    by_test false above on = absurd (true≢false (sym on))

-- ---- the edges of a state

module _ (g : Ground) (c : Content) (states : List State) (from : ℕ) (r : State) where
  abbrev Drawn : Outcome State → List Edge → Type 0
  Drawn o edges = (e : Edge) × Contains edges e × (e.to ≡ place_in states o.next)

  action_drawn : (code : ℕ) (a : Option GroundAction) (o : Outcome State) → Contains (step_at (den_of g.actions) a r) o
      → Drawn o (action_edges g states from code r a)
  action_drawn code None o inside = absurd (Contains-nil o inside)
  action_drawn code (Some a) o inside =
      let found = Contains-map_cases (outcome_of (den_of g.actions / a.den) r) a.choices o inside in (
        edge_of states from code a.den r found.0,
        Contains-map (edge_of states from code a.den r) a.choices found.0 found.1,
        ap (λ (x : Outcome State). place_in states x.next) found.2,
      )

  outcome_drawn : (goal : Bool) (act : Option ℕ) (o : Outcome State)
      → Contains (cond goal [] (outcomes_by (ground_process g) (act_in g c) act r)) o
      → Drawn o (kind_edges g states from r (kind_of goal act))
  outcome_drawn true act o inside = absurd (Contains-nil o inside)
  outcome_drawn false None o inside = absurd (Contains-nil o inside)
  outcome_drawn false (Some k) o inside = action_drawn k (slice_get g.actions k) o inside

-- ---- the graph

module _ (g : Ground) (c : Content) (most : ℕ) (graph : PolicyGraph) (is_graph : IsGraphOf g c most graph) (whole : is_cut g graph ≡ false) where
  abbrev states : List State
  states = states_in graph.nodes

  uncut : (nat_lt (length graph.nodes) (length g.starts) ≡ false) × (list_any leads_on graph.edges ≡ false)
  uncut = or_parts (nat_lt (length graph.nodes) (length g.starts)) (list_any leads_on graph.edges) whole

  node_at : (i : ℕ) (s : State) → slice_get states i ≡ Some s → slice_get graph.nodes i ≡ Some (node_of g c s)
  node_at i s at =
      ap (λ l. slice_get l i) is_graph.nodes ∙ slice_get-map (node_of g c) states i
      ∙ ap (option_map (node_of g c)) at

  next_drawn : (r t : State) → Contains states r → Leads (ground_process g) (act_in g c) r t → Contains states t
  next_drawn r t inside leads =
      let i = inside.0 in
      let o = leads.outcome in
      let drawn = outcome_drawn g c states i r ((ground_process g).goal r) (act_in g c r) o leads.taken in
      let here : Contains (node_edges g states i (slice_get graph.nodes i)) drawn.0
      = subst (λ n. Contains (node_edges g states i n) drawn.0) (sym (node_at i r (at_place states r inside))) drawn.1 in
      let long = length-map graph.nodes (λ (node : Node). node.state) in
      let below = inside.1 in
      let edge : Contains graph.edges drawn.0
      = subst (λ l. Contains l drawn.0) (sym is_graph.edges)
      (Contains-flat_map (λ i. node_edges g states i (slice_get graph.nodes i)) (range_with_len 0 (length graph.nodes)) i drawn.0
      (in_range 0 (length graph.nodes) i (omega arith) (omega (arith, below, long))) here) in
      let off : leads_on drawn.0 ≡ false = none_passes leads_on graph.edges uncut.1 drawn.0 edge in
      let on : is_some (place_in states o.next) ≡ true = subst (λ p. is_some p ≡ true) drawn.2 (of_not (is_some drawn.0.to) off) in
      subst (Contains states) leads.there (placed states o.next on)

  start_drawn : (start : Start State) → Contains (ground_starts g) start → Contains states start.state
  start_drawn start inside =
      let i = inside.0 in
      let below = inside.1 in
      let starts_long = length-map g.starts start_of in
      let long = length-map graph.nodes (λ (node : Node). node.state) in
      let few = is_graph.drawn.few in
      let all = ltb-false (length graph.nodes) (length g.starts) uncut.0 in
      slice_get-contains states i start.state
      (is_graph.drawn.starts_first i start (omega (arith, below, starts_long, long, few, all)) (at_place (ground_starts g) start inside))

  reached_drawn : (n : ℕ) (s : State) → IsReachedIn (ground_process g) (act_in g c) (ground_starts g) n s → Contains states s
  reached_drawn zero s (start, inside, positive, there) = subst (Contains states) there (start_drawn start inside)
  reached_drawn (suc n) s (r, before, leads) = next_drawn r s (reached_drawn n r before) leads

pub all_are_drawn : AllAreDrawn
all_are_drawn g c most graph is_graph whole s (n, reached) = reached_drawn g c most graph is_graph whole n s reached
