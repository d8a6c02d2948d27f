-- Layers of a ground problem, and their test.
--     GroundLayer            own atoms, by which costs are shared, and other ones; the layer's penalty; the lower value of each list of
--                            their truths, 0 without a row
--     atoms_of l             all of its atoms
--     truths_of atoms bit    the truths of the atoms
--     known_by atoms v       what these truths say of an atom
--     truths_after, next_truths atoms v c
--                            the truths after a choice, for some parts that are picked; and for each of the picks
--     literals_of c          the atoms that stand in a choice, with and without condition
--     touches atoms a        some choice of the action has a literal of the atoms
--     touched_own group a    how many layers of the group have an own atom among the action's literals
--     share_of group l a c   the layer's share in the cost of a choice: where the action touches its own atoms, the cost divided by
--                            the number of such layers and rounded down
--     paid_by group l a v    the sum over the action's choices of weight times the sum of share and least value of the next truths
--     layer_of g group l     the layer over packed states; a state that is not of the problem's atoms has no projection
--     IsGroundLayer g group l
--                            the test of a layer: a value is within the penalty, 0 where the goal is not known to be false, and at most
--                            what each action pays that is not known to be shut and touches the layer
--     IsGroundGroup g group  each layer passes it, and the penalties sum to at most the penalty
--     layers_of g group      the layers of a group over packed states
--     lower_of g groups s    the greatest sum of a group
-- Source: projections with a table of values (pattern databases: Edelkamp 2001); costs divided among the layers that an action touches
-- (uniform cost partitioning: Katz and Domshlak 2010).
use Rattle.std.specs.Prelude.{◌≡◌, ℕ, zero, suc, ◌+◌, ◌*◌, ◌/◌, ◌≤◌, Bool, true, false, cond, List, [], ◌∷◌, ◌++◌, map, flat_map, length, Option, Some, None, Contains, nat_eq}
use Rattle.std.specs.List.{slice_get, list_any}
use Rattle.plain_list.specs.weighted.Mean.{total}
use Rattle.decision_process.specs.Process.{min_with}
use Rattle.balanced_pair.specs.layers.Layers.{Branch, Layer, layers_low}
use Rattle.ppddl_model.specs.Known.{is_not_false}
use Rattle.ground_model.specs.declared.action.Guarded.{Guarded}
use Rattle.ground_model.specs.declared.action.Choice.{Choice}
use Rattle.ground_model.specs.declared.action.GroundAction.{GroundAction}
use Rattle.ground_model.specs.Packed.{State, has_bit, is_inside}
use Rattle.ground_model.specs.Choices.{is_member}
use Rattle.ground_model.specs.Ground.{Ground}
use Rattle.ground_model.specs.Steps.{den_of, ground_process}
use Rattle.partial_states.specs.Known.{kleene}
use Rattle.partial_states.specs.Steps.{step_known, picks}

pub record GroundLayer : Type 0 where
  pub own : List ℕ
  pub others : List ℕ
  pub penalty : ℕ
  pub low : List Bool → ℕ

abbrev pub atoms_of : GroundLayer → List ℕ
atoms_of l = l.own ++ l.others

abbrev pub truths_of : List ℕ → (ℕ → Bool) → List Bool
truths_of atoms bit = map bit atoms

abbrev pub known_by : List ℕ → List Bool → ℕ → Option Bool
known_by [] v q = None
known_by (a ∷ atoms) [] q = None
known_by (a ∷ atoms) (b ∷ v) q = cond (nat_eq q a) (Some b) (known_by atoms v q)

abbrev pub is_known_true : Option Bool → Bool
is_known_true None = false
is_known_true (Some b) = b

abbrev pub literals_of : Choice → List ℕ
literals_of c =
    (c.adds ++ c.deletes) ++ flat_map (λ (x : Guarded). x.adds ++ x.deletes) c.guarded

module _ (atoms : List ℕ) where
  abbrev pub truths_after : List Bool → Choice → List Bool → List Bool
  truths_after v c picked =
      map (λ q. is_known_true (step_known (known_by atoms v) c picked q)) atoms

  abbrev pub next_truths : List Bool → Choice → List (List Bool)
  next_truths v c = map (truths_after v c) (picks (known_by atoms v) c.guarded)

  abbrev pub touches_by : Choice → Bool
  touches_by c = list_any (is_member atoms) (literals_of c)

  abbrev pub touches : GroundAction → Bool
  touches a = list_any touches_by a.choices

module _ (group : List GroundLayer) where
  abbrev pub touched_own : GroundAction → ℕ
  touched_own a = total (λ (l : GroundLayer). cond (touches l.own a) 1 0) group

  abbrev pub share_of : GroundLayer → GroundAction → Choice → ℕ
  share_of l a c = cond (touches l.own a) (c.cost / touched_own a) 0

  abbrev pub shares_of : GroundLayer → GroundAction → List Choice → ℕ → ℕ
  shares_of l a [] i = 0
  shares_of l a (c ∷ choices) zero = share_of l a c
  shares_of l a (c ∷ choices) (suc i) = shares_of l a choices i

  abbrev pub paid_by : GroundLayer → GroundAction → List Bool → ℕ
  paid_by l a v =
      total (λ (c : Choice). c.weight
      * (share_of l a c + min_with l.penalty l.low (next_truths (atoms_of l) v c))) a.choices

-- ---- the layer over packed states

abbrev pub project : ℕ → List ℕ → State → Option (List Bool)
project n atoms s = cond (is_inside n s) (Some (truths_of atoms (has_bit s))) None

abbrev pub branch_of : List ℕ → List Bool → ℕ → Choice → Branch (Option (List Bool))
branch_of atoms v scale c =
    record { weight = c.weight * scale; nexts = map (λ w. Some w) (next_truths atoms v c) }

abbrev pub low_of : GroundLayer → Option (List Bool) → ℕ
low_of l None = 0
low_of l (Some v) = l.low v

abbrev pub may_end_of : Ground → GroundLayer → Option (List Bool) → Bool
may_end_of g l None = true
may_end_of g l (Some v) = is_not_false (kleene (known_by (atoms_of l) v) g.goal)

abbrev pub may_open_of : GroundLayer → Option GroundAction → Option (List Bool) → Bool
may_open_of l None v = false
may_open_of l (Some a) None = false
may_open_of l (Some a) (Some v) = is_not_false (kleene (known_by (atoms_of l) v) a.condition)

abbrev pub touches_of : GroundLayer → Option GroundAction → Bool
touches_of l None = false
touches_of l (Some a) = touches (atoms_of l) a

abbrev pub branches_of :
    ℕ → GroundLayer → Option GroundAction → Option (List Bool) → List (Branch (Option (List Bool)))
branches_of den l None v = []
branches_of den l (Some a) None = []
branches_of den l (Some a) (Some v) = map (branch_of (atoms_of l) v (den / a.den)) a.choices

abbrev pub share_at : List GroundLayer → GroundLayer → Option GroundAction → ℕ → ℕ
share_at group l None i = 0
share_at group l (Some a) i = shares_of group l a a.choices i

module _ (g : Ground) (group : List GroundLayer) where
  abbrev pub layer_of : GroundLayer → Layer State ℕ (Option (List Bool))
  layer_of l = record {
    project = project (length g.atoms) (atoms_of l);
    low = low_of l;
    penalty = l.penalty;
    may_end = may_end_of g l;
    may_open = λ k v. may_open_of l (slice_get g.actions k) v;
    touches = λ k. touches_of l (slice_get g.actions k);
    branches = λ k v. branches_of (den_of g.actions) l (slice_get g.actions k) v;
    share = λ k i. share_at group l (slice_get g.actions k) i;
  }

  -- ---- its test

  pub record IsGroundLayer (l : GroundLayer) : Type 0 where
    pub within_penalty : (v : List Bool) → l.low v ≤ l.penalty
    pub at_goal : (v : List Bool)
        → is_not_false (kleene (known_by (atoms_of l) v) g.goal) ≡ true → l.low v ≡ 0
    pub within_step : (a : GroundAction) → Contains g.actions a → (v : List Bool)
        → is_not_false (kleene (known_by (atoms_of l) v) g.goal) ≡ false
        → is_not_false (kleene (known_by (atoms_of l) v) a.condition) ≡ true
        → touches (atoms_of l) a ≡ true
        → l.low v * a.den ≤ paid_by group l a v

module _ (g : Ground) where
  pub record IsGroundGroup (group : List GroundLayer) : Type 0 where
    pub is_layer : (l : GroundLayer) → Contains group l → IsGroundLayer g group l
    pub penalties : total (λ (l : GroundLayer). l.penalty) group ≤ g.penalty

  abbrev pub layers_of : List GroundLayer → List (Layer State ℕ (Option (List Bool)))
  layers_of group = map (layer_of g group) group

  abbrev pub lower_of : List (List GroundLayer) → State → ℕ
  lower_of groups = layers_low (ground_process g) (map layers_of groups)
