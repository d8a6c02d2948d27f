-- Items that are put in one after another, and the longest list on the way.
use Rattle.std.proofs.Common.{◌≡◌, ℕ, ◌≤◌, inl, inr, List, [], ◌∷◌, length, map, ap, subst, ◌∙◌, arith}
use Rattle.ppddl_model.specs.declared.tree.InitItem.{InitItem}
use Rattle.ground_model.specs.declared.action.Choice.{Choice}
use Rattle.ground_model.specs.declared.limits.TheConstants.{MOST_STARTS}
use Rattle.ground_meaning.specs.choices.Numbering.{Numbering}
use Rattle.ground_meaning.specs.choices.Joint.{idle, with_factor, product_with}
use Rattle.ground_meaning.specs.choices.Limits.{widest_with}
use Rattle.ground_meaning.specs.refusals.Starts.{item_choices, start_choices, widest_start}
use Rattle.ground_meaning.specs.declared.refusals.refusal.GroundRefusal.{GroundRefusal}
use Rattle.grounder.specs.starts.Growing.{IsTooMany}

pub wider : (e : GroundRefusal) (a b : ℕ) → a ≤ b → IsTooMany e a → IsTooMany e b
wider e a b less (inl memory) = inl memory
wider e a b less (inr long) = let above = long.1 in inr (long.0, omega (arith, less, above))

module _ (n : Numbering) where
  pub record Walk (done : List Choice) (rest all : List InitItem) : Type 0 where
    pub same : product_with done (map (item_choices n) rest) ≡ start_choices n all
    pub within : widest_with done (map (item_choices n) rest) ≤ widest_start n all
    pub narrow : widest_with done (map (item_choices n) rest) ≤ MOST_STARTS → widest_start n all ≤ MOST_STARTS

  pub walk_start : (done : List Choice) (all : List InitItem) → done ≡ idle 1 ∷ [] → Walk done all all
  walk_start done all is =
      let level : widest_with done (map (item_choices n) all) ≡ widest_start n all = ap (λ l. widest_with l (map (item_choices n) all)) is in
      record { same = ap (λ l. product_with l (map (item_choices n) all)) is; within = omega (arith, level); narrow = λ few. omega (arith, level, few) }

  pub walk_list : (done : List Choice) (xs ys all : List InitItem) → xs ≡ ys → Walk done xs all → Walk done ys all
  walk_list done xs ys all is walk = subst (λ l. Walk done l all) is walk

  pub walk_one : (done next : List Choice) (x : InitItem) (rest all : List InitItem) → Walk done (x ∷ rest) all
      → next ≡ with_factor done (item_choices n x) → length next ≤ MOST_STARTS → Walk next rest all
  walk_one done next x rest all walk is few =
      let long : length next ≡ length (with_factor done (item_choices n x)) = ap length is in
      let level : widest_with next (map (item_choices n) rest) ≡ widest_with (with_factor done (item_choices n x)) (map (item_choices n) rest)
      = ap (λ l. widest_with l (map (item_choices n) rest)) is in
      let before : widest_with done (map (item_choices n) (x ∷ rest)) ≤ widest_start n all = walk.within in
      record {
        same = ap (λ l. product_with l (map (item_choices n) rest)) is ∙ walk.same;
        within = omega (arith, level, before);
        narrow = λ short. walk.narrow (omega (arith, level, long, few, short));
      }
