-- The choices of lists of effects, and the longest merged list on the way to them.
--     drawn before ch xs        one choice of each factor of xs at once, behind what came before
--     width before ch wide xs   the length of the longest merged list on the way to it
--     own_of, inner_of          the least common multiples of the denominators of branches
--     factor_of own inner w x   by what the weights of a branch are multiplied
--     branches_drawn, branches_width
--                               the choices of a `probabilistic`, and the longest merged list on the way
--     IsWide e k                e is want of memory, or the refusal of a list that is too long, and k is
use Rattle.std.specs.Prelude.{ℕ, ◌*◌, ◌/◌, ◌<◌, max, List, map, flat_map, length}
use Rattle.exact_fraction.specs.Divisors.{common_multiple}
use Rattle.ppddl_model.specs.declared.tree.Branch.{Branch}
use Rattle.ppddl_model.specs.Objects.{World, Binding}
use Rattle.ppddl_model.specs.Denominator.{share}
use Rattle.ground_model.specs.declared.action.Choice.{Choice}
use Rattle.ground_model.specs.declared.limits.TheConstants.{MOST_CHOICES}
use Rattle.ground_meaning.specs.choices.Numbering.{Numbering}
use Rattle.ground_meaning.specs.choices.Joint.{scaled, merged, product_with, with_rest, den_of, choices}
use Rattle.ground_meaning.specs.choices.Limits.{widest, widest_with, greatest}
use Rattle.outcome_dist.specs.declared.lists.refusal.JointRefusal.{JointRefusal}
use Rattle.outcome_dist.specs.declared.lists.refusal.JointRefusal.TheVariants.{Choices, Memory}

abbrev pub IsWide : JointRefusal → ℕ → Type 0
IsWide Choices k = MOST_CHOICES < k
IsWide Memory k = Unit {0}
IsWide _ k = ⊥

abbrev pub drawn : {X : Type 0} → List Choice → (X → List Choice) → List X → List Choice
drawn before ch xs = product_with before (map ch xs)

abbrev pub width : {X : Type 0} → List Choice → (X → List Choice) → (X → ℕ) → List X → ℕ
width before ch wide xs = max (greatest (map wide xs)) (widest_with before (map ch xs))

abbrev pub own_of : List Branch → ℕ
own_of branches = common_multiple (map (λ (x : Branch). x.chance.den) branches)

abbrev pub inner_of : World → List Branch → ℕ
inner_of w branches = common_multiple (map (λ (x : Branch). den_of w x.effect) branches)

abbrev pub factor_of : ℕ → ℕ → World → Branch → ℕ
factor_of own inner w x = share own x.chance * (inner / den_of w x.effect)

module _ (w : World) (n : Numbering) where
  abbrev pub branch_drawn : ℕ → ℕ → Binding → Branch → List Choice
  branch_drawn own inner b x = map (scaled (factor_of own inner w x)) (choices w n x.effect b)

  abbrev pub branches_drawn : List Branch → Binding → List Choice
  branches_drawn branches b =
      merged (with_rest (own_of branches * inner_of w branches)
      (flat_map (branch_drawn (own_of branches) (inner_of w branches) b) branches))

  abbrev pub branches_width : List Branch → Binding → ℕ
  branches_width branches b =
      max (greatest (map (λ (x : Branch). widest w n x.effect b) branches)) (length (branches_drawn branches b))
