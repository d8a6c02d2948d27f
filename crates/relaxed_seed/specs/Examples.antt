-- Prices of conditions, where each atom has its number as its price and the penalty is 9.
use Rattle.std.specs.Prelude.{◌≡◌, ℕ, [], ◌∷◌}
use Rattle.std.proofs.Common.{refl}
use denote.Hole.Carrier.{hidden}
use Rattle.ground_model.specs.declared.condition.GroundCondition.{GroundCondition}
use Rattle.ground_model.specs.declared.condition.GroundCondition.TheVariants.{Atom, Not, All, Any}
use Rattle.ground_model.specs.declared.condition.GroundCondition.TheBlock.{shape-the_row-GroundCondition-0}
use Rattle.ground_model.specs.declared.condition.GroundCondition.TheBlock.{hidden-the_row-GroundCondition-0}
use Rattle.ground_model.specs.declared.condition.GroundCondition.TheBlock.{hidden-the_row-GroundCondition-1}
use Rattle.relaxed_seed.specs.Prices.{price, prices_at}

abbrev pub cost : GroundCondition → ℕ
cost = price (λ q. q) 9

-- the dearest part
both : cost (All (Atom 3 ∷ Atom 5 ∷ [])) ≡ 5
unfolding shape-the_row-GroundCondition-0 hidden-the_row-GroundCondition-0 hidden-the_row-GroundCondition-1 hidden
both = refl

-- the cheapest part
one_of_both : cost (Any (Atom 3 ∷ Atom 5 ∷ [])) ≡ 3
unfolding shape-the_row-GroundCondition-0 hidden-the_row-GroundCondition-0 hidden-the_row-GroundCondition-1 hidden
one_of_both = refl

false_for_nothing : cost (Not (Atom 3)) ≡ 0
unfolding shape-the_row-GroundCondition-0 hidden-the_row-GroundCondition-0 hidden-the_row-GroundCondition-1 hidden
false_for_nothing = refl

-- atom 3 is to be false, and atom 5 true
neither : cost (Not (Any (Atom 3 ∷ Not (Atom 5) ∷ []))) ≡ 5
unfolding shape-the_row-GroundCondition-0 hidden-the_row-GroundCondition-0 hidden-the_row-GroundCondition-1 hidden
neither = refl

none_of_nothing : cost (Any []) ≡ 9
unfolding shape-the_row-GroundCondition-0 hidden-the_row-GroundCondition-0 hidden-the_row-GroundCondition-1 hidden
none_of_nothing = refl

past_the_end : prices_at (4 ∷ 7 ∷ []) 9 2 ≡ 9
past_the_end = refl
