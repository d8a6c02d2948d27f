-- The coin of `ppddl_model` and the ground problem that stands for it: the coin of `ground_model`, whose atom is `(done)` here.
-- proofs/lemmas/stands/Coin.antt shows that it is a ground problem, and the one of the coin.
use Rattle.std.specs.Prelude.{◌≡◌, [], ◌∷◌, codes, Some, refl}
use Rattle.ppddl_model.specs.declared.tree.Effect.TheBlock.{shape-the_row-Effect-0, hidden-the_row-Effect-0, hidden-the_row-Effect-1, shape-the_row-Branch-2, hidden-the_row-Branch-2}
use Rattle.ppddl_model.specs.declared.tree.Condition.TheBlock.{shape-the_row-Condition-0, hidden-the_row-Condition-0, hidden-the_row-Condition-1}
use denote.Hole.Carrier.{hidden}
use Rattle.ppddl_model.specs.State.{no_atoms, with_atom}
use Rattle.ppddl_model.specs.Steps.{Instance, Charges}
use Rattle.ppddl_model.specs.examples.Coin.{flip, coin}
use Rattle.ground_model.specs.Coin as sides
use Rattle.ground_model.specs.Coin.{heads, tails}
use Rattle.ground_model.specs.Ground.{Ground}
use Rattle.ground_meaning.specs.stands.Stands.{state_of, packed_of, by_atoms}

abbrev pub toss : Ground
toss = record {
  atoms = codes "(done)" ∷ [];
  penalty = sides.coin.penalty;
  starts = sides.coin.starts;
  start_den = sides.coin.start_den;
  goal = sides.coin.goal;
  actions = sides.coin.actions;
}

abbrev pub charges : Charges
charges = record { penalty = 10000000; step_cost = 0 }

abbrev pub flipping : Instance
flipping = record { action = flip; binding = [] }

tails_is_nothing_done : state_of toss coin tails ≡ no_atoms
unfolding shape-the_row-Effect-0 hidden-the_row-Effect-0 hidden-the_row-Effect-1 shape-the_row-Branch-2 hidden-the_row-Branch-2 shape-the_row-Condition-0 hidden-the_row-Condition-0 hidden-the_row-Condition-1 hidden
tails_is_nothing_done = refl

heads_is_done : state_of toss coin heads ≡ with_atom no_atoms (codes "done" ∷ [])
unfolding shape-the_row-Effect-0 hidden-the_row-Effect-0 hidden-the_row-Effect-1 shape-the_row-Branch-2 hidden-the_row-Branch-2 shape-the_row-Condition-0 hidden-the_row-Condition-0 hidden-the_row-Condition-1 hidden
heads_is_done = refl

done_is_heads : packed_of toss coin (with_atom no_atoms (codes "done" ∷ [])) ≡ heads
unfolding shape-the_row-Effect-0 hidden-the_row-Effect-0 hidden-the_row-Effect-1 shape-the_row-Branch-2 hidden-the_row-Branch-2 shape-the_row-Condition-0 hidden-the_row-Condition-0 hidden-the_row-Condition-1 hidden
done_is_heads = refl

code_of_the_flip : (by_atoms toss coin).action 0 ≡ Some flipping
unfolding shape-the_row-Effect-0 hidden-the_row-Effect-0 hidden-the_row-Effect-1 shape-the_row-Branch-2 hidden-the_row-Branch-2 shape-the_row-Condition-0 hidden-the_row-Condition-0 hidden-the_row-Condition-1 hidden
code_of_the_flip = refl
