-- The die's rolls stand for the coin's flips, so the laws' premises can be met.
use Rattle.std.proofs.Common.{Bool, true, false, cond, ◌≡◌, [], ◌∷◌, Some, refl, arith}
use Rattle.std.specs.Prelude.{Contains}
use Rattle.plain_list.proofs.Members.{Contains-first}
use Rattle.decision_process.specs.Coin as coin_flips
use Rattle.decision_process.specs.Coin.{heads, tails, Move, flip, is_heads, coin}
use Rattle.decision_process.specs.homomorphism.Homomorphism.{IsHomomorphism, IsLike, AreStartsOf}
use Rattle.decision_process.specs.homomorphism.Die.{Face, Throw, roll, is_even, die, starts, as_coin}

even_is_heads : (even : Bool) → even ≡ is_heads (cond even heads tails)
even_is_heads true = refl
even_is_heads false = refl

can_roll : (throw : Throw) → Contains (roll ∷ []) throw
can_roll roll = Contains-first roll []

can_flip : (move : Move) → Contains (flip ∷ []) move
can_flip flip = Contains-first flip []

flips_stand : (move : Move) → Some flip ≡ Some move
flips_stand flip = refl

like : (face : Face) → IsLike die coin as_coin face
like face = record {
  stands = λ throw is_open. (flip, refl);
  is_found = λ move is_open. (roll, flips_stand move);
  opens = λ throw move stands. (λ _. can_flip move, λ _. can_roll throw);
  outcomes = λ throw move stands is_open v. omega arith;
  stays = λ throw is_open o inside. refl;
}

die_stands_for_coin : IsHomomorphism die coin as_coin
die_stands_for_coin = record {
  den_positive = omega arith;
  den_positive_there = omega arith;
  penalties = refl;
  goals = λ face valid. even_is_heads (is_even face);
  like = λ face valid off. like face;
}

starts_stand : AreStartsOf as_coin starts 2 coin_flips.starts 1
starts_stand = record {
  den_positive = omega arith;
  den_positive_there = omega arith;
  is_valid = λ start inside. refl;
  chances = λ v. omega arith;
}
