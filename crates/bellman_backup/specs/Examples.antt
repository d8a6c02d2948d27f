-- The backup of a coin's tails from first numbers, which computes. A flip costs 1,000,000; giving up costs 10,000,000.
use Rattle.std.proofs.Common.{arith}
use Rattle.std.specs.Prelude.{◌≡◌, Some, [], ◌∷◌, codes, refl}
use Rattle.fixed_round.specs.Words.{word_of}
use Rattle.ground_model.specs.declared.action.GroundAction.{GroundAction}
use Rattle.ground_model.specs.Coin.{tails, flip}
use Rattle.bound_core.specs.Numbers.{goal_word, quit_word}
use Rattle.word_table.specs.declared.view.notes.Load.TheVariants.{Lower, Upper}
use Rattle.bellman_backup.specs.Readings.{Reading, loads_in}
use Rattle.bellman_backup.specs.Candidates.{Found, StandsFor, low, high, least_low, least_word}

abbrev pub of_heads : Reading
of_heads = record { id = Some 1; lower = 0; word = goal_word }

abbrev pub of_tails : Reading
of_tails = record { id = Some 0; lower = 0; word = quit_word 10000000 }

abbrev pub flipped : Found
flipped = record { code = 0; action = flip; readings = of_heads ∷ of_tails ∷ [] }

-- a toss is a flip under another name, and needs no loads of its own
abbrev pub toss : GroundAction
toss = record { name = codes "(toss)"; condition = flip.condition; choices = flip.choices; den = flip.den }

abbrev pub tossed : Found
tossed = record { code = 1; action = toss; readings = flipped.readings }

flipped_stands_for_tossed : StandsFor flipped tossed
flipped_stands_for_tossed = record {
  action = record { condition = refl; choices = refl; den = refl };
  readings = refl;
  not_above = omega arith;
}

low_of_a_flip : low tails flipped ≡ 1000000
low_of_a_flip = refl

high_of_a_flip : high tails flipped ≡ 6000000
high_of_a_flip = refl

lower_is : least_low 10000000 tails (flipped ∷ []) ≡ 1000000
lower_is = refl

upper_is : least_word 10000000 tails (flipped ∷ []) ≡ word_of 6000000 0
upper_is = refl

-- with the toss they are the same
lower_of_both : least_low 10000000 tails (flipped ∷ tossed ∷ []) ≡ 1000000
lower_of_both = refl

upper_of_both : least_word 10000000 tails (flipped ∷ tossed ∷ []) ≡ word_of 6000000 0
upper_of_both = refl

-- giving up for less than a flip costs
lower_of_a_small_penalty : least_low 500000 tails (flipped ∷ []) ≡ 500000
lower_of_a_small_penalty = refl

upper_of_a_small_penalty : least_word 500000 tails (flipped ∷ []) ≡ quit_word 500000
upper_of_a_small_penalty = refl

-- the last load first
loads_are : loads_in (of_heads ∷ of_tails ∷ [])
    ≡ Upper 0 (quit_word 10000000) ∷ Lower 0 0 ∷ Upper 1 goal_word ∷ Lower 1 0 ∷ []
loads_are = refl
