-- What a limited read of known bytes tells.
use Rattle.std.proofs.Common.{◌≡◌, ℕ, ◌<◌, List, length, take, min, Option, None, Some, arith, ap, ◌∙◌}
use Rattle.std.specs.Prelude.{IfSome}
use Rattle.std.specs.Option.{option_map}
use Rattle.std.proofs.lemmas.List.{take_all, length-take}

-- fewer bytes than were asked for are all
pub all_of : (known : Option (List ℕ)) (most : ℕ) (bytes : List ℕ) → IfSome (option_map (take most) known) (λ xs. bytes ≡ xs) → length bytes < most → IfSome known (λ xs. bytes ≡ xs)
all_of None most bytes read few = tt
all_of (Some xs) most bytes read few =
    let size : length bytes ≡ min most (length xs) = ap length read ∙ length-take most xs in
    read ∙ take_all most xs (omega (arith, size, few))
