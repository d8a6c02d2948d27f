-- Two coins: the definitions on the number of heads that they show.
-- proofs/lemmas/weighted/Coins.antt shows that the premises of the laws can be met here.
use Rattle.std.specs.Prelude.{◌≡◌, ℕ, ◌+◌, ◌*◌, nat_eq, List, [], ◌∷◌, refl}
use Rattle.plain_list.specs.weighted.Mean.{total, mean, weight, products, positive}
use Rattle.plain_list.specs.weighted.Merged.{merged}
use Rattle.plain_list.specs.weighted.Operations.{IsProduct}

-- how many of the equally likely ways show so many heads
pub record Count : Type 0 where
  pub ways : ℕ
  pub heads : ℕ

abbrev pub coin : List Count
coin = record { ways = 1; heads = 0 } ∷ record { ways = 1; heads = 1 } ∷ []

abbrev pub both : Count → Count → Count
both c d = record { ways = c.ways * d.ways; heads = c.heads + d.heads }

abbrev pub either : Count → Count → Count
either c d = record { ways = c.ways + d.ways; heads = c.heads }

abbrev pub two_coins : List Count
two_coins = products both coin coin

both_is_product : IsProduct (λ (c : Count). c.ways) (λ (c : Count). c.heads) both (λ m n. m + n)
both_is_product = record { weights = λ c d. refl; keys = λ c d. refl }

all_ways : total (λ (c : Count). c.ways) two_coins ≡ 4
all_ways = refl

ways_of_one_head : weight (λ (c : Count). c.ways) (λ (c : Count). c.heads) nat_eq two_coins 1 ≡ 2
ways_of_one_head = refl

-- over the four ways, one head on average
mean_heads : mean (λ (c : Count). c.ways) (λ (c : Count). c.heads) (λ heads. heads) two_coins ≡ 4
mean_heads = refl

merged_ways : merged (λ c d. nat_eq c.heads d.heads) either two_coins
    ≡ record { ways = 1; heads = 0 } ∷ record { ways = 2; heads = 1 }
    ∷ record { ways = 1; heads = 2 } ∷ []
merged_ways = refl

-- a coin that never shows tails
positive_ways : positive (λ (c : Count). c.ways)
    (record { ways = 0; heads = 0 } ∷ record { ways = 1; heads = 1 } ∷ [])
    ≡ record { ways = 1; heads = 1 } ∷ []
positive_ways = refl
