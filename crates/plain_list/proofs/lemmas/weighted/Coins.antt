-- The coins' operations meet the premises of the laws.
use Rattle.std.proofs.Common.{refl, sym, nat_eq}
use Rattle.std.proofs.lemmas.Bool.{eqb-true, eq-eqb}
use Rattle.plain_list.specs.weighted.Operations.{IsMerge}
use Rattle.plain_list.specs.weighted.Chances.{IsExact}
use Rattle.plain_list.specs.weighted.Coins.{Count, either}

pub nat_eq_is_exact : IsExact nat_eq
nat_eq_is_exact m n = (λ same. eqb-true m n same, λ same. eq-eqb m n same)

either_is_merge : IsMerge (λ (c : Count). c.ways) (λ (c : Count). c.heads) (λ c d. nat_eq c.heads d.heads) either
either_is_merge = record {
  weights = λ c d alike. refl;
  keys = λ c d alike. refl;
  same_keys = λ c d alike. sym (eqb-true c.heads d.heads alike);
}
