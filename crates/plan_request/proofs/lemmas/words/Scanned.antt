-- One word of a scan.
use Rattle.std.proofs.Common.{◌≡◌, refl, sym, ap, ℕ, ◌+◌, Bool, true, false, ◌&&◌, cond, List, [], ◌∷◌, ◌++◌, length, Option, Some, None, is_some, true≢false, arith}
use Rattle.std.specs.Prelude.{nat_eq}
use Rattle.plan_request.specs.words.Words.{Text, Item, value, gives, behind, given, is_plain, may_stand, positional, positionals_of, read, word_of}
use Rattle.plan_request.specs.words.Scans.{makes}

makes_given : (total plain : ℕ) (n v : Text) (o : Option (List Item)) → makes total plain (behind (given n v) o) ≡ makes total plain o
makes_given total plain n v None = refl
makes_given total plain n v (Some is) = refl

makes_value : (total plain : ℕ) (w : Text) (o : Option (List Item)) → makes total plain (behind (positional w) o) ≡ makes total (plain + 1) o
makes_value total plain w None = refl
makes_value total plain w (Some is) = let e : plain + length (positionals_of (positional w ∷ is)) ≡ plain + 1 + length (positionals_of is) = omega arith in ap (λ n. nat_eq n total) e

module _ (os : List Text) (total plain : ℕ) (seen : List Text) (w : Text) (rest : List Text) where
  pub take_waiting : (o : Option Text) → is_some o ≡ true → makes total plain (read os seen o (w ∷ rest)) ≡ (is_plain w && makes total plain (read os seen None rest))
  take_waiting None e = absurd (true≢false (sym e))
  take_waiting (Some n) e =
      let Is : Bool → Type 0 = λ b. makes total plain (cond b (behind (given n w) (read os seen None rest)) None) ≡ (b && makes total plain (read os seen None rest)) in
      elim (is_plain w) as Is [ true ↦ makes_given total plain n w (read os seen None rest) | false ↦ refl ]

  pub take_value : word_of w ≡ value → makes total plain (read os seen None (w ∷ rest)) ≡ makes total (plain + 1) (read os seen None rest)
  take_value e = rw e (makes_value total plain w (read os seen None rest))

  pub take_gives : (n v : Text) → word_of w ≡ gives n v → may_stand os seen n ≡ true → makes total plain (read os seen None (w ∷ rest)) ≡ makes total plain (read os (seen ++ n ∷ []) None rest)
  take_gives n v e m = rw (e, m) (makes_given total plain n v (read os (seen ++ n ∷ []) None rest))
