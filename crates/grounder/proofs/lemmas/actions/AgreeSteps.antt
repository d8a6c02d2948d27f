-- Rows that agree where parameters are named, place by place.
use Rattle.std.proofs.Common.{◌≡◌, ℕ, ◌+◌, ◌<◌, Bool, true, false, not, ◌&&◌, ◌||◌, List, length, drop, get_or, sym, ap, ◌∙◌, arith}
use Rattle.std.specs.Prelude.{nat_eq}
use Rattle.grounder.specs.actions.Repeating.{agree_where}
use Rattle.grounder.proofs.lemmas.actions.Walked.{drop_at}

module _ (named : List Bool) (row other : List ℕ) (i : ℕ) (within : i < length named) (row_long : length row ≡ length named)
    (other_long : length other ≡ length named) where
  abbrev later : Bool
  later = agree_where (drop (i + 1) named) (drop (i + 1) row) (drop (i + 1) other)

  here : agree_where (drop i named) (drop i row) (drop i other)
      ≡ ((not (get_or named i false) || nat_eq (get_or row i 0) (get_or other i 0)) && later)
  here =
      let row_within : i < length row = omega arith in
      let other_within : i < length other = omega arith in
      λ j. agree_where (drop_at named i false within j) (drop_at row i 0 row_within j) (drop_at other i 0 other_within j)

  pub agrees_at : (not (get_or named i false) || nat_eq (get_or row i 0) (get_or other i 0)) ≡ true
      → later ≡ agree_where (drop i named) (drop i row) (drop i other)
  agrees_at is = sym (here ∙ ap (λ t. t && later) is)
