-- Lines before the rows, the last line, and lines that are none of another place.
use Rattle.std.proofs.Common.{◌≡◌, ◌⊎◌, inl, inr, ℕ, ◌<◌, ◌≤◌, true, eqb, ltb, leb, List, [], ◌∷◌, ◌++◌, length, Some, None, Ok, refl, ap, sym, ◌∙◌, arith}
use Rattle.std.specs.Prelude.{codes, decimal}
use Rattle.std.specs.Char.{is_ascii_digit}
use Rattle.std.specs.Str.{bytes_eq, all_ascii_digits}
use Rattle.std.proofs.lemmas.Bool.{and_parts, eqb-true, leb-true, ltb-true, lt-ltb, le-leb, eq-eqb, ne_eqb}
use Rattle.std.proofs.lemmas.Fmt.{decimal_nonempty}
use Rattle.std.proofs.lemmas.List.{nil_from_length}
use Rattle.std.proofs.lemmas.Slice.Eq.{bytes_eq-Decides}
use Rattle.certificate.specs.declared.limits.TheConstants.{MOST_UNITS, MOST_COUNT}
use Rattle.certificate.specs.declared.refusal.CertRefusal.TheVariants.{Syntax}
use Rattle.certificate.specs.Names.{IsNameList}
use Rattle.certificate.specs.Spelling.{spaced, version_line, penalty_line, interval_line}
use Rattle.certificate.specs.Content.{InRange}
use Rattle.certificate.specs.Decoding.{only_if, behind, number_of, field_at, header_of, penalty_of, interval_of, count_of}
use Rattle.certificate.specs.Decoding as decoding
use Rattle.certificate.specs.Reading.{end_of, nothing_at}
use Rattle.plain_list.proofs.Results.{test_passes}
use Rattle.certificate.proofs.Steps.{some_is, kept, chained, either}
use Rattle.certificate.proofs.Cuts.{behind_is_rest}
use Rattle.certificate.proofs.Decimals.{number_is, number_again, digits_decimal_of}
use Rattle.certificate.proofs.Numbers.{field_is, field_again}

pub same_text : (a b : List ℕ) → bytes_eq a b ≡ true → a ≡ b
same_text a b e = (bytes_eq-Decides a b).0 e

-- ---- the lines before the rows

pub header_is : (line : List ℕ) (v : ℕ) → header_of line ≡ Some v → (line ≡ version_line v) × ((v ≡ 1) ⊎ (v ≡ 2))
unfolding header_of
header_is line v e =
    elim (either (only_if (bytes_eq line (codes "cert 1")) 1) (only_if (bytes_eq line (codes "cert 2")) 2) v e) [
      | inl first ↦ (
          let same = kept (bytes_eq line (codes "cert 1")) (Some 1) v first in
          let value : 1 ≡ v = some_is 1 v same.1 in
          (same_text line (codes "cert 1") same.0 ∙ ap version_line value, inl (sym value))
          )
      | inr second ↦ (
          let same = kept (bytes_eq line (codes "cert 2")) (Some 2) v second in
          let value : 2 ≡ v = some_is 2 v same.1 in
          (same_text line (codes "cert 2") same.0 ∙ ap version_line value, inr (sym value))
          )
    ]

pub header_again : (v : ℕ) → (v ≡ 1) ⊎ (v ≡ 2) → header_of (version_line v) ≡ Some v
unfolding header_of
header_again v (inl is) = rw is refl
header_again v (inr is) = rw is refl

pub penalty_is : (line : List ℕ) (v : ℕ) → penalty_of line ≡ Some v → (line ≡ penalty_line v) × (1 ≤ v) × (v ≤ MOST_UNITS)
unfolding penalty_of
penalty_is line v e =
    let text = chained (behind (codes "penalty ") line) (λ t. decoding.◌>>=◌ (number_of t) (λ n. only_if (ltb 0 n) n)) v e in
    let number = chained (number_of text.0) (λ n. only_if (ltb 0 n) n) v text.2 in
    let above = kept (ltb 0 number.0) (Some number.0) v number.2 in
    let value : number.0 ≡ v = some_is number.0 v above.1 in
    let spelled = number_is text.0 number.0 number.1 in
    let positive = ltb-true 0 number.0 above.0 in
    (behind_is_rest (codes "penalty ") line text.0 text.1 ∙ ap (spaced (codes "penalty")) (spelled.0 ∙ ap decimal value), omega arith, omega (arith, spelled.1))

pub penalty_again : (v : ℕ) → 1 ≤ v → v ≤ MOST_UNITS → penalty_of (penalty_line v) ≡ Some v
unfolding penalty_of
penalty_again v above below = rw (number_again v below, lt-ltb 0 v above) refl

pub interval_is : (line : List ℕ) (lower upper : ℕ) → interval_of line ≡ Some (lower, upper) → (line ≡ interval_line lower upper) × (lower ≤ MOST_UNITS) × (upper ≤ MOST_UNITS)
unfolding interval_of
interval_is line lower upper e =
    let text = chained (behind (codes "interval ") line) (λ t. decoding.◌>>=◌ (field_at t) (λ l. decoding.◌>>=◌ (number_of l.1) (λ u. Some (l.0, u)))) (lower, upper) e in
    let low = chained (field_at text.0) (λ l. decoding.◌>>=◌ (number_of l.1) (λ u. Some (l.0, u))) (lower, upper) text.2 in
    let high = chained (number_of low.0.1) (λ u. Some (low.0.0, u)) (lower, upper) low.2 in
    let same = some_is (low.0.0, high.0) (lower, upper) high.2 in
    let l : low.0.0 ≡ lower = ap (λ (p : ℕ × ℕ). p.0) same in
    let u : high.0 ≡ upper = ap (λ (p : ℕ × ℕ). p.1) same in
    let first = field_is text.0 low.0.0 low.0.1 low.1 in
    let second = number_is low.0.1 high.0 high.1 in (
      behind_is_rest (codes "interval ") line text.0 text.1 ∙ ap (spaced (codes "interval")) (first.0 ∙ ap (spaced (decimal low.0.0)) second.0) ∙ ap (λ (p : ℕ × ℕ). interval_line p.0 p.1) same,
      omega (arith, first.1),
      omega (arith, second.1),
    )

pub interval_again : (lower upper : ℕ) → lower ≤ MOST_UNITS → upper ≤ MOST_UNITS → interval_of (interval_line lower upper) ≡ Some (lower, upper)
unfolding interval_of
interval_again lower upper l u = rw (field_again lower (decimal upper) l, number_again upper u) refl

pub count_is : (word line : List ℕ) (n : ℕ) → count_of word line ≡ Some n → (line ≡ word ++ decimal n) × (n ≤ MOST_COUNT)
unfolding count_of
count_is word line n e =
    let text = chained (behind word line) (λ t. decoding.◌>>=◌ (number_of t) (λ m. only_if (leb m MOST_COUNT) m)) n e in
    let number = chained (number_of text.0) (λ m. only_if (leb m MOST_COUNT) m) n text.2 in
    let below = kept (leb number.0 MOST_COUNT) (Some number.0) n number.2 in
    let value : number.0 ≡ n = some_is number.0 n below.1 in
    let spelled = number_is text.0 number.0 number.1 in
    let few = leb-true number.0 MOST_COUNT below.0 in
    (behind_is_rest word line text.0 text.1 ∙ ap (λ (x : List ℕ). word ++ x) (spelled.0 ∙ ap decimal value), omega (arith, few, value))

pub behind_again : (front rest : List ℕ) → behind front (front ++ rest) ≡ Some rest
behind_again [] rest = refl
behind_again (b ∷ front) rest = rw (eq-eqb b b refl) (behind_again front rest)

pub count_again : (word : List ℕ) (n : ℕ) → n ≤ MOST_COUNT → count_of word (word ++ decimal n) ≡ Some n
unfolding count_of
count_again word n few = rw (behind_again word (decimal n), number_again n (omega (arith, few)), le-leb n MOST_COUNT few) refl

pub values_in_range : (penalty_text interval_text : List ℕ) (penalty lower upper : ℕ) → penalty_of penalty_text ≡ Some penalty → interval_of interval_text ≡ Some (lower, upper) → InRange penalty lower upper
values_in_range penalty_text interval_text penalty lower upper p i =
    let first = penalty_is penalty_text penalty p in
    let ends = interval_is interval_text lower upper i in
    record { penalty_in = (first.1, first.2); lower_in = ends.1; upper_in = ends.2 }

-- ---- the end

pub nothing_is : (k : ℕ) (rest : List (List ℕ)) (u : Unit {0}) → nothing_at k rest ≡ Ok u → rest ≡ [] ∷ []
nothing_is k [] u e = absurd cc
nothing_is k (last ∷ []) u e =
    let empty = test_passes (eqb (length last) 0) tt (Syntax k) u e in
    ap (λ (text : List ℕ). text ∷ []) (nil_from_length last (eqb-true (length last) 0 empty.0))
nothing_is k (line ∷ next ∷ more) u e = absurd cc

pub end_is : (line : List ℕ) (u : Unit {0}) → end_of line ≡ Some u → line ≡ codes "end"
end_is line u e = same_text line (codes "end") (kept (bytes_eq line (codes "end")) (Some tt) u e).0

-- ---- what is no line of another place

no_end : (line : List ℕ) (first : ℕ) (more : List ℕ) → line ≡ first ∷ more → first < 101 → end_of line ≡ None
no_end line first more is low = rw (is, ne_eqb first 101 (λ e. omega (arith, e, low))) refl

digit_first : (n : ℕ) → n ≤ MOST_UNITS → (first : ℕ) × (more : List ℕ) × (decimal n ≡ first ∷ more) × (first < 58)
digit_first n below = by (decimal n) refl (decimal_nonempty n (omega (arith, below))) (digits_decimal_of n below)
  where
    by : (ds : List ℕ) → decimal n ≡ ds → 0 < length ds → all_ascii_digits ds ≡ true → (first : ℕ) × (more : List ℕ) × (decimal n ≡ first ∷ more) × (first < 58)
    by [] is some digits = absurd (omega (arith, some))
    by (d ∷ ds) is some digits =
        let both = and_parts (is_ascii_digit d) (all_ascii_digits ds) digits in
        let range = and_parts (leb 48 d) (leb d 57) both.0 in
        let low : d ≤ 57 = leb-true d 57 range.1 in
        (d, ds, is, omega (arith, low))

-- no row is spelled `end`
pub spaced_is_no_end : (n : ℕ) (rest : List ℕ) → n ≤ MOST_UNITS → end_of (spaced (decimal n) rest) ≡ None
spaced_is_no_end n rest below =
    let digit = digit_first n below in
    no_end (spaced (decimal n) rest) digit.0 (digit.1 ++ 32 ∷ rest) (ap (λ (ds : List ℕ). ds ++ 32 ∷ rest) digit.2) (omega (arith, digit.3))

-- no list of names is a word and a count
pub list_is_no_count : (first : ℕ) (more text : List ℕ) → (40 ≡ first → ⊥) → IsNameList text → count_of (first ∷ more) text ≡ None
unfolding count_of
list_is_no_count first more text apart list = rw (list.spelled, ne_eqb 40 first apart) refl
