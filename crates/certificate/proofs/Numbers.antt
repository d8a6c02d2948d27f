-- Numbers at the front of a text, and lists of numbers with a blank before each.
use Rattle.std.proofs.Common.{◌≡◌, ℕ, ◌<◌, ◌≤◌, Bool, true, false, cond, ltb, eqb, not, List, [], ◌∷◌, ◌++◌, length, map, Option, Some, None, option_map, refl, ap, sym, subst, ◌∙◌, arith, inl, inr}
use Rattle.std.specs.Prelude.{codes, decimal}
use Rattle.std.specs.Char.{is_ascii_digit}
use Rattle.std.specs.Str.{all_ascii_digits}
use Rattle.std.specs.List.{onto_first, join_with_byte, flat_map, list_any, AllByRecursion}
use Rattle.std.proofs.lemmas.Bool.{and_parts, and_right, not-true, ltb-true, lt-ltb, eqb-true, ne_eqb}
use Rattle.std.proofs.lemmas.Bool.Decides.{eqb_tells}
use Rattle.std.proofs.lemmas.List.{append-nil, nil_from_length}
use Rattle.std.proofs.lemmas.List.Splits.{join_with_byte-slice_split}
use Rattle.certificate.specs.declared.limits.TheConstants.{MOST_UNITS}
use Rattle.certificate.specs.Spelling.{spaced}
use Rattle.certificate.specs.Decoding.{◌>>=◌, only_if, behind, parts, number_of, digits_at, number_at, field_at, place_at, places_of, spaced_places}
use Rattle.certificate.proofs.Steps.{some_is, kept, mapped, chained, or_parts}
use Rattle.certificate.proofs.Cuts.{behind_is_rest}
use Rattle.certificate.proofs.Parts.{HasFirst-parts, parts_join}
use Rattle.certificate.proofs.Decimals.{number_is, number_again, no_digits, digits_decimal_of, decimal_lacks, digits_lack}

-- ---- the digits that a text begins with

abbrev digits_after : Bool → ℕ → List ℕ → List ℕ × List ℕ → List ℕ × List ℕ
digits_after test b text p = cond test (b ∷ p.0, p.1) ([], b ∷ text)

pub digits_whole : (text : List ℕ) → text ≡ (digits_at text).0 ++ (digits_at text).1
digits_whole [] = refl
digits_whole (b ∷ text) = by (is_ascii_digit b) (digits_at text) (digits_whole text)
  where
    by : (v : Bool) (p : List ℕ × List ℕ) → text ≡ p.0 ++ p.1 → b ∷ text ≡ (digits_after v b text p).0 ++ (digits_after v b text p).1
    by true p is = ap (λ (x : List ℕ). b ∷ x) is
    by false p is = refl

pub digits_are : (text : List ℕ) → all_ascii_digits (digits_at text).0 ≡ true
digits_are [] = refl
digits_are (b ∷ text) = by (is_ascii_digit b) refl (digits_at text) (digits_are text)
  where
    by : (v : Bool) → is_ascii_digit b ≡ v → (p : List ℕ × List ℕ) → all_ascii_digits p.0 ≡ true → all_ascii_digits (digits_after v b text p).0 ≡ true
    by true is p are = rw (is, are) refl
    by false is p are = refl

-- no digit stands first
abbrev pub no_digit : List ℕ → Bool
no_digit [] = true
no_digit (b ∷ text) = not (is_ascii_digit b)

pub no_digit_behind : (text : List ℕ) → no_digit (digits_at text).1 ≡ true
no_digit_behind [] = refl
no_digit_behind (b ∷ text) = by (is_ascii_digit b) refl (digits_at text) (no_digit_behind text)
  where
    by : (v : Bool) → is_ascii_digit b ≡ v → (p : List ℕ × List ℕ) → no_digit p.1 ≡ true → no_digit (digits_after v b text p).1 ≡ true
    by true is p stops = stops
    by false is p stops = rw is refl

pub digits_again : (ds rest : List ℕ) → all_ascii_digits ds ≡ true → no_digit rest ≡ true → digits_at (ds ++ rest) ≡ (ds, rest)
digits_again [] [] digits stops = refl
digits_again [] (b ∷ rest) digits stops = rw (not-true (is_ascii_digit b) stops) refl
digits_again (d ∷ ds) rest digits stops =
    let both = and_parts (is_ascii_digit d) (all_ascii_digits ds) digits in
    rw (both.0, digits_again ds rest both.1 stops) refl

-- ---- a number and what stands behind it

pub number_at_is : (text : List ℕ) (n : ℕ) (rest : List ℕ) → number_at text ≡ Some (n, rest) → (text ≡ decimal n ++ rest) × (n ≤ MOST_UNITS)
unfolding number_at
number_at_is text n rest e =
    let found = mapped (λ (m : ℕ). (m, (digits_at text).1)) (number_of (digits_at text).0) (n, rest) e in
    let value : found.0 ≡ n = ap (λ (p : ℕ × List ℕ). p.0) found.2 in
    let after : (digits_at text).1 ≡ rest = ap (λ (p : ℕ × List ℕ). p.1) found.2 in
    let spelled = number_is (digits_at text).0 found.0 found.1 in
    (digits_whole text ∙ ap (λ (x : List ℕ). x ++ (digits_at text).1) (spelled.0 ∙ ap decimal value) ∙ ap (λ (x : List ℕ). decimal n ++ x) after, omega (arith, spelled.1, value))

pub number_at_again : (n : ℕ) (rest : List ℕ) → n ≤ MOST_UNITS → no_digit rest ≡ true → number_at (decimal n ++ rest) ≡ Some (n, rest)
unfolding number_at
number_at_again n rest below stops = rw (digits_again (decimal n) rest (digits_decimal_of n below) stops, number_again n below) refl

pub field_is : (text : List ℕ) (n : ℕ) (rest : List ℕ) → field_at text ≡ Some (n, rest) → (text ≡ spaced (decimal n) rest) × (n ≤ MOST_UNITS)
unfolding field_at
field_is text n rest e =
    let found = chained (number_at text) (λ f. behind (codes " ") f.1 >>= λ r. Some (f.0, r)) (n, rest) e in
    let blank = chained (behind (codes " ") found.0.1) (λ r. Some (found.0.0, r)) (n, rest) found.2 in
    let is = some_is (found.0.0, blank.0) (n, rest) blank.2 in
    let value : found.0.0 ≡ n = ap (λ (p : ℕ × List ℕ). p.0) is in
    let after : blank.0 ≡ rest = ap (λ (p : ℕ × List ℕ). p.1) is in
    let number = number_at_is text found.0.0 found.0.1 found.1 in
    let tail : found.0.1 ≡ 32 ∷ blank.0 = behind_is_rest (codes " ") found.0.1 blank.0 blank.1 in
    (number.0 ∙ ap (λ (x : List ℕ). decimal found.0.0 ++ x) tail ∙ ap (λ (p : ℕ × List ℕ). spaced (decimal p.0) p.1) is, omega (arith, number.1, value))

pub field_again : (n : ℕ) (rest : List ℕ) → n ≤ MOST_UNITS → field_at (spaced (decimal n) rest) ≡ Some (n, rest)
unfolding field_at
field_again n rest below = rw (number_at_again n (32 ∷ rest) below refl) refl

pub place_is : (m : ℕ) (text : List ℕ) (n : ℕ) (rest : List ℕ) → place_at m text ≡ Some (n, rest) → (text ≡ decimal n ++ rest) × (n < m)
unfolding place_at
place_is m text n rest e =
    let found = chained (number_at text) (λ f. only_if (ltb f.0 m) f) (n, rest) e in
    let below = kept (ltb found.0.0 m) (Some found.0) (n, rest) found.2 in
    let is = some_is found.0 (n, rest) below.1 in
    let value : found.0.0 ≡ n = ap (λ (p : ℕ × List ℕ). p.0) is in
    let number = number_at_is text found.0.0 found.0.1 found.1 in
    (number.0 ∙ ap (λ (p : ℕ × List ℕ). decimal p.0 ++ p.1) is, omega (arith, ltb-true found.0.0 m below.0, value))

pub place_again : (m n : ℕ) (rest : List ℕ) → n < m → n ≤ MOST_UNITS → no_digit rest ≡ true → place_at m (decimal n ++ rest) ≡ Some (n, rest)
unfolding place_at
place_again m n rest lt below stops = rw (number_at_again n rest below stops, lt-ltb n m lt) refl

-- ---- numbers with a blank before each

pub places_are : (m : ℕ) (texts : List (List ℕ)) (ns : List ℕ) → places_of m texts ≡ Some ns → (texts ≡ map decimal ns) × AllByRecursion (λ n. n < m) ns
places_are m [] ns e = subst (λ (all : List ℕ). ([] ≡ map decimal all) × AllByRecursion (λ n. n < m) all) (some_is [] ns e) (refl, tt)
places_are m (part ∷ more) ns e =
    let number = chained (number_of part) (λ n. places_of m more >>= λ others. only_if (ltb n m) (n ∷ others)) ns e in
    let others = chained (places_of m more) (λ o. only_if (ltb number.0 m) (number.0 ∷ o)) ns number.2 in
    let below = kept (ltb number.0 m) (Some (number.0 ∷ others.0)) ns others.2 in
    let same : number.0 ∷ others.0 ≡ ns = some_is (number.0 ∷ others.0) ns below.1 in
    let rest = places_are m more others.0 others.1 in
    subst (λ (all : List ℕ). (part ∷ more ≡ map decimal all) × AllByRecursion (λ n. n < m) all) same (
      ap (λ (x : List ℕ). x ∷ more) (number_is part number.0 number.1).0 ∙ ap (λ (x : List (List ℕ)). decimal number.0 ∷ x) rest.0,
      (ltb-true number.0 m below.0, rest.1),
    )

pub places_again : (m : ℕ) (ns : List ℕ) → m ≤ MOST_UNITS → AllByRecursion (λ n. n < m) ns → places_of m (map decimal ns) ≡ Some ns
places_again m [] few are = refl
places_again m (n ∷ ns) few are = rw (number_again n (omega (arith, are.0)), places_again m ns few are.1, lt-ltb n m are.0) refl

join_spaced : (ns : List ℕ) → join_with_byte 32 ([] ∷ map decimal ns) ≡ flat_map (λ n. 32 ∷ decimal n) ns
join_spaced [] = refl
join_spaced (n ∷ []) = ap (λ (x : List ℕ). 32 ∷ x) (sym (append-nil (decimal n)))
join_spaced (n ∷ m ∷ ns) = ap (λ (x : List ℕ). 32 ∷ (decimal n ++ x)) (join_spaced (m ∷ ns))

decimals_lack : (m : ℕ) (ns : List ℕ) → m ≤ MOST_UNITS → AllByRecursion (λ n. n < m) ns → AllByRecursion (λ text. list_any (λ b. eqb b 32) text ≡ false) (map decimal ns)
decimals_lack m [] few are = tt
decimals_lack m (n ∷ ns) few are = (decimal_lacks 32 n (omega arith) (omega (arith, are.0)), decimals_lack m ns few are.1)

pub spaced_are : (m : ℕ) (text : List ℕ) (ns : List ℕ) → spaced_places m (parts 32 text) ≡ Some ns → (text ≡ flat_map (λ n. 32 ∷ decimal n) ns) × AllByRecursion (λ n. n < m) ns
spaced_are m text ns e =
    let first = HasFirst-parts 32 text in
    let read : spaced_places m (first.first ∷ first.others) ≡ Some ns = sym (ap (spaced_places m) first.is) ∙ e in
    let empty = kept (eqb (length first.first) 0) (places_of m first.others) ns read in
    let nil : first.first ≡ [] = nil_from_length first.first (eqb-true (length first.first) 0 empty.0) in
    let rest = places_are m first.others ns empty.1 in
    let is : parts 32 text ≡ [] ∷ map decimal ns = first.is ∙ ap (λ (x : List ℕ). x ∷ first.others) nil ∙ ap (λ (x : List (List ℕ)). [] ∷ x) rest.0 in
    (sym (join_with_byte-slice_split 32 text) ∙ ap (join_with_byte 32) is ∙ join_spaced ns, rest.1)

pub spaced_again : (m : ℕ) (ns : List ℕ) → m ≤ MOST_UNITS → AllByRecursion (λ n. n < m) ns → spaced_places m (parts 32 (flat_map (λ n. 32 ∷ decimal n) ns)) ≡ Some ns
spaced_again m ns few are =
    let cut : parts 32 (flat_map (λ n. 32 ∷ decimal n) ns) ≡ [] ∷ map decimal ns =
    ap (parts 32) (sym (join_spaced ns)) ∙ parts_join 32 ([] ∷ map decimal ns) (refl, decimals_lack m ns few are) (omega arith) in
    ap (spaced_places m) cut ∙ places_again m ns few are

-- ---- number after number

parts_front : (ds rest : List ℕ) (first : List ℕ) (others : List (List ℕ)) → list_any (λ b. eqb b 32) ds ≡ false → parts 32 rest ≡ first ∷ others → parts 32 (ds ++ rest) ≡ (ds ++ first) ∷ others
parts_front [] rest first others lacks is = is
parts_front (d ∷ ds) rest first others lacks is =
    let both = or_parts (eqb d 32) (list_any (λ b. eqb b 32) ds) lacks in
    rw (both.0, parts_front ds rest first others both.1 is) refl

head_is : (c b : ℕ) (p q : List ℕ) (o r : List (List ℕ)) → (c ∷ p) ∷ o ≡ (b ∷ q) ∷ r → c ≡ b
head_is c b p q o r e = cc

no_head : (b : ℕ) (q : List ℕ) (o r : List (List ℕ)) → [] ∷ o ≡ (b ∷ q) ∷ r → ⊥
no_head b q o r e = absurd cc

first_byte : (rest : List ℕ) (b : ℕ) (first : List ℕ) (others : List (List ℕ)) → parts 32 rest ≡ (b ∷ first) ∷ others → no_digit rest ≡ true → is_ascii_digit b ≡ false
first_byte [] b first others is stops = absurd (no_head b first [] others is)
first_byte (c ∷ rest) b first others is stops =
    let next = HasFirst-parts 32 rest in
    elim (eqb_tells c 32) [
      | inl blank ↦ absurd (no_head b first (parts 32 rest) others (rw blank.0 at is))
      | inr apart ↦ (
          let at : onto_first c (parts 32 rest) ≡ (b ∷ first) ∷ others = rw apart.0 at is in
          let same : c ≡ b = head_is c b next.first first next.others others (sym (ap (onto_first c) next.is) ∙ at) in
          ap is_ascii_digit (sym same) ∙ not-true (is_ascii_digit c) stops
          )
    ]

not_all_digits : (ds : List ℕ) (b : ℕ) (more : List ℕ) → is_ascii_digit b ≡ false → all_ascii_digits (ds ++ b ∷ more) ≡ false
not_all_digits [] b more apart = rw apart refl
not_all_digits (d ∷ ds) b more apart = and_right (is_ascii_digit d) (all_ascii_digits (ds ++ b ∷ more)) (not_all_digits ds b more apart)

abbrev below : ℕ → Option ℕ → List ℕ → Option (ℕ × List ℕ)
below m number rest = option_map (λ n. (n, rest)) number >>= λ f. only_if (ltb f.0 m) f

abbrev pub number_then : Option (ℕ × List ℕ) → (List ℕ → Option (List ℕ)) → Option (List ℕ)
number_then number behind = number >>= λ p. behind p.1 >>= λ others. Some (p.0 ∷ others)

each : (m : ℕ) (number : Option ℕ) (rest : List ℕ) (behind : List ℕ → Option (List ℕ)) → (number >>= λ n. behind rest >>= λ others. only_if (ltb n m) (n ∷ others)) ≡ number_then (below m number rest) behind
each m None rest behind = refl
each m (Some n) rest behind = by (behind rest) refl (ltb n m)
  where
    by : (o : Option (List ℕ)) → behind rest ≡ o → (v : Bool) → (behind rest >>= λ others. cond v (Some (n ∷ others)) None) ≡ number_then (cond v (Some (n, rest)) None) behind
    by o is true = refl
    by None is false = rw is refl
    by (Some others) is false = rw is refl

none_then : (m : ℕ) (number : Option ℕ) (rest : List ℕ) (behind : List ℕ → Option (List ℕ)) → behind rest ≡ None → number_then (below m number rest) behind ≡ None
none_then m None rest behind none = refl
none_then m (Some n) rest behind none = by (ltb n m)
  where
    by : (v : Bool) → number_then (cond v (Some (n, rest)) None) behind ≡ None
    by true = rw none refl
    by false = refl

not_empty : (m b : ℕ) (first : List ℕ) (others : List (List ℕ)) → spaced_places m ((b ∷ first) ∷ others) ≡ None
not_empty m b first others = rw (ne_eqb (length (b ∷ first)) 0 (λ e. omega arith)) refl

-- the number that a text begins with, and those behind it
pub places_step : (m : ℕ) (text : List ℕ) → places_of m (parts 32 text) ≡ number_then (place_at m text) (λ rest. spaced_places m (parts 32 rest))
unfolding place_at number_at
places_step m text =
    let next = HasFirst-parts 32 (digits_at text).1 in
    let cut : parts 32 text ≡ ((digits_at text).0 ++ next.first) ∷ next.others =
    ap (parts 32) (digits_whole text) ∙ parts_front (digits_at text).0 (digits_at text).1 next.first next.others (digits_lack 32 (digits_at text).0 (omega arith) (digits_are text)) next.is in
    ap (places_of m) cut ∙ by (digits_at text).0 (digits_at text).1 next.first next.others next.is (no_digit_behind text)
  where
    by : (ds rest first : List ℕ) (others : List (List ℕ)) → parts 32 rest ≡ first ∷ others → no_digit rest ≡ true → places_of m ((ds ++ first) ∷ others) ≡ number_then (below m (number_of ds) rest) (λ r. spaced_places m (parts 32 r))
    by ds rest [] others is stops =
        let behind : spaced_places m (parts 32 rest) ≡ places_of m others = ap (spaced_places m) is in
        rw (append-nil ds, ← behind) (each m (number_of ds) rest (λ r. spaced_places m (parts 32 r)))
    by ds rest (b ∷ first) others is stops =
        let apart = first_byte rest b first others is stops in
        let none : number_of (ds ++ b ∷ first) ≡ None = no_digits (ds ++ b ∷ first) (not_all_digits ds b first apart) in
        let behind : spaced_places m (parts 32 rest) ≡ None = ap (spaced_places m) is ∙ not_empty m b first others in
        rw none (sym (none_then m (number_of ds) rest (λ r. spaced_places m (parts 32 r)) behind))

-- the texts behind the first part are numbers, where that is empty
pub spaced_step : (m : ℕ) (text after : List ℕ) → text ≡ 32 ∷ after → spaced_places m (parts 32 text) ≡ number_then (place_at m after) (λ rest. spaced_places m (parts 32 rest))
spaced_step m text after is = ap (λ (t : List ℕ). spaced_places m (parts 32 t)) is ∙ places_step m after

-- no number where something else than a blank stands
pub spaced_fails : (m : ℕ) (text : List ℕ) → eqb (length text) 0 ≡ false → behind (codes " ") text ≡ None → spaced_places m (parts 32 text) ≡ None
spaced_fails m [] some none = absurd cc
spaced_fails m (b ∷ text) some none =
    let next = HasFirst-parts 32 text in
    elim (eqb_tells b 32) [
      | inl blank ↦ absurd (never (rw blank.0 at none))
      | inr apart ↦ (rw (apart.0, next.is) (not_empty m b next.first next.others))
    ]
  where
    never : {A : Type 0} {x : A} → Some x ≡ None → ⊥
    never e = absurd cc
