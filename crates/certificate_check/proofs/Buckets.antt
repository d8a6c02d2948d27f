-- Rows that are found by the links of their bucket.
--     IsSearch x s number        the row of s, if it has one, is this one, counted from 1, or one before it in the bucket
use Rattle.std.proofs.Common.{◌≡◌, ◌≢◌, inl, inr, ℕ, zero, suc, ◌+◌, ◌<◌, ◌≤◌, ◌++◌, Bool, true, false, cond, List, [], ◌∷◌, Some, None, length, get_or, refl, sym, ap, subst, ◌∙◌, arith}
use Rattle.std.specs.Prelude.{Contains, nat_eq, slice_set, option_map}
use Rattle.std.specs.List.{slice_get}
use Rattle.std.proofs.lemmas.Bool.{cases_Bool, cases_lt, true≢false, and_parts, and_from, eq-eqb, eqb-true}
use Rattle.std.proofs.lemmas.List.{get_or_push, get_or_append_left, length_push, get_or-set_same, get_or-set_other, length-set}
use Rattle.std.proofs.lemmas.Option.{slice_get-get_or, slice_get_within, get_or_from_slice_get}
use Rattle.plain_list.proofs.Members.{Contains-first, Contains-later}
use Rattle.certificate.specs.Rows.{Row}
use Rattle.certificate.specs.Content.{Content, IsCertificate}
use Rattle.decision_process.specs.Readings as readings
use Rattle.decision_process.specs.Readings.{row_at}
use Rattle.ground_model.specs.Packed.{State, same_state}
use Rattle.ground_model.specs.Ground.{Ground}
use Rattle.certificate_check.specs.Claims.{knows, row_state, row_of, rows_of}
use Rattle.certificate_check.specs.GroundRows.{Claimed, bounds_of, bounds_in}
use Rattle.certificate_check.specs.Buckets.{last_before, buckets_of, bucket_of, is_row_in, is_in, HasLinks, IsRowOf}
use Rattle.certificate_check.proofs.Distinct.{rows_known, rows_unknown}
use Rattle.certificate_check.proofs.Sound.{states_exact, read}

-- ---- the last place that is hit

module _ (hit : ℕ → Bool) where
  last_on : (p : ℕ) → hit p ≡ true → last_before hit (suc p) ≡ suc p
  last_on p on = ap (λ b. cond b (suc p) (last_before hit p)) on

  last_off : (p : ℕ) → hit p ≡ false → last_before hit (suc p) ≡ last_before hit p
  last_off p off = ap (λ b. cond b (suc p) (last_before hit p)) off

  none_before : (m : ℕ) → last_before hit m ≡ 0 → (q : ℕ) → q < m → hit q ≡ true → ⊥
  none_before zero none q below on = omega (arith, below)
  none_before (suc m) none q below on = elim (cases_Bool (hit m)) [
    | inl here ↦ (let some : suc m ≡ 0 = sym (last_on m here) ∙ none in omega (arith, some))
    | inr off ↦ elim (cases_lt q m) [
      | inl under ↦ none_before m (sym (last_off m off) ∙ none) q under on
      | inr past ↦ true≢false (sym on ∙ ap hit (let same : q ≡ m = omega (arith, past, below) in same) ∙ off)
    ]
  ]

  last_within : (m : ℕ) → last_before hit m ≤ m
  last_within zero = omega arith
  last_within (suc m) = elim (cases_Bool (hit m)) [
    | inl here ↦ (let is = last_on m here in omega (arith, is))
    | inr off ↦ (let is = last_off m off in let rest = last_within m in omega (arith, is, rest))
  ]

  last_tells : (m p : ℕ) → last_before hit m ≡ suc p → (p < m) × (hit p ≡ true) × ((q : ℕ) → p < q → q < m → hit q ≡ true → ⊥)
  last_tells zero p is = absurd (omega (arith, is))
  last_tells (suc m) p is = elim (cases_Bool (hit m)) [
    | inl here ↦
        let next : suc m ≡ suc p = sym (last_on m here) ∙ is in
        let same : p ≡ m = omega (arith, next) in
        (omega (arith, same), ap hit same ∙ here, (λ q after below on. omega (arith, after, below, same)))
    | inr off ↦
        let rest : (p < m) × (hit p ≡ true) × ((q : ℕ) → p < q → q < m → hit q ≡ true → ⊥) = last_tells m p (sym (last_off m off) ∙ is) in (
          omega (arith, rest.0),
          rest.1,
          (λ q after below on. elim (cases_lt q m) [
            | inl under ↦ rest.2 q after under on
            | inr past ↦ true≢false (sym on ∙ ap hit (let same : q ≡ m = omega (arith, past, below) in same) ∙ off)
          ]),
        )
  ]

-- ---- the rows of a bucket

module _ (x : Claimed) where
  in_bucket : (b p : ℕ) (r : Row) → slice_get x.certificate.rows p ≡ Some r → knows x.problem x.certificate r ≡ true
      → bucket_of x (row_state x.problem x.certificate r) ≡ b → is_in x b p ≡ true
  in_bucket b p r at known is =
      ap (is_row_in x b) at
      ∙ and_from (knows x.problem x.certificate r) (nat_eq (bucket_of x (row_state x.problem x.certificate r)) b) known (eq-eqb _ _ is)

  bucket_tells : (b p : ℕ) (r : Row) → slice_get x.certificate.rows p ≡ Some r → is_in x b p ≡ true
      → (knows x.problem x.certificate r ≡ true) × (bucket_of x (row_state x.problem x.certificate r) ≡ b)
  bucket_tells b p r at on =
      let parts = and_parts (knows x.problem x.certificate r) (nat_eq (bucket_of x (row_state x.problem x.certificate r)) b)
      (sym (ap (is_row_in x b) at) ∙ on) in
      (parts.0, eqb-true _ _ parts.1)

  out_of_bucket : (b p : ℕ) (r : Row) → slice_get x.certificate.rows p ≡ Some r
      → (knows x.problem x.certificate r ≡ true → bucket_of x (row_state x.problem x.certificate r) ≡ b → ⊥) → is_in x b p ≡ false
  out_of_bucket b p r at other = elim (cases_Bool (is_in x b p)) [
    | inl on ↦ (let tells = bucket_tells b p r at on in absurd (other tells.0 tells.1))
    | inr off ↦ off
  ]

  module _ (p : ℕ) (lasts befores : List ℕ) (has : HasLinks x p lasts befores) (r : Row) (at : slice_get x.certificate.rows p ≡ Some r) where
    old_before : (n q : ℕ) → q < p → get_or (befores ++ n ∷ []) q 0 ≡ get_or befores q 0
    old_before n q below = get_or_append_left befores (n ∷ []) 0 q (omega (arith, below, has.long))

    module _ (bucket : ℕ) (known : knows x.problem x.certificate r ≡ true)
        (bucket_is : bucket ≡ bucket_of x (row_state x.problem x.certificate r)) (within : bucket < buckets_of x) where
      here : is_in x bucket p ≡ true
      here = in_bucket bucket p r at known (sym bucket_is)

      own : (b : ℕ) → is_in x b p ≡ true → b ≡ bucket
      own b on = sym (bucket_is ∙ (bucket_tells b p r at on).1)

      pub links_put : (n m : ℕ) → n ≡ get_or lasts bucket 0 → m ≡ p + 1 → HasLinks x (p + 1) (slice_set lasts bucket m) (befores ++ n ∷ [])
      links_put n m n_is m_is =
          let next : p + 1 ≡ suc p = omega arith in
          let there : bucket < length lasts = omega (arith, within, has.buckets) in
          subst (λ k. HasLinks x k (slice_set lasts bucket m) (befores ++ n ∷ [])) (sym next) (record {
            few = has.few;
            buckets = length-set lasts bucket m ∙ has.buckets;
            long = length_push befores n ∙ omega (arith, has.long);
            lasts_are = λ b inside. elim (cases_Bool (nat_eq b bucket)) [
              | inl same ↦
                  let is : b ≡ bucket = eqb-true b bucket same in
                  ap (λ k. get_or (slice_set lasts bucket m) k 0) is ∙ get_or-set_same lasts bucket m 0 there
                  ∙ (let e : m ≡ suc p = omega (arith, m_is) in e)
                  ∙ sym (ap (λ k. last_before (is_in x k) (suc p)) is ∙ last_on (is_in x bucket) p here)
              | inr other ↦
                  let differ : b ≢ bucket = λ is. true≢false (sym (eq-eqb b bucket is) ∙ other) in
                  get_or-set_other lasts bucket b m 0 differ ∙ has.lasts_are b inside
                  ∙ sym (last_off (is_in x b) p (out_of_bucket b p r at (λ _ is. differ (sym (bucket_is ∙ is)))))
            ];
            befores_are = λ q b below on. elim (cases_lt q p) [
              | inl under ↦ old_before n q under ∙ has.befores_are q b under on
              | inr past ↦
                  let same : q ≡ p = omega (arith, past, below) in
                  let mine : b ≡ bucket = own b (ap (is_in x b) (sym same) ∙ on) in
                  ap (λ k. get_or (befores ++ n ∷ []) k 0) same ∙ get_or_push befores n 0 p has.long ∙ n_is ∙ has.lasts_are bucket within
                  ∙ (λ j. last_before (is_in x (sym mine j)) (sym same j))
            ];
          })

  -- ---- a search along the links

  pub record IsSearch (s : State) (number : ℕ) : Type 0 where
    pub past : ℕ
    pub within : past ≤ length x.certificate.rows
    pub number_is : number ≡ last_before (is_in x (bucket_of x s)) past
    pub none_behind : (q : ℕ) (r : Row) → past ≤ q → slice_get x.certificate.rows q ≡ Some r → knows x.problem x.certificate r ≡ true
        → row_state x.problem x.certificate r ≢ s

  module _ (lasts befores : List ℕ) (has : HasLinks x (length x.certificate.rows) lasts befores) (s : State) where
    module _ (number p : ℕ) (so_far : IsSearch s number) (number_is : number ≡ suc p) where
      tells : (p < so_far.past) × (is_in x (bucket_of x s) p ≡ true)
          × ((q : ℕ) → p < q → q < so_far.past → is_in x (bucket_of x s) q ≡ true → ⊥)
      tells = last_tells (is_in x (bucket_of x s)) so_far.past p (sym so_far.number_is ∙ number_is)

      pub search_within : p < length x.certificate.rows
      search_within = omega (arith, tells.0, so_far.within)

      pub search_falls : (n : ℕ) → n ≡ get_or befores p 0 → n < number
      search_falls n n_is =
          let is = has.befores_are p (bucket_of x s) search_within tells.1 in
          let small = last_within (is_in x (bucket_of x s)) p in
          omega (arith, n_is, is, small, number_is)

      pub search_found : ((r : Row) → slice_get x.certificate.rows p ≡ Some r → row_state x.problem x.certificate r ≡ s)
          → IsRowOf x s (Some p)
      search_found same = (search_within, (λ r at. ((bucket_tells (bucket_of x s) p r at tells.1).0, same r at)))

      pub search_next : (n : ℕ) → ((r : Row) → slice_get x.certificate.rows p ≡ Some r → row_state x.problem x.certificate r ≢ s)
          → n ≡ get_or befores p 0 → IsSearch s n
      search_next n differs n_is = record {
        past = p;
        within = omega (arith, search_within);
        number_is = n_is ∙ has.befores_are p (bucket_of x s) search_within tells.1;
        none_behind = λ q r after at known same. elim (cases_lt q so_far.past) [
          | inr past ↦ so_far.none_behind q r past at known same
          | inl below ↦ elim (cases_lt p q) [
            | inl behind ↦ tells.2 q behind below (in_bucket (bucket_of x s) q r at known (ap (bucket_of x) same))
            | inr not_behind ↦
                differs r (subst (λ k. slice_get x.certificate.rows k ≡ Some r) (let e : q ≡ p = omega (arith, not_behind, after) in e) at) same
          ]
        ];
      }

    pub search_none : (number : ℕ) → IsSearch s number → number ≡ 0 → IsRowOf x s None
    search_none number so_far none r inside known same =
        let at : slice_get x.certificate.rows inside.0 ≡ Some r
        = slice_get-get_or x.certificate.rows inside.0 r inside.1 ∙ ap Some inside.2 in
        elim (cases_lt inside.0 so_far.past) [
          | inl below ↦
              none_before (is_in x (bucket_of x s)) so_far.past (sym so_far.number_is ∙ none) inside.0 below
              (in_bucket (bucket_of x s) inside.0 r at known (ap (bucket_of x) same))
          | inr past ↦ so_far.none_behind inside.0 r past at known same
        ]

-- ---- the bounds of a row

module _ (g : Ground) (c : Content) (is : IsCertificate c) (s : State) where
  none_at : (rows : List Row) → ((r : Row) → Contains rows r → knows g c r ≡ true → row_state g c r ≢ s)
      → row_at same_state (rows_of g c rows) s ≡ None
  none_at [] never = refl
  none_at (r ∷ rows) never =
      let rest = none_at rows (λ o inside. never o (Contains-later r rows o inside)) in
      elim (cases_Bool (knows g c r)) [
        | inl known ↦
            let off : same_state (row_state g c r) s ≡ false = elim (cases_Bool (same_state (row_state g c r) s)) [
              | inl on ↦ absurd (never r (Contains-first r rows) known ((states_exact (row_state g c r) s).0 on))
              | inr off ↦ off
            ] in
            ap (λ (xs : List (readings.Row State ℕ)). row_at same_state xs s) (rows_known g c is.atoms_rise r rows known)
            ∙ ap (λ b. elim b [ true ↦ Some (row_of g c r) | false ↦ row_at same_state (rows_of g c rows) s ]) off
            ∙ rest
        | inr unknown ↦
            ap (λ (xs : List (readings.Row State ℕ)). row_at same_state xs s) (rows_unknown g c is.atoms_rise r rows unknown) ∙ rest
      ]

pub no_bounds : (x : Claimed) (s : State) → IsCertificate x.certificate → IsRowOf x s None → None ≡ bounds_in x s
no_bounds x s is none = sym (ap (option_map bounds_of) (none_at x.problem x.certificate is s x.certificate.rows none))

pub row_bounds : (x : Claimed) (s : State) (p : ℕ) (r : Row) → IsCertificate x.certificate → IsRowOf x s (Some p)
    → slice_get x.certificate.rows p ≡ Some r → Some (record { lower = r.lower; upper = r.upper }) ≡ bounds_in x s
row_bounds x s p r is found at =
    let known = (found.1 r at).0 in
    let inside : Contains x.certificate.rows r
    = (p, slice_get_within x.certificate.rows p r at, get_or_from_slice_get x.certificate.rows p r r at) in
    sym (ap (λ t. option_map bounds_of (row_at same_state (rows_of x.problem x.certificate x.certificate.rows) t)) (sym (found.1 r at).1)
    ∙ ap (option_map bounds_of) (read x.problem x.certificate is r inside known))
