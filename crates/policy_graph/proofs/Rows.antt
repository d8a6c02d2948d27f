-- The states of the rows of a certificate that is balanced for a problem, and the row of a state.
use Rattle.std.proofs.Common.{◌≡◌, ◌≢◌, inl, inr, ℕ, zero, suc, ◌+◌, ◌<◌, Bool, true, false, cond, ◌||◌, List, [], ◌∷◌, Some, None, length, take, map, filter, get_or, refl, sym, ap, subst, ◌∙◌, arith}
use Rattle.std.specs.Prelude.{AllPairs, Contains, nat_eq, position}
use Rattle.std.specs.List.{list_any, slice_get, AllByRecursion}
use Rattle.std.specs.Cmp.Lexicographic.{pointwise, bytes_decides}
use Rattle.std.proofs.lemmas.Bool.{cases_Bool, true≢false}
use Rattle.std.proofs.lemmas.List.{get_or-map, length-map, map-id}
use Rattle.std.proofs.lemmas.List.Quantifiers.{position-Some}
use Rattle.std.proofs.lemmas.Option.{get_or_from_slice_get, slice_get_within}
use Rattle.indexmap.specs.IndexSet.{insert_key}
use Rattle.plain_list.proofs.Members.{Contains-first, Contains-later}
use Rattle.certificate.specs.declared.act.Act.TheVariants.{GiveUp}
use Rattle.certificate.specs.Content.{Content, IsCertificate, IsRow}
use Rattle.certificate.specs.Rows.{Row}
use Rattle.certificate_check.specs.Claims.{knows, row_state, row_of, rows_of, IsBalancedFor}
use Rattle.certificate_check.proofs.Sound.{read}
use Rattle.decision_process.specs.Readings as readings
use Rattle.decision_process.specs.Readings.{HasDistinctStates, row_at}
use Rattle.ground_model.specs.Packed.{State, same_state}
use Rattle.ground_model.specs.Ground.{Ground}
use Rattle.ground_step.proofs.Names.{name_put}

-- one state more behind those that were put in
pub put_state : (states : List State) → AllPairs (λ s t. s ≢ t) states → (keys : List State) (i : ℕ) (s : State)
    → i < length states → keys ≡ take i states → s ≡ get_or states i []
    → insert_key (pointwise nat_eq) keys s ≡ take (i + 1) states
put_state states apart keys i s within so_far here =
    sym (map-id (insert_key (pointwise nat_eq) keys s))
    ∙ name_put (λ t. t) states apart keys i s within (map-id keys ∙ so_far) here

all_kept : {X : Type 0} (keep : X → Bool) (xs : List X) → ((x : X) → Contains xs x → keep x ≡ true) → filter keep xs ≡ xs
all_kept keep [] each = refl
all_kept keep (x ∷ xs) each =
    (λ j. cond (each x (Contains-first x xs) j) (x ∷ filter keep xs) (filter keep xs))
    ∙ ap (λ l. x ∷ l) (all_kept keep xs (λ y inside. each y (Contains-later x xs y inside)))

module _ (g : Ground) (c : Content) where
  no_row : Row
  no_row = record { lower = 0; upper = 0; act = GiveUp; atoms = [] }

  pub states_apart : IsBalancedFor g c → AllPairs (λ s t. s ≢ t) (map (row_state g c) c.rows)
  states_apart balanced = λ i j d below within same.
      let rows_are : rows_of g c c.rows ≡ map (row_of g c) c.rows
      = ap (map (row_of g c)) (all_kept (knows g c) c.rows balanced.atoms_known) in
      let apart : HasDistinctStates (map (row_of g c) c.rows) = subst HasDistinctStates rows_are balanced.balanced.distinct in
      let long : length (map (row_state g c) c.rows) ≡ length c.rows = length-map c.rows (row_state g c) in
      let long' : length (map (row_of g c) c.rows) ≡ length c.rows = length-map c.rows (row_of g c) in
      let here : j < length c.rows = omega (arith, within, long) in
      let before : i < length c.rows = omega (arith, below, here) in
      let state = (λ (row : readings.Row State ℕ). row.state) in
      apart i j (row_of g c no_row) below (omega (arith, here, long'))
      (ap state (get_or-map (row_of g c) c.rows i no_row (row_of g c no_row) before)
      ∙ sym (get_or-map (row_state g c) c.rows i no_row d before) ∙ same
      ∙ get_or-map (row_state g c) c.rows j no_row d here
      ∙ sym (ap state (get_or-map (row_of g c) c.rows j no_row (row_of g c no_row) here)))

  -- a row that is read in its place
  pub state_there : (i : ℕ) (r : Row) → slice_get c.rows i ≡ Some r → row_state g c r ≡ get_or (map (row_state g c) c.rows) i []
  state_there i r at =
      sym (get_or-map (row_state g c) c.rows i r [] (slice_get_within c.rows i r at)
      ∙ ap (row_state g c) (get_or_from_slice_get c.rows i r r at))

  -- the state that is found is that of the row in its place
  pub row_there : IsCertificate c → IsBalancedFor g c → (s : State) (i : ℕ) (r : Row)
      → position (pointwise nat_eq s) (map (row_state g c) c.rows) ≡ Some i → slice_get c.rows i ≡ Some r
      → row_at same_state (rows_of g c c.rows) s ≡ Some (row_of g c r)
  row_there is balanced s i r found at =
      let inside : Contains c.rows r = (i, slice_get_within c.rows i r at, get_or_from_slice_get c.rows i r r at) in
      let same : s ≡ row_state g c r
      = (bytes_decides s (get_or (map (row_state g c) c.rows) i [])).0
      (position-Some (pointwise nat_eq s) (map (row_state g c) c.rows) i [] found).1 ∙ sym (state_there i r at) in
      ap (row_at same_state (rows_of g c c.rows)) same ∙ read g c is r inside (balanced.atoms_known r inside)

  none_from : (rows : List Row) (s : State) → list_any (pointwise nat_eq s) (map (row_state g c) rows) ≡ false
      → row_at same_state (map (row_of g c) rows) s ≡ None
  none_from [] s none = refl
  none_from (r ∷ rows) s none =
      let rest = list_any (pointwise nat_eq s) (map (row_state g c) rows) in
      elim (cases_Bool (pointwise nat_eq s (row_state g c r))) [
        | inl on ↦ absurd (true≢false (sym (ap (λ b. b || rest) on) ∙ none))
        | inr off ↦
            let other : same_state (row_state g c r) s ≡ false = elim (cases_Bool (same_state (row_state g c r) s)) [
              | inl same ↦
                  absurd (true≢false (sym ((bytes_decides s (row_state g c r)).1 (sym ((bytes_decides (row_state g c r) s).0 same))) ∙ off))
              | inr differs ↦ differs
            ] in
            ap (λ b. elim b [ true ↦ Some (row_of g c r) | false ↦ row_at same_state (map (row_of g c) rows) s ]) other
            ∙ none_from rows s (sym (ap (λ b. b || rest) off) ∙ none)
      ]

  pub row_nowhere : IsBalancedFor g c → (s : State) → list_any (pointwise nat_eq s) (map (row_state g c) c.rows) ≡ false
      → row_at same_state (rows_of g c c.rows) s ≡ None
  row_nowhere balanced s none =
      ap (λ l. row_at same_state (map (row_of g c) l) s) (all_kept (knows g c) c.rows balanced.atoms_known) ∙ none_from c.rows s none

-- the numbers of a row are places in the table of atoms
numbers_below : (n : ℕ) (atoms : List ℕ) → AllByRecursion (λ i. i < n) atoms → (k d : ℕ) → k < length atoms → get_or atoms k d < n
numbers_below n [] each k d within = absurd (omega arith)
numbers_below n (i ∷ atoms) each zero d within = each.0
numbers_below n (i ∷ atoms) each (suc k) d within = numbers_below n atoms each.1 k d (omega arith)

pub row_below : (n m : ℕ) (rows : List Row) → AllByRecursion (IsRow n m) rows → (i : ℕ) (r : Row) → slice_get rows i ≡ Some r
    → (k d : ℕ) → k < length r.atoms → get_or r.atoms k d < n
row_below n m [] each i r at = absurd cc
row_below n m (x ∷ rows) each zero r at =
    subst (λ (y : Row). (k d : ℕ) → k < length y.atoms → get_or y.atoms k d < n) (get_or_from_slice_get (x ∷ rows) 0 r x at)
    (numbers_below n x.atoms each.0.atoms)
row_below n m (x ∷ rows) each (suc i) r at = row_below n m rows each.1 i r at
