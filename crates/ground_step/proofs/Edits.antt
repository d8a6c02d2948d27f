-- Changes of a state one after another come to the next state.
use Rattle.std.proofs.Common.{◌≡◌, ℕ, Bool, true, false, cond, not, ◌&&◌, ◌||◌, List, [], ◌∷◌, ◌++◌, length, refl, sym, ap, ◌∙◌}
use Rattle.std.specs.Prelude.{nat_eq}
use Rattle.ground_model.specs.declared.action.Choice.{Choice}
use Rattle.ground_model.specs.declared.action.Guarded.{Guarded}
use Rattle.ground_model.specs.Packed.{State, has_bit, packed}
use Rattle.ground_model.specs.Truth.{truth}
use Rattle.ground_model.specs.Choices.{is_member, active_adds, active_deletes, after, next_state}
use Rattle.ground_model.proofs.Packed.{same_packed, length-packed}
use Rattle.ground_step.specs.Edits.{with_atom, without_atom, with_atoms, without_atoms, with_parts, without_parts, changed}
use Rattle.ground_step.proofs.Packed.{packed_bit}

or_turn : (a b c : Bool) → (b || (a || c)) ≡ ((a || b) || c)
or_turn true true c = refl
or_turn true false c = refl
or_turn false true c = refl
or_turn false false c = refl

and_turn : (a b c : Bool) → (not b && (not a && c)) ≡ (not (a || b) && c)
and_turn true true c = refl
and_turn true false c = refl
and_turn false true c = refl
and_turn false false c = refl

or_assoc : (a b c : Bool) → (a || (b || c)) ≡ ((a || b) || c)
or_assoc true b c = refl
or_assoc false b c = refl

is_member-append : (xs ys : List ℕ) (q : ℕ) → is_member (xs ++ ys) q ≡ (is_member xs q || is_member ys q)
is_member-append [] ys q = refl
is_member-append (x ∷ xs) ys q =
    ap (λ b. nat_eq q x || b) (is_member-append xs ys q) ∙ or_assoc (nat_eq q x) (is_member xs q) (is_member ys q)

-- ---- of packed bits

with_atom-packed : (f : ℕ → Bool) (n a : ℕ) → with_atom (packed f n) a ≡ packed (λ q. nat_eq q a || f q) n
with_atom-packed f n a =
    ap (λ m. packed (λ q. nat_eq q a || has_bit (packed f n) q) m) (length-packed f n)
    ∙ same_packed (λ q. nat_eq q a || has_bit (packed f n) q) (λ q. nat_eq q a || f q) n
    (λ q within. ap (λ b. nat_eq q a || b) (packed_bit f n q within))

without_atom-packed : (f : ℕ → Bool) (n a : ℕ) → without_atom (packed f n) a ≡ packed (λ q. not (nat_eq q a) && f q) n
without_atom-packed f n a =
    ap (λ m. packed (λ q. not (nat_eq q a) && has_bit (packed f n) q) m) (length-packed f n)
    ∙ same_packed (λ q. not (nat_eq q a) && has_bit (packed f n) q) (λ q. not (nat_eq q a) && f q) n
    (λ q within. ap (λ b. not (nat_eq q a) && b) (packed_bit f n q within))

pub with_atoms-packed : (f : ℕ → Bool) (n : ℕ) (atoms : List ℕ)
    → with_atoms (packed f n) atoms ≡ packed (λ q. is_member atoms q || f q) n
with_atoms-packed f n [] = refl
with_atoms-packed f n (a ∷ more) =
    ap (λ s. with_atoms s more) (with_atom-packed f n a)
    ∙ with_atoms-packed (λ q. nat_eq q a || f q) n more
    ∙ same_packed (λ q. is_member more q || (nat_eq q a || f q)) (λ q. is_member (a ∷ more) q || f q) n
    (λ q _. or_turn (nat_eq q a) (is_member more q) (f q))

without_atoms-packed : (f : ℕ → Bool) (n : ℕ) (atoms : List ℕ)
    → without_atoms (packed f n) atoms ≡ packed (λ q. not (is_member atoms q) && f q) n
without_atoms-packed f n [] = refl
without_atoms-packed f n (a ∷ more) =
    ap (λ s. without_atoms s more) (without_atom-packed f n a)
    ∙ without_atoms-packed (λ q. not (nat_eq q a) && f q) n more
    ∙ same_packed (λ q. not (is_member more q) && (not (nat_eq q a) && f q)) (λ q. not (is_member (a ∷ more) q) && f q) n
    (λ q _. and_turn (nat_eq q a) (is_member more q) (f q))

module _ (bit : ℕ → Bool) where
  part_adds : (holds : Bool) (f : ℕ → Bool) (n : ℕ) (atoms : List ℕ)
      → cond holds (with_atoms (packed f n) atoms) (packed f n)
      ≡ packed (λ q. is_member (cond holds atoms []) q || f q) n
  part_adds true f n atoms = with_atoms-packed f n atoms
  part_adds false f n atoms = refl

  part_deletes : (holds : Bool) (f : ℕ → Bool) (n : ℕ) (atoms : List ℕ)
      → cond holds (without_atoms (packed f n) atoms) (packed f n)
      ≡ packed (λ q. not (is_member (cond holds atoms []) q) && f q) n
  part_deletes true f n atoms = without_atoms-packed f n atoms
  part_deletes false f n atoms = refl

  with_parts-packed : (f : ℕ → Bool) (n : ℕ) (xs : List Guarded)
      → with_parts bit (packed f n) xs ≡ packed (λ q. is_member (active_adds bit xs) q || f q) n
  with_parts-packed f n [] = refl
  with_parts-packed f n (x ∷ xs) =
      let here : List ℕ = cond (truth bit x.condition) x.adds [] in
      ap (λ s. with_parts bit s xs) (part_adds (truth bit x.condition) f n x.adds)
      ∙ with_parts-packed (λ q. is_member here q || f q) n xs
      ∙ same_packed (λ q. is_member (active_adds bit xs) q || (is_member here q || f q))
      (λ q. is_member (active_adds bit (x ∷ xs)) q || f q) n
      (λ q _.
      or_turn (is_member here q) (is_member (active_adds bit xs) q) (f q)
      ∙ sym (ap (λ b. b || f q) (is_member-append here (active_adds bit xs) q)))

  without_parts-packed : (f : ℕ → Bool) (n : ℕ) (xs : List Guarded)
      → without_parts bit (packed f n) xs ≡ packed (λ q. not (is_member (active_deletes bit xs) q) && f q) n
  without_parts-packed f n [] = refl
  without_parts-packed f n (x ∷ xs) =
      let here : List ℕ = cond (truth bit x.condition) x.deletes [] in
      ap (λ s. without_parts bit s xs) (part_deletes (truth bit x.condition) f n x.deletes)
      ∙ without_parts-packed (λ q. not (is_member here q) && f q) n xs
      ∙ same_packed (λ q. not (is_member (active_deletes bit xs) q) && (not (is_member here q) && f q))
      (λ q. not (is_member (active_deletes bit (x ∷ xs)) q) && f q) n
      (λ q _.
      and_turn (is_member here q) (is_member (active_deletes bit xs) q) (f q)
      ∙ sym (ap (λ b. not b && f q) (is_member-append here (active_deletes bit xs) q)))

-- ---- the next state

settle : (a b c d f : Bool) → (b || (a || (not d && (not c && f)))) ≡ ((a || b) || (f && not (c || d)))
settle true true c d f = refl
settle true false c d f = refl
settle false true c d f = refl
settle false false true true true = refl
settle false false true true false = refl
settle false false true false true = refl
settle false false true false false = refl
settle false false false true true = refl
settle false false false true false = refl
settle false false false false true = refl
settle false false false false false = refl

module _ (s : State) (c : Choice) where
  abbrev bit : ℕ → Bool
  bit = has_bit s

  abbrev deletes : ℕ → Bool
  deletes q = not (is_member c.deletes q) && bit q

  abbrev all_deletes : ℕ → Bool
  all_deletes q = not (is_member (active_deletes bit c.guarded) q) && deletes q

  abbrev adds : ℕ → Bool
  adds q = is_member c.adds q || all_deletes q

  settled : (q : ℕ) → (is_member (active_adds bit c.guarded) q || adds q) ≡ after bit c q
  settled q =
      settle (is_member c.adds q) (is_member (active_adds bit c.guarded) q)
      (is_member c.deletes q) (is_member (active_deletes bit c.guarded) q) (bit q)
      ∙ sym (ap (λ b. b || (bit q && not (is_member (c.deletes ++ active_deletes bit c.guarded) q)))
      (is_member-append c.adds (active_adds bit c.guarded) q)
      ∙ ap (λ b. (is_member c.adds q || is_member (active_adds bit c.guarded) q) || (bit q && not b))
      (is_member-append c.deletes (active_deletes bit c.guarded) q))

  pub changed_is_next : changed s c ≡ next_state s c
  changed_is_next =
      let n : ℕ = length s in
      ap (λ t. with_parts bit (with_atoms (without_parts bit t c.guarded) c.adds) c.guarded)
      (without_atoms-packed bit n c.deletes)
      ∙ ap (λ t. with_parts bit (with_atoms t c.adds) c.guarded) (without_parts-packed bit deletes n c.guarded)
      ∙ ap (λ t. with_parts bit t c.guarded) (with_atoms-packed all_deletes n c.adds)
      ∙ with_parts-packed bit adds n c.guarded
      ∙ same_packed (λ q. is_member (active_adds bit c.guarded) q || adds q) (after bit c) n (λ q _. settled q)

or_none : (b : Bool) → (b || false) ≡ b
or_none true = refl
or_none false = refl

pub with_atoms-none : (n : ℕ) (atoms : List ℕ) → with_atoms (packed (λ _. false) n) atoms ≡ packed (is_member atoms) n
with_atoms-none n atoms =
    with_atoms-packed (λ _. false) n atoms
    ∙ same_packed (λ q. is_member atoms q || false) (is_member atoms) n (λ q _. or_none (is_member atoms q))
