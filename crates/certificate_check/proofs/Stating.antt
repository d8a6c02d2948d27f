-- States that are written atom by atom.
use Rattle.std.proofs.Common.{◌≡◌, ℕ, zero, suc, ◌+◌, ◌*◌, ◌<◌, Bool, true, false, ◌&&◌, ◌||◌, List, [], ◌∷◌, ◌++◌, Option, Some, None, length, take, refl, sym, ap, ◌∙◌}
use Rattle.std.specs.Prelude.{nat_eq, get_or, is_some}
use Rattle.std.proofs.lemmas.Bool.{lt-ltb, and_parts, and_right}
use Rattle.std.proofs.lemmas.List.{append-nil, take_more, flat_map_more}
use Rattle.std.proofs.lemmas.List.Folds.{list_any-append, list_all_more}
use Rattle.ground_model.specs.Packed.{has_bit, packed}
use Rattle.ground_model.specs.Choices.{is_member}
use Rattle.ground_model.proofs.Packed.{length-packed, has_bit-packed, same_packed}
use Rattle.ground_step.specs.Atoms.{state_of}
use Rattle.ground_step.specs.Edits.{with_atom}
use Rattle.certificate_check.specs.Claims.{number_at, numbers_of, are_known, listed}

or_turn : (a b : Bool) → (a || b) ≡ (b || (a || false))
or_turn true true = refl
or_turn true false = refl
or_turn false true = refl
or_turn false false = refl

atom_more : (atoms : List ℕ) (a n : ℕ) → with_atom (state_of atoms n) a ≡ state_of (atoms ++ a ∷ []) n
atom_more atoms a n =
    ap (λ m. packed (λ q. nat_eq q a || has_bit (state_of atoms n) q) m) (length-packed (is_member atoms) n)
    ∙ same_packed (λ q. nat_eq q a || has_bit (state_of atoms n) q) (is_member (atoms ++ a ∷ [])) n
    (λ q within.
    ap (λ b. nat_eq q a || b)
    (has_bit-packed (is_member atoms) n q ∙ ap (λ b. b && is_member atoms q) (lt-ltb q (64 * n) within))
    ∙ or_turn (nat_eq q a) (is_member atoms q) ∙ sym (list_any-append (nat_eq q) atoms (a ∷ [])))

-- ---- the first atoms of a row whose atoms are known

pub known_first : (numbers : List (Option ℕ)) (atoms : List ℕ) (k : ℕ) → are_known numbers atoms ≡ true → are_known numbers (take k atoms) ≡ true
known_first numbers [] zero known = refl
known_first numbers [] (suc k) known = refl
known_first numbers (i ∷ atoms) zero known = refl
known_first numbers (i ∷ atoms) (suc k) known =
    let parts = and_parts (is_some (number_at numbers i)) (are_known numbers atoms) known in
    let rest : are_known numbers (take k atoms) ≡ true = known_first numbers atoms k parts.1 in
    λ j. parts.0 j && rest j

-- ---- one atom of a row more

and_true : (b : Bool) → (b && true) ≡ b
and_true true = refl
and_true false = refl

module _ (numbers : List (Option ℕ)) (atoms : List ℕ) (i : ℕ) (within : i < length atoms) where
  pub numbers_more : numbers_of numbers (take (i + 1) atoms)
      ≡ numbers_of numbers (take i atoms) ++ listed (number_at numbers (get_or atoms i 0))
  numbers_more =
      ap (numbers_of numbers) (take_more atoms i 0 within)
      ∙ sym (flat_map_more (λ j. listed (number_at numbers j)) [] (take i atoms) (get_or atoms i 0))

  known_more : are_known numbers (take (i + 1) atoms)
      ≡ (are_known numbers (take i atoms) && is_some (number_at numbers (get_or atoms i 0)))
  known_more = list_all_more (λ j. is_some (number_at numbers j)) atoms i 0 within

  module _ (none : number_at numbers (get_or atoms i 0) ≡ None) where
    pub state_passed : (n : ℕ) → state_of (numbers_of numbers (take i atoms)) n ≡ state_of (numbers_of numbers (take (i + 1) atoms)) n
    state_passed n =
        sym (ap (λ xs. state_of xs n)
        (numbers_more ∙ ap (λ o. numbers_of numbers (take i atoms) ++ listed o) none ∙ append-nil (numbers_of numbers (take i atoms))))

    pub known_passed : false ≡ are_known numbers (take (i + 1) atoms)
    known_passed =
        sym (known_more ∙ and_right (are_known numbers (take i atoms)) (is_some (number_at numbers (get_or atoms i 0))) (ap is_some none))

  module _ (q : ℕ) (some : number_at numbers (get_or atoms i 0) ≡ Some q) where
    pub state_put : (n : ℕ) → with_atom (state_of (numbers_of numbers (take i atoms)) n) q
        ≡ state_of (numbers_of numbers (take (i + 1) atoms)) n
    state_put n =
        atom_more (numbers_of numbers (take i atoms)) q n
        ∙ sym (ap (λ xs. state_of xs n) (numbers_more ∙ ap (λ o. numbers_of numbers (take i atoms) ++ listed o) some))

    pub known_put : are_known numbers (take i atoms) ≡ are_known numbers (take (i + 1) atoms)
    known_put =
        sym (known_more ∙ ap (λ b. are_known numbers (take i atoms) && b) (ap is_some some) ∙ and_true (are_known numbers (take i atoms)))
