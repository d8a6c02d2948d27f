-- Arguments of atoms as places of rows.
use Rattle.std.proofs.Common.{◌≡◌, ℕ, zero, suc, ◌+◌, ◌-◌, ◌<◌, ◌≤◌, Bool, true, false, ◌||◌, cond, List, [], ◌∷◌, ◌++◌, map, length, take, drop, get_or, set, Some, refl, sym, ap, subst, ◌∙◌, arith, true≢false}
use Rattle.std.specs.Prelude.{All}
use Rattle.std.specs.List.{list_any}
use Rattle.std.proofs.lemmas.List.{map-append, take_more, take_more_set}
use Rattle.std.proofs.lemmas.List.Elements.{All-nil, All-cons, All-append, All-get_or}
use Rattle.ppddl_model.specs.declared.tree.Param.{Param}
use Rattle.ppddl_model.specs.declared.tree.Term.{Term}
use Rattle.ppddl_model.specs.declared.tree.Term.TheVariants.{Variable, Object}
use Rattle.ppddl_model.specs.State.{Name, same_name}
use Rattle.ppddl_model.specs.Objects.{World, Binding, bound, named}
use Rattle.type_table.specs.Numbered.{number_of}
use Rattle.type_table.specs.Types.{object_at, object_names}
use Rattle.type_table.proofs.Lists.{map_length}
use Rattle.type_table.proofs.Numbered.{number_is}
use Rattle.task_instances.specs.quantified_atoms.Needed.{hides}
use Rattle.task_instances.specs.declared.kept_rows.pattern.Slot.{Slot}
use Rattle.task_instances.specs.declared.kept_rows.pattern.Slot.TheVariants.{Number, Place}
use Rattle.task_instances.specs.kept_rows.Kept.{bound_to}
use Rattle.task_instances.proofs.lemmas.kept_rows.Staging.{from_place}
use Rattle.task_instances.specs.kept_rows.Patterns.{number_in, numbers_in, fits_in, IsLastPlace, IsSlot, HasSlots}

or-false : (x : Bool) → (x || false) ≡ x
or-false true = refl
or-false false = refl

module _ (w : World) (v : Name) where
  -- parameters of other names
  bound_past : (ps : List Param) (row : List ℕ) (b : Binding) → list_any (hides v) ps ≡ false → bound (bound_to w ps row b) v ≡ bound b v
  bound_past [] row b none = refl
  bound_past (p ∷ ps) [] b none = refl
  bound_past (p ∷ ps) (o ∷ row) b none =
      let parts = neither (hides v p) (list_any (hides v) ps) none in
      bound_past ps row ((p.name, object_at w o) ∷ b) parts.1 ∙ ap (λ t. cond t (object_at w o) (bound b v)) parts.0
    where
      neither : (x y : Bool) → (x || y) ≡ false → (x ≡ false) × (y ≡ false)
      neither true y is = absurd (true≢false is)
      neither false y is = (refl, is)

  bound_at : (ps : List Param) (row : List ℕ) (b : Binding) (i : ℕ) → length row ≡ length ps → i < length ps
      → list_any (hides v) (take 1 (drop i ps)) ≡ true → list_any (hides v) (drop (suc i) ps) ≡ false
      → bound (bound_to w ps row b) v ≡ object_at w (get_or row i 0)
  bound_at [] row b i long within is later = absurd (omega (arith, within))
  bound_at (p ∷ ps) [] b i long within is later = absurd (omega (arith, long))
  bound_at (p ∷ ps) (o ∷ row) b zero long within is later =
      bound_past ps row ((p.name, object_at w o) ∷ b) later
      ∙ ap (λ t. cond t (object_at w o) (bound b v)) (sym (or-false (hides v p)) ∙ is)
  bound_at (p ∷ ps) (o ∷ row) b (suc i) long within is later =
      bound_at ps row ((p.name, object_at w o) ∷ b) i (omega (arith, long)) (omega (arith, within)) is later

found_there : (ps : List Param) (v : Name) (place : ℕ) (p : Param) (found : Bool) → 0 < place → place ≤ length ps → p ≡ get_or ps (place - 1) p
    → found ≡ same_name p.name v → list_any (hides v) (take 1 (drop (place - 1) ps)) ≡ found
found_there ps v place p found some within is test =
    ap (λ l. list_any (hides v) (take 1 l)) (from_place ps place p some within is) ∙ or-false (same_name p.name v) ∙ sym test

pub last_found : (ps : List Param) (v : Name) (place : ℕ) (p : Param) (found : Bool) → 0 < place → place ≤ length ps → p ≡ get_or ps (place - 1) p
    → found ≡ same_name p.name v → found ≡ true → list_any (hides v) (drop place ps) ≡ false → IsLastPlace ps v (place - 1)
last_found ps v place p found some within is test so later = record {
  within = omega (arith, some, within);
  is = found_there ps v place p found some within is test ∙ so;
  later = ap (λ k. list_any (hides v) (drop k ps)) (let e : suc (place - 1) ≡ place = omega (arith, some) in e) ∙ later;
}

pub last_missed : (ps : List Param) (v : Name) (place : ℕ) (p : Param) (found : Bool) → 0 < place → place ≤ length ps → p ≡ get_or ps (place - 1) p
    → found ≡ same_name p.name v → found ≡ false → list_any (hides v) (drop place ps) ≡ false → list_any (hides v) (drop (place - 1) ps) ≡ false
last_missed ps v place p found some within is test other later =
    ap (list_any (hides v)) (from_place ps place p some within is)
    ∙ ap (λ t. t || list_any (hides v) (drop place ps)) (sym test ∙ other) ∙ later

pub place_stands : (w : World) (ps : List Param) (v : Name) (i : ℕ) → IsLastPlace ps v i → IsSlot w ps (Variable v) (Place i)
place_stands w ps v i last = record {
  fits = last.within;
  within = λ row is. All-get_or (λ o. o < length w.objects) row i 0 (let long : length row ≡ length ps = is.long in omega (arith, long, last.within)) is.within;
  is = λ row is. sym (bound_at w v ps row [] i is.long last.within last.is last.later);
}

pub number_stands : (w : World) (ps : List Param) (o : Name) (n : ℕ) → number_of (object_names w) o ≡ Some n → IsSlot w ps (Object o) (Number n)
number_stands w ps o n is =
    let at = number_is (object_names w) o n is in
    record {
      fits = tt;
      within = λ row _. subst (λ k. n < k) (sym (map_length _ w.objects)) at.within;
      is = λ row _. at.named;
    }

pub slot_more : (w : World) (ps : List Param) (ts more : List Term) (t : Term) (slots after : List Slot) (s : Slot) → HasSlots w ps ts slots → IsSlot w ps t s
    → more ≡ ts ++ t ∷ [] → after ≡ slots ++ s ∷ [] → HasSlots w ps more after
slot_more w ps ts more t slots after s has is one put =
    subst (λ l. HasSlots w ps l after) (sym one) (subst (HasSlots w ps (ts ++ t ∷ [])) (sym put) (record {
      fit = All-append (fits_in (length ps)) slots (s ∷ []) has.fit (All-cons (fits_in (length ps)) s [] is.fits (All-nil (fits_in (length ps))));
      within = λ row are.
          subst (All (λ o. o < length w.objects)) (sym (map-append (number_in row) slots (s ∷ [])))
          (All-append (λ o. o < length w.objects) (numbers_in row slots) (number_in row s ∷ []) (has.within row are)
          (All-cons (λ o. o < length w.objects) (number_in row s) [] (is.within row are) (All-nil (λ o. o < length w.objects))));
      are = λ row in_row.
          ap (map (object_at w)) (map-append (number_in row) slots (s ∷ []))
          ∙ map-append (object_at w) (numbers_in row slots) (number_in row s ∷ [])
          ∙ ap (λ l. l ++ object_at w (number_in row s) ∷ []) (has.are row in_row)
          ∙ ap (λ x. map (named (bound_to w ps row [])) ts ++ x ∷ []) (is.is row in_row)
          ∙ sym (map-append (named (bound_to w ps row [])) ts (t ∷ []));
    }))

-- one argument more is written at its place
pub number_more : (row : List ℕ) (slots : List Slot) (into : List ℕ) (i p : ℕ) (d : Slot) (number : ℕ) → i < length slots → i + 1 < length into
    → number ≡ number_in row (get_or slots i d) → take (i + 1) into ≡ p ∷ numbers_in row (take i slots)
    → take (i + 1 + 1) (set into (i + 1) number) ≡ p ∷ numbers_in row (take (i + 1) slots)
number_more row slots into i p d number within long is before =
    take_more_set into (i + 1) number long
    ∙ (λ j. before j ++ is j ∷ [])
    ∙ ap (λ l. p ∷ l) (sym (ap (numbers_in row) (take_more slots i d within) ∙ map-append (number_in row) (take i slots) (get_or slots i d ∷ [])))
