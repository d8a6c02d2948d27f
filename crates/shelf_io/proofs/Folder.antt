-- What a write does to what a folder tells of its names.
use Rattle.std.proofs.Common.{◌≡◌, ◌≢◌, ◌⊎◌, ℕ, ◌+◌, ◌<◌, List, [], ◌++◌, length, Bool, true, false, Result, Ok, Err, inl, inr, refl, sym, ap, subst, ◌∙◌, arith, length-append}
use Rattle.std.specs.Prelude.{OnOk, OnErr}
use Rattle.std.specs.Bool.{Decides}
use Rattle.std.specs.Str.{bytes_eq}
use Rattle.std.proofs.lemmas.Slice.Eq.{bytes_eq-Decides}
use Rattle.shelf_io.specs.Shelf.{Told, MayHold, written}
use Rattle.shelf_io.specs.Folder.{cleared, Grows, Gives, OnlyAt, OnlyIn, IsWhole, Leaves}

-- a longer text is another
pub longer_is_apart : (text more : List ℕ) → 0 < length more → text ≢ text ++ more
longer_is_apart text more some same =
    let size : length text ≡ length text + length more = ap length same ∙ length-append text more in
    omega (arith, size, some)

by_test : {P : Type 0} (b : Bool) → Decides b P → P ⊎ (¬ P)
by_test true test = inl (test.0 refl)
by_test false test = inr (λ p. let on : false ≡ true = test.1 p in cc)

same_or_other : (a b : List ℕ) → (a ≡ b) ⊎ (a ≢ b)
same_or_other a b = by_test (bytes_eq a b) (bytes_eq-Decides a b)

-- ---- a new file was filled and synced: what its rename tells of the name

module _ (h0 h1 h2 h3 : List ℕ → Told) (name part bytes : List ℕ) (apart : name ≢ part) (empty : MayHold (h0 part) []) (grows : Grows (h0 part) (h1 part) bytes) (only : OnlyAt part h0 h1) (same : h2 ≡ h1) where
  given : Gives part name h2 h3 → h3 name ≡ written (h0 name) bytes
  given gives =
      gives bytes (subst (λ (h : List ℕ → Told). MayHold (h part) bytes) (sym same) (grows [] empty))
      ∙ ap (λ (h : List ℕ → Told). written (h name) bytes) same
      ∙ ap (λ told. written told bytes) (only name apart)

  pub given_where_ok : {T E : Type 0} (r : Result T E) → OnOk r (Gives part name h2 h3) → OnOk r (h3 name ≡ written (h0 name) bytes)
  given_where_ok (Ok _) gives = given gives
  given_where_ok (Err _) _ = tt

  pub whole_after : {T E : Type 0} (r : Result T E) → OnOk r (Gives part name h2 h3) → OnErr r ((h3 name ≡ h2 name) ⊎ Gives part name h2 h3) → IsWhole (h0 name) (h3 name) bytes
  whole_after (Ok _) gives _ = inr (given gives)
  whole_after (Err _) _ (inl kept) = inl (kept ∙ ap (λ (h : List ℕ → Told). h name) same ∙ only name apart)
  whole_after (Err _) _ (inr gives) = inr (given gives)

-- ---- a new file was made, and then given the name or removed

module _ (h h0 h1 h2 : List ℕ → Told) (stays : List ℕ → Type 0) (name part : List ℕ) (same : h0 ≡ h) (free : h0 part ≡ cleared (h1 part)) (first : OnlyAt part h0 h1) where
  pub leaves_others : (h2 part ≡ cleared (h1 part)) ⊎ stays part → OnlyIn name part h1 h2 → Leaves name h h2 stays
  leaves_others left second other apart =
      let as_before = ap (λ (told : List ℕ → Told). told other) same in
      elim (same_or_other other part) [
        | inl is ↦ subst (λ q. (h2 q ≡ h q) ⊎ stays q) (sym is) (elim left [
          | inl gone ↦ inl (gone ∙ sym free ∙ ap (λ (told : List ℕ → Told). told part) same)
          | inr there ↦ inr there
        ])
        | inr different ↦ inl (second other apart different ∙ first other different ∙ as_before)
      ]
