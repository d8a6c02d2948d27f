-- Lists that grow by what is found.
use Rattle.std.proofs.Common.{◌≡◌, ℕ, ◌+◌, ◌≤◌, ◌<◌, ⊎_elim, List, [], ◌∷◌, ◌++◌, length, map, take, drop, sym, ap, ◌∙◌, subst, arith, append_assoc, slice_index_or}
use Rattle.std.specs.Prelude.{Contains, flat_map, ◌↔◌}
use Rattle.std.proofs.lemmas.List.{length-append, append-nil as append_nil, take_more, take-append-drop}
use Rattle.std.proofs.lemmas.List.Elements.{Contains-append_left, Contains-append_right, Contains-append_cases}
use Rattle.std.proofs.lemmas.Grind.{flat_map-append}
use mathlib.Core.List.{map-append}
use Rattle.plain_list.proofs.Members.{Contains-cons_cases, Contains-nil}
use Rattle.trial_workers.specs.explorer.Found.{IsAdded, Grows}

module _ {X : Type 0} (most : ℕ) where
  pub grows_none : (xs : List X) → Grows most [] xs xs
  grows_none xs = record {
    more = [];
    is = sym (append_nil xs);
    within = λ x h. h;
    all = λ few x h. absurd (Contains-nil x h);
    few = λ h. h;
  }

  pub grows_on : (found next a b c : List X) → Grows most found a b → Grows most next b c → Grows most (found ++ next) a c
  grows_on found next a b c f g = record {
    more = f.more ++ g.more;
    is = g.is ∙ (ap (λ l. l ++ g.more) f.is ∙ append_assoc a f.more g.more);
    within = λ x h. ⊎_elim (λ i. Contains-append_left found next x (f.within x i)) (λ i. Contains-append_right found next x (g.within x i))
        (Contains-append_cases f.more g.more x h);
    all = λ few x h.
        let long : length c ≡ length b + length g.more = ap length g.is ∙ length-append b g.more in
        ⊎_elim (λ i. subst (λ l. Contains l x) (sym g.is) (Contains-append_left b g.more x (f.all (omega arith) x i))) (g.all few x)
        (Contains-append_cases found next x h);
    few = λ h. g.few (f.few h);
  }

  -- what was listed still is
  pub still_listed : (found a b : List X) (x : X) → Grows most found a b → Contains a x → Contains b x
  still_listed found a b x f h = subst (λ l. Contains l x) (sym f.is) (Contains-append_left a f.more x h)

  -- it is the same by any list that has what was found
  pub grows_same : (found same a b : List X) → ((x : X) → Contains found x ↔ Contains same x) → Grows most found a b → Grows most same a b
  grows_same found same a b alike f = record {
    more = f.more;
    is = f.is;
    within = λ x h. (alike x).0 (f.within x h);
    all = λ few x h. f.all few x ((alike x).1 h);
    few = f.few;
  }

  -- where there are more than most, nothing more is asked
  pub grows_past : (found all a b : List X) → Grows most found a b → ((x : X) → Contains found x → Contains all x) → most < length b
      → Grows most all a b
  grows_past found all a b f wider past = record {
    more = f.more;
    is = f.is;
    within = λ x h. wider x (f.within x h);
    all = λ few x h. absurd (omega arith);
    few = f.few;
  }

  grows_added : (old new : List X) (x : X) → length old ≤ most → IsAdded old new x → Grows most (x ∷ []) old new
  grows_added old new x room added = ⊎_elim
      (λ t. record {
        more = [];
        is = t.0 ∙ sym (append_nil old);
        within = λ y h. absurd (Contains-nil y h);
        all = λ few y h. ⊎_elim (λ e. subst (λ l. Contains l y) (sym t.0) (subst (Contains old) e t.1)) (λ i. absurd (Contains-nil y i))
            (Contains-cons_cases x [] y h);
        few = λ h. subst (λ l. length l ≤ most + 1) (sym t.0) (omega arith);
      })
      (λ t. record {
        more = x ∷ [];
        is = t.0;
        within = λ y h. h;
        all = λ few y h. subst (λ l. Contains l y) (sym t.0) (Contains-append_right old (x ∷ []) y h);
        few = λ h. subst (λ l. length l ≤ most + 1) (sym t.0) (omega (arith, length-append old (x ∷ [])));
      })
      added

  module _ {C : Type 0} (xs : List C) (i : ℕ) where
    -- what one more item leads to is added
    pub grows_image : (f : C → X) (d : C) (a b c : List X) → i < length xs → Grows most (map f (take i xs)) a b → length b ≤ most
        → IsAdded b c (f (slice_index_or xs i d)) → Grows most (map f (take (i + 1) xs)) a c
    grows_image f d a b c within g room added =
        let x : C = slice_index_or xs i d in
        let e : map f (take (i + 1) xs) ≡ map f (take i xs) ++ f x ∷ [] = ap (map f) (take_more xs i d within) ∙ map-append f (take i xs) (x ∷ []) in
        subst (λ l. Grows most l a c) (sym e) (grows_on (map f (take i xs)) (f x ∷ []) a b c g (grows_added b c (f x) room added))

    pub images_past : (f : C → X) (a b : List X) → Grows most (map f (take i xs)) a b → most < length b → Grows most (map f xs) a b
    images_past f a b g past =
        grows_past (map f (take i xs)) (map f xs) a b g
        (λ x h. subst (λ l. Contains l x) (sym (map-append f (take i xs) (drop i xs)) ∙ ap (map f) (take-append-drop i xs))
        (Contains-append_left (map f (take i xs)) (map f (drop i xs)) x h)) past

    -- and so are all that one more item leads to
    pub grows_images : (f : C → List X) (d : C) (a b c : List X) → i < length xs → Grows most (flat_map f (take i xs)) a b
        → Grows most (f (slice_index_or xs i d)) b c → Grows most (flat_map f (take (i + 1) xs)) a c
    grows_images f d a b c within g h =
        let x : C = slice_index_or xs i d in
        let e : flat_map f (take (i + 1) xs) ≡ flat_map f (take i xs) ++ f x
        = ap (flat_map f) (take_more xs i d within)
        ∙ (flat_map-append f (take i xs) (x ∷ []) ∙ ap (λ l. flat_map f (take i xs) ++ l) (append_nil (f x))) in
        subst (λ l. Grows most l a c) (sym e) (grows_on (flat_map f (take i xs)) (f x) a b c g h)

    pub all_images_past : (f : C → List X) (a b : List X) → Grows most (flat_map f (take i xs)) a b → most < length b → Grows most (flat_map f xs) a b
    all_images_past f a b g past =
        grows_past (flat_map f (take i xs)) (flat_map f xs) a b g
        (λ x h. subst (λ l. Contains l x) (sym (flat_map-append f (take i xs) (drop i xs)) ∙ ap (flat_map f) (take-append-drop i xs))
        (Contains-append_left (flat_map f (take i xs)) (flat_map f (drop i xs)) x h)) past
