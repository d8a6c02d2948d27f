-- What joined and guarded choices do in a state.
use Rattle.std.proofs.Common.{◌≡◌, ℕ, ◌+◌, Bool, true, false, cond, not, ◌&&◌, ◌||◌}
use Rattle.std.proofs.Common.{List, [], ◌∷◌, ◌++◌, map, refl, sym, ap, ◌∙◌, arith}
use Rattle.std.specs.Prelude.{nat_eq, length}
use Rattle.std.specs.List.{list_any}
use Rattle.std.proofs.lemmas.Bool.{eqb-true, and_parts}
use Rattle.std.proofs.lemmas.List.{append-nil}
use denote.Hole.Carrier.{hidden}
use Rattle.ppddl_model.specs.State.{GroundAtom, same_atom, State, no_atoms, has}
use Rattle.ppddl_model.specs.State.{union, without}
use Rattle.ppddl_model.proofs.States.{has-with_atoms, has-union, has-without, same_from_has}
use Rattle.ground_model.specs.declared.action.Choice.{Choice}
use Rattle.ground_model.specs.declared.action.Guarded.{Guarded}
use Rattle.ground_model.specs.declared.condition.GroundCondition.{GroundCondition}
use Rattle.ground_model.specs.declared.condition.GroundCondition.TheVariants.{All}
use Rattle.ground_model.specs.declared.condition.GroundCondition.TheBlock.{shape-the_row-GroundCondition-0, hidden-the_row-GroundCondition-0, hidden-the_row-GroundCondition-1}
use Rattle.ground_model.specs.Truth.{truth}
use Rattle.ground_model.specs.Choices.{active_adds, active_deletes, active_cost}
use Rattle.ground_meaning.specs.choices.Rising.{rising, less}
use Rattle.ground_meaning.specs.choices.Joint.{joined, own_part, under, guard, is_empty}
use Rattle.ground_meaning.specs.choices.Change.{Change, settled, name_of, atoms_at, change_of}
use Rattle.ground_meaning.proofs.lemmas.choices.Members.{any-map, any-append, any-rising, any-less, or_assoc, or_false}

-- ---- changes of sets

and_swap : (a b : Bool) → (a && b) ≡ (b && a)
and_swap true true = refl
and_swap true false = refl
and_swap false true = refl
and_swap false false = refl

-- changes are equal where they agree on every atom
pub settled_same : (a d a' d' : State) (c c' : ℕ) → ((q : GroundAtom) → has a q ≡ has a' q)
    → ((q : GroundAtom) → (not (has a q) && has d q) ≡ (not (has a' q) && has d' q)) → c ≡ c'
    → settled a d c ≡ settled a' d' c'
settled_same a d a' d' c c' adds deletes costs =
    let one : a ≡ a' = same_from_has a a' adds in
    let two : without d a ≡ without d' a' = same_from_has (without d a) (without d' a')
    (λ q. has-without d a q ∙ and_swap (has d q) (not (has a q)) ∙ deletes q
    ∙ sym (has-without d' a' q ∙ and_swap (has d' q) (not (has a' q)))) in
    λ i. record { adds = one i; deletes = two i; cost = costs i }

-- both changes
abbrev pub one_after : Change → Change → Change
one_after x y = settled (union x.adds y.adds) (union x.deletes y.deletes) (x.cost + y.cost)

deletes_of_both : (a a' d d' : Bool)
    → (not (a || a') && (d || d')) ≡ (not (a || a') && ((d && not a) || (d' && not a')))
deletes_of_both true a' d d' = refl
deletes_of_both false true d d' = refl
deletes_of_both false false true d' = refl
deletes_of_both false false false true = refl
deletes_of_both false false false false = refl

pub settled_both : (a d a' d' : State) (c c' : ℕ)
    → settled (union a a') (union d d') (c + c') ≡ one_after (settled a d c) (settled a' d' c')
settled_both a d a' d' c c' =
    let parted : (q : GroundAtom) → has (union (without d a) (without d' a')) q
    ≡ ((has d q && not (has a q)) || (has d' q && not (has a' q)))
    = λ q. has-union (without d a) (without d' a') q ∙ ap (λ b. b || has (without d' a') q) (has-without d a q)
    ∙ ap (λ b. (has d q && not (has a q)) || b) (has-without d' a' q) in
    settled_same (union a a') (union d d') (union a a') (union (without d a) (without d' a')) (c + c') (c + c')
    (λ q. refl)
    (λ q. ap (λ b. not (has (union a a') q) && b) (has-union d d' q)
    ∙ ap (λ b. not b && (has d q || has d' q)) (has-union a a' q)
    ∙ deletes_of_both (has a q) (has a' q) (has d q) (has d' q)
    ∙ sym (ap (λ b. not b && has (union (without d a) (without d' a')) q) (has-union a a' q)
    ∙ ap (λ b. not (has a q || has a' q) && b) (parted q)))
    refl

-- ---- what the parts of a choice do

adds_shuffle : (mx my ax ay : Bool) → ((mx || my) || (ax || ay)) ≡ ((mx || ax) || (my || ay))
adds_shuffle true my ax ay = refl
adds_shuffle false true true ay = refl
adds_shuffle false true false ay = refl
adds_shuffle false false ax ay = refl

-- l of the deletes that are left, which are those of d but for what is added
deletes_shuffle : (mx my ax ay l dx dy ex ey : Bool) → (not (mx || my) && l) ≡ (not (mx || my) && (dx || dy))
    → (not ((mx || ax) || (my || ay)) && (l || (ex || ey))) ≡ (not ((mx || ax) || (my || ay)) && ((dx || ex) || (dy || ey)))
deletes_shuffle true my ax ay l dx dy ex ey e = refl
deletes_shuffle false my true ay l dx dy ex ey e = refl
deletes_shuffle false true false ay l dx dy ex ey e = refl
deletes_shuffle false false false true l dx dy ex ey e = refl
deletes_shuffle false false false false l dx dy ex ey e =
    ap (λ b. b || (ex || ey)) e ∙ adds_shuffle dx dy ex ey

zero_more : (n : ℕ) → 0 + n ≡ n
zero_more n = omega arith

module _ (order : List GroundAtom) where
  -- the test of an atom, by numbers
  abbrev pub tells : GroundAtom → ℕ → Bool
  tells q k = same_atom q (name_of order k)

  pub has-atoms_at : (ks : List ℕ) (q : GroundAtom) → has (atoms_at order ks) q ≡ list_any (tells q) ks
  has-atoms_at ks q =
      has-with_atoms no_atoms (map (name_of order) ks) q
      ∙ or_false (list_any (same_atom q) (map (name_of order) ks))
      ∙ any-map (same_atom q) (name_of order) ks

  -- changes by numbers that a test finds alike
  change_same : (a d a' d' : List ℕ) (c c' : ℕ)
      → ((q : GroundAtom) → list_any (tells q) a ≡ list_any (tells q) a')
      → ((q : GroundAtom) → (not (list_any (tells q) a) && list_any (tells q) d) ≡ (not (list_any (tells q) a') && list_any (tells q) d'))
      → c ≡ c' → settled (atoms_at order a) (atoms_at order d) c ≡ settled (atoms_at order a') (atoms_at order d') c'
  change_same a d a' d' c c' adds deletes costs =
      let seen : (q : GroundAtom) (x y : List ℕ) → (not (has (atoms_at order x) q) && has (atoms_at order y) q)
      ≡ (not (list_any (tells q) x) && list_any (tells q) y)
      = λ q x y. ap (λ b. not b && has (atoms_at order y) q) (has-atoms_at x q)
      ∙ ap (λ b. not (list_any (tells q) x) && b) (has-atoms_at y q) in
      settled_same (atoms_at order a) (atoms_at order d) (atoms_at order a') (atoms_at order d') c c'
      (λ q. has-atoms_at a q ∙ adds q ∙ sym (has-atoms_at a' q))
      (λ q. seen q a d ∙ deletes q ∙ sym (seen q a' d'))
      costs

  module _ (bit : ℕ → Bool) where
    any-active_adds : (p : ℕ → Bool) (xs ys : List Guarded)
        → list_any p (active_adds bit (xs ++ ys)) ≡ (list_any p (active_adds bit xs) || list_any p (active_adds bit ys))
    any-active_adds p [] ys = refl
    any-active_adds p (x ∷ xs) ys =
        let now : List ℕ = cond (truth bit x.condition) x.adds [] in
        any-append p now (active_adds bit (xs ++ ys)) ∙ ap (λ b. list_any p now || b) (any-active_adds p xs ys)
        ∙ or_assoc (list_any p now) (list_any p (active_adds bit xs)) (list_any p (active_adds bit ys))
        ∙ ap (λ b. b || list_any p (active_adds bit ys)) (sym (any-append p now (active_adds bit xs)))

    any-active_deletes : (p : ℕ → Bool) (xs ys : List Guarded)
        → list_any p (active_deletes bit (xs ++ ys)) ≡ (list_any p (active_deletes bit xs) || list_any p (active_deletes bit ys))
    any-active_deletes p [] ys = refl
    any-active_deletes p (x ∷ xs) ys =
        let now : List ℕ = cond (truth bit x.condition) x.deletes [] in
        any-append p now (active_deletes bit (xs ++ ys)) ∙ ap (λ b. list_any p now || b) (any-active_deletes p xs ys)
        ∙ or_assoc (list_any p now) (list_any p (active_deletes bit xs)) (list_any p (active_deletes bit ys))
        ∙ ap (λ b. b || list_any p (active_deletes bit ys)) (sym (any-append p now (active_deletes bit xs)))

    active_cost-append : (xs ys : List Guarded) → active_cost bit (xs ++ ys) ≡ active_cost bit xs + active_cost bit ys
    active_cost-append [] ys = omega arith
    active_cost-append (x ∷ xs) ys = omega (arith, active_cost-append xs ys)

    pub change_of-joined : (x y : Choice)
        → change_of order bit (joined x y) ≡ one_after (change_of order bit x) (change_of order bit y)
    change_of-joined x y =
        let ax : List ℕ = active_adds bit x.guarded in
        let ay : List ℕ = active_adds bit y.guarded in
        let ex : List ℕ = active_deletes bit x.guarded in
        let ey : List ℕ = active_deletes bit y.guarded in
        let adds : List ℕ = rising (x.adds ++ y.adds) in
        let all : List ℕ = rising (x.deletes ++ y.deletes) in
        let both : List Guarded = x.guarded ++ y.guarded in
        let a : State = atoms_at order (x.adds ++ ax) in
        let a' : State = atoms_at order (y.adds ++ ay) in
        let d : State = atoms_at order (x.deletes ++ ex) in
        let d' : State = atoms_at order (y.deletes ++ ey) in
        let found : GroundAtom → List ℕ → Bool = λ q ks. list_any (tells q) ks in
        let parts : (q : GroundAtom) (xs ys zs us : List ℕ)
        → has (union (atoms_at order (xs ++ ys)) (atoms_at order (zs ++ us))) q
        ≡ ((found q xs || found q ys) || (found q zs || found q us))
        = λ q xs ys zs us. has-union (atoms_at order (xs ++ ys)) (atoms_at order (zs ++ us)) q
        ∙ ap (λ b. b || has (atoms_at order (zs ++ us)) q) (has-atoms_at (xs ++ ys) q ∙ any-append (tells q) xs ys)
        ∙ ap (λ b. (found q xs || found q ys) || b) (has-atoms_at (zs ++ us) q ∙ any-append (tells q) zs us) in
        let merged_adds : (q : GroundAtom) → found q adds ≡ (found q x.adds || found q y.adds)
        = λ q. any-rising (tells q) (x.adds ++ y.adds) ∙ any-append (tells q) x.adds y.adds in
        let merged_deletes : (q : GroundAtom) → found q all ≡ (found q x.deletes || found q y.deletes)
        = λ q. any-rising (tells q) (x.deletes ++ y.deletes) ∙ any-append (tells q) x.deletes y.deletes in
        let added : (q : GroundAtom) → has (atoms_at order (adds ++ active_adds bit both)) q
        ≡ ((found q x.adds || found q ax) || (found q y.adds || found q ay))
        = λ q. has-atoms_at (adds ++ active_adds bit both) q ∙ any-append (tells q) adds (active_adds bit both)
        ∙ ap (λ b. b || found q (active_adds bit both)) (merged_adds q)
        ∙ ap (λ b. (found q x.adds || found q y.adds) || b) (any-active_adds (tells q) x.guarded y.guarded)
        ∙ adds_shuffle (found q x.adds) (found q y.adds) (found q ax) (found q ay) in
        let deleted : (q : GroundAtom) → has (atoms_at order (less all adds ++ active_deletes bit both)) q
        ≡ (found q (less all adds) || (found q ex || found q ey))
        = λ q. has-atoms_at (less all adds ++ active_deletes bit both) q
        ∙ any-append (tells q) (less all adds) (active_deletes bit both)
        ∙ ap (λ b. found q (less all adds) || b) (any-active_deletes (tells q) x.guarded y.guarded) in
        let left : (q : GroundAtom) → (not (found q x.adds || found q y.adds) && found q (less all adds))
        ≡ (not (found q x.adds || found q y.adds) && (found q x.deletes || found q y.deletes))
        = λ q. ap (λ b. not b && found q (less all adds)) (sym (merged_adds q)) ∙ any-less (tells q) all adds
        ∙ ap (λ b. not b && found q all) (merged_adds q)
        ∙ ap (λ b. not (found q x.adds || found q y.adds) && b) (merged_deletes q) in
        settled_same (atoms_at order (adds ++ active_adds bit both))
        (atoms_at order (less all adds ++ active_deletes bit both)) (union a a') (union d d')
        (x.cost + y.cost + active_cost bit both) ((x.cost + active_cost bit x.guarded) + (y.cost + active_cost bit y.guarded))
        (λ q. added q ∙ sym (parts q x.adds ax y.adds ay))
        (λ q. ap (λ b. not b && has (atoms_at order (less all adds ++ active_deletes bit both)) q) (added q)
        ∙ ap (λ b. not ((found q x.adds || found q ax) || (found q y.adds || found q ay)) && b) (deleted q)
        ∙ deletes_shuffle (found q x.adds) (found q y.adds) (found q ax) (found q ay) (found q (less all adds))
        (found q x.deletes) (found q y.deletes) (found q ex) (found q ey) (left q)
        ∙ sym (ap (λ b. not b && has (union d d') q) (parts q x.adds ax y.adds ay)
        ∙ ap (λ b. not ((found q x.adds || found q ax) || (found q y.adds || found q ay)) && b) (parts q x.deletes ex y.deletes ey)))
        (omega (arith, active_cost-append x.guarded y.guarded))
        ∙ settled_both a d a' d' (x.cost + active_cost bit x.guarded) (y.cost + active_cost bit y.guarded)

    -- ---- guarded choices

    truth-both : (t u : GroundCondition) → truth bit (All (t ∷ u ∷ [])) ≡ (truth bit t && truth bit u)
    unfolding shape-the_row-GroundCondition-0 hidden-the_row-GroundCondition-0 hidden-the_row-GroundCondition-1 hidden
    truth-both t u = ap (λ b. truth bit t && b) (and_swap (truth bit u) true)

    under_fails : (t : GroundCondition) (x : Guarded) → truth bit t ≡ false → truth bit (under t x).condition ≡ false
    under_fails t x e = truth-both t x.condition ∙ ap (λ b. b && truth bit x.condition) e

    under_holds : (t : GroundCondition) (x : Guarded) → truth bit t ≡ true → truth bit (under t x).condition ≡ truth bit x.condition
    under_holds t x e = truth-both t x.condition ∙ ap (λ b. b && truth bit x.condition) e

    adds_off : (t : GroundCondition) (xs : List Guarded) → truth bit t ≡ false → active_adds bit (map (under t) xs) ≡ []
    adds_off t [] e = refl
    adds_off t (x ∷ xs) e =
        ap (λ b. cond b x.adds [] ++ active_adds bit (map (under t) xs)) (under_fails t x e) ∙ adds_off t xs e

    deletes_off : (t : GroundCondition) (xs : List Guarded) → truth bit t ≡ false → active_deletes bit (map (under t) xs) ≡ []
    deletes_off t [] e = refl
    deletes_off t (x ∷ xs) e =
        ap (λ b. cond b x.deletes [] ++ active_deletes bit (map (under t) xs)) (under_fails t x e) ∙ deletes_off t xs e

    cost_off : (t : GroundCondition) (xs : List Guarded) → truth bit t ≡ false → active_cost bit (map (under t) xs) ≡ 0
    cost_off t [] e = refl
    cost_off t (x ∷ xs) e =
        ap (λ b. cond b x.cost 0 + active_cost bit (map (under t) xs)) (under_fails t x e)
        ∙ zero_more (active_cost bit (map (under t) xs)) ∙ cost_off t xs e

    adds_on : (t : GroundCondition) (xs : List Guarded) → truth bit t ≡ true → active_adds bit (map (under t) xs) ≡ active_adds bit xs
    adds_on t [] e = refl
    adds_on t (x ∷ xs) e =
        ap (λ b. cond b x.adds [] ++ active_adds bit (map (under t) xs)) (under_holds t x e)
        ∙ ap (λ l. cond (truth bit x.condition) x.adds [] ++ l) (adds_on t xs e)

    deletes_on : (t : GroundCondition) (xs : List Guarded) → truth bit t ≡ true → active_deletes bit (map (under t) xs) ≡ active_deletes bit xs
    deletes_on t [] e = refl
    deletes_on t (x ∷ xs) e =
        ap (λ b. cond b x.deletes [] ++ active_deletes bit (map (under t) xs)) (under_holds t x e)
        ∙ ap (λ l. cond (truth bit x.condition) x.deletes [] ++ l) (deletes_on t xs e)

    cost_on : (t : GroundCondition) (xs : List Guarded) → truth bit t ≡ true → active_cost bit (map (under t) xs) ≡ active_cost bit xs
    cost_on t [] e = refl
    cost_on t (x ∷ xs) e =
        ap (λ b. cond b x.cost 0 + active_cost bit (map (under t) xs)) (under_holds t x e)
        ∙ ap (λ k. cond (truth bit x.condition) x.cost 0 + k) (cost_on t xs e)

    -- one part, which is left out where it does nothing
    one_adds : (none : Bool) (x : Guarded) → (none ≡ true → x.adds ≡ []) → truth bit x.condition ≡ true
        → active_adds bit (cond none [] (x ∷ [])) ≡ x.adds
    one_adds true x idle e = sym (idle refl)
    one_adds false x idle e = ap (λ b. cond b x.adds [] ++ []) e ∙ append-nil x.adds

    one_deletes : (none : Bool) (x : Guarded) → (none ≡ true → x.deletes ≡ []) → truth bit x.condition ≡ true
        → active_deletes bit (cond none [] (x ∷ [])) ≡ x.deletes
    one_deletes true x idle e = sym (idle refl)
    one_deletes false x idle e = ap (λ b. cond b x.deletes [] ++ []) e ∙ append-nil x.deletes

    one_cost : (none : Bool) (x : Guarded) → (none ≡ true → x.cost ≡ 0) → truth bit x.condition ≡ true
        → active_cost bit (cond none [] (x ∷ [])) ≡ x.cost
    one_cost true x idle e = sym (idle refl)
    one_cost false x idle e = ap (λ b. cond b x.cost 0 + 0) e ∙ omega arith

    one_off : (none : Bool) (x : Guarded) → truth bit x.condition ≡ false
        → (active_adds bit (cond none [] (x ∷ [])) ≡ []) × (active_deletes bit (cond none [] (x ∷ [])) ≡ [])
        × (active_cost bit (cond none [] (x ∷ [])) ≡ 0)
    one_off true x e = (refl, refl, refl)
    one_off false x e =
        (ap (λ b. cond b x.adds [] ++ []) e, ap (λ b. cond b x.deletes [] ++ []) e, ap (λ b. cond b x.cost 0 + 0) e)

    empty_is_nil : (xs : List ℕ) → is_empty xs ≡ true → xs ≡ []
    empty_is_nil [] e = refl
    empty_is_nil (x ∷ xs) e = absurd (cc (eqb-true (length (x ∷ xs)) 0 e))

    idle_has : (c : Choice) → (is_empty c.adds && is_empty c.deletes && nat_eq c.cost 0) ≡ true
        → (c.adds ≡ []) × (c.deletes ≡ []) × (c.cost ≡ 0)
    idle_has c e =
        let two = and_parts (is_empty c.adds && is_empty c.deletes) (nat_eq c.cost 0) e in
        let one = and_parts (is_empty c.adds) (is_empty c.deletes) two.0 in
        (empty_is_nil c.adds one.0, empty_is_nil c.deletes one.1, eqb-true c.cost 0 two.1)

    abbrev own_of : GroundCondition → Choice → Guarded
    own_of t c = record { condition = t; adds = c.adds; deletes = c.deletes; cost = c.cost }

    pub change_of-guard_on : (t : GroundCondition) (c : Choice) → truth bit t ≡ true
        → change_of order bit (guard t c) ≡ change_of order bit c
    change_of-guard_on t c e =
        let none : Bool = is_empty c.adds && is_empty c.deletes && nat_eq c.cost 0 in
        let own : List Guarded = own_part t c in
        let rest : List Guarded = map (under t) c.guarded in
        let adds : (p : ℕ → Bool) → list_any p (active_adds bit (own ++ rest)) ≡ list_any p (c.adds ++ active_adds bit c.guarded)
        = λ p. any-active_adds p own rest
        ∙ ap (λ l. list_any p l || list_any p (active_adds bit rest)) (one_adds none (own_of t c) (λ f. (idle_has c f).0) e)
        ∙ ap (λ l. list_any p c.adds || list_any p l) (adds_on t c.guarded e)
        ∙ sym (any-append p c.adds (active_adds bit c.guarded)) in
        let deletes : (p : ℕ → Bool) → list_any p (active_deletes bit (own ++ rest)) ≡ list_any p (c.deletes ++ active_deletes bit c.guarded)
        = λ p. any-active_deletes p own rest
        ∙ ap (λ l. list_any p l || list_any p (active_deletes bit rest)) (one_deletes none (own_of t c) (λ f. (idle_has c f).1) e)
        ∙ ap (λ l. list_any p c.deletes || list_any p l) (deletes_on t c.guarded e)
        ∙ sym (any-append p c.deletes (active_deletes bit c.guarded)) in
        change_same (active_adds bit (own ++ rest)) (active_deletes bit (own ++ rest))
        (c.adds ++ active_adds bit c.guarded) (c.deletes ++ active_deletes bit c.guarded)
        (0 + active_cost bit (own ++ rest)) (c.cost + active_cost bit c.guarded)
        (λ q. adds (tells q))
        (λ q. ap (λ b. not b && list_any (tells q) (active_deletes bit (own ++ rest))) (adds (tells q))
        ∙ ap (λ b. not (list_any (tells q) (c.adds ++ active_adds bit c.guarded)) && b) (deletes (tells q)))
        (zero_more (active_cost bit (own ++ rest)) ∙ active_cost-append own rest
        ∙ ap (λ k. k + active_cost bit rest) (one_cost none (own_of t c) (λ f. (idle_has c f).2) e)
        ∙ ap (λ k. c.cost + k) (cost_on t c.guarded e))

    pub change_of-guard_off : (t : GroundCondition) (c : Choice) → truth bit t ≡ false
        → change_of order bit (guard t c) ≡ settled no_atoms no_atoms 0
    change_of-guard_off t c e =
        let own : List Guarded = own_part t c in
        let rest : List Guarded = map (under t) c.guarded in
        let off = one_off (is_empty c.adds && is_empty c.deletes && nat_eq c.cost 0) (own_of t c) e in
        let adds : (p : ℕ → Bool) → list_any p (active_adds bit (own ++ rest)) ≡ false
        = λ p. any-active_adds p own rest ∙ ap (λ l. list_any p l || list_any p (active_adds bit rest)) off.0
        ∙ ap (list_any p) (adds_off t c.guarded e) in
        let deletes : (p : ℕ → Bool) → list_any p (active_deletes bit (own ++ rest)) ≡ false
        = λ p. any-active_deletes p own rest ∙ ap (λ l. list_any p l || list_any p (active_deletes bit rest)) off.1
        ∙ ap (list_any p) (deletes_off t c.guarded e) in
        change_same (active_adds bit (own ++ rest)) (active_deletes bit (own ++ rest)) [] []
        (0 + active_cost bit (own ++ rest)) 0
        (λ q. adds (tells q))
        (λ q. ap (λ b. not b && list_any (tells q) (active_deletes bit (own ++ rest))) (adds (tells q))
        ∙ deletes (tells q))
        (zero_more (active_cost bit (own ++ rest)) ∙ active_cost-append own rest
        ∙ ap (λ k. k + active_cost bit rest) off.2 ∙ zero_more (active_cost bit rest) ∙ cost_off t c.guarded e)
