-- Choices that are joined one after another, and choices that are piled.
use Rattle.std.proofs.Common.{◌≡◌, ℕ, ◌+◌, ◌*◌, ◌<◌, Bool, true, false, not, ◌&&◌, ◌||◌, cond, List, [], ◌∷◌, ◌++◌, refl, sym, ap, ◌∙◌, arith}
use Rattle.std.specs.Prelude.{nat_eq}
use Rattle.std.proofs.lemmas.Bool.{eqb-true}
use Rattle.std.proofs.lemmas.List.{append_assoc}
use Rattle.std.proofs.lemmas.List.Kept.{AllPairs-filter}
use Rattle.ground_model.specs.Choices.{is_member}
use Rattle.ground_model.specs.declared.action.Choice.{Choice}
use Rattle.ground_meaning.specs.choices.Rising.{rising, less}
use Rattle.ground_meaning.specs.choices.Joint.{joined}
use Rattle.ground_meaning.proofs.lemmas.choices.Members.{any-rising, any-append}
use Rattle.outcome_dist.specs.lists.Piles.{piled, settled}
use Rattle.outcome_dist.proofs.lemmas.lists.Sets.{Rise, rising_rises, same_sets, rising_is, increasing-rising}

-- ---- members

kept_member : (same inside kept : Bool) (here there : Bool) → (same ≡ true → not inside ≡ kept) → here ≡ (there && not inside)
    → (x : ℕ) (q : ℕ) (rest : List ℕ) → nat_eq q x ≡ same → is_member rest q ≡ here
    → is_member (cond kept (x ∷ rest) rest) q ≡ ((same || there) && not inside)
kept_member true true true here there told is x q rest e at = absurd (cc (told refl))
kept_member true true false here there told is x q rest e at = at ∙ is ∙ none there
  where
    none : (b : Bool) → (b && false) ≡ false
    none true = refl
    none false = refl
kept_member true false true here there told is x q rest e at = ap (λ b. b || is_member rest q) e
kept_member true false false here there told is x q rest e at = absurd (cc (told refl))
kept_member false inside true here there told is x q rest e at = ap (λ b. b || is_member rest q) e ∙ at ∙ is
kept_member false inside false here there told is x q rest e at = at ∙ is

pub member-less : (xs gone : List ℕ) (q : ℕ) → is_member (less xs gone) q ≡ (is_member xs q && not (is_member gone q))
member-less [] gone q = refl
member-less (x ∷ xs) gone q =
    kept_member (nat_eq q x) (is_member gone q) (not (is_member gone x)) (is_member (less xs gone) q) (is_member xs q)
    (λ same. ap (λ k. not (is_member gone k)) (eqb-true q x same)) (member-less xs gone q) x q (less xs gone) refl refl

pub rising_same : (xs ys : List ℕ) → ((q : ℕ) → is_member xs q ≡ is_member ys q) → rising xs ≡ rising ys
rising_same xs ys same = rising_is (rising xs) ys (increasing-rising xs) (λ q. any-rising (nat_eq q) xs ∙ same q)

less_rises : (xs gone : List ℕ) → Rise (less (rising xs) gone)
less_rises xs gone = AllPairs-filter (λ x y. x < y) (λ q. not (is_member gone q)) (rising xs) (rising_rises xs)

pub less_same : (xs ys gone away : List ℕ) → ((q : ℕ) → (is_member xs q && not (is_member gone q)) ≡ (is_member ys q && not (is_member away q)))
    → less (rising xs) gone ≡ less (rising ys) away
less_same xs ys gone away same =
    same_sets (less (rising xs) gone) (less (rising ys) away) (less_rises xs gone) (less_rises ys away) (λ q.
    member-less (rising xs) gone q ∙ ap (λ b. b && not (is_member gone q)) (any-rising (nat_eq q) xs)
    ∙ same q
    ∙ sym (member-less (rising ys) away q ∙ ap (λ b. b && not (is_member away q)) (any-rising (nat_eq q) ys)))

member-two : (xs ys : List ℕ) (q : ℕ) → is_member (xs ++ ys) q ≡ (is_member xs q || is_member ys q)
member-two xs ys q = any-append (nat_eq q) xs ys

member-rising : (xs : List ℕ) (q : ℕ) → is_member (rising xs) q ≡ is_member xs q
member-rising xs q = any-rising (nat_eq q) xs

-- ---- what is gone once is gone

gone_twice : (a b up other : Bool) → ((a || (b && not other)) && not (up || other)) ≡ ((a || b) && not (up || other))
gone_twice true true true true = refl
gone_twice true true true false = refl
gone_twice true true false true = refl
gone_twice true true false false = refl
gone_twice true false true true = refl
gone_twice true false true false = refl
gone_twice true false false true = refl
gone_twice true false false false = refl
gone_twice false true true true = refl
gone_twice false true true false = refl
gone_twice false true false true = refl
gone_twice false true false false = refl
gone_twice false false true true = refl
gone_twice false false true false = refl
gone_twice false false false true = refl
gone_twice false false false false = refl

gone_later : (u c v d : Bool) → (((u && not v) || c) && not (v || d)) ≡ ((u || c) && not (v || d))
gone_later true true true true = refl
gone_later true true true false = refl
gone_later true true false true = refl
gone_later true true false false = refl
gone_later true false true true = refl
gone_later true false true false = refl
gone_later true false false true = refl
gone_later true false false false = refl
gone_later false true true true = refl
gone_later false true true false = refl
gone_later false true false true = refl
gone_later false true false false = refl
gone_later false false true true = refl
gone_later false false true false = refl
gone_later false false false true = refl
gone_later false false false false = refl

-- ---- a pile that is settled first

module _ (d r : Choice) where
  settled_adds : rising (d.adds ++ rising r.adds) ≡ rising (d.adds ++ r.adds)
  settled_adds =
      rising_same (d.adds ++ rising r.adds) (d.adds ++ r.adds) (λ q.
      member-two d.adds (rising r.adds) q ∙ ap (λ b. is_member d.adds q || b) (member-rising r.adds q) ∙ sym (member-two d.adds r.adds q))

  settled_deletes : less (rising (d.deletes ++ less (rising r.deletes) (rising r.adds))) (rising (d.adds ++ rising r.adds))
      ≡ less (rising (d.deletes ++ r.deletes)) (rising (d.adds ++ r.adds))
  settled_deletes =
      less_same (d.deletes ++ less (rising r.deletes) (rising r.adds)) (d.deletes ++ r.deletes) (rising (d.adds ++ rising r.adds)) (rising (d.adds ++ r.adds)) (λ q.
      let a : Bool = is_member d.deletes q in
      let b : Bool = is_member r.deletes q in
      let up : Bool = is_member d.adds q in
      let other : Bool = is_member r.adds q in
      let left : is_member (d.deletes ++ less (rising r.deletes) (rising r.adds)) q ≡ (a || (b && not other)) =
      member-two d.deletes (less (rising r.deletes) (rising r.adds)) q
      ∙ ap (λ k. a || k) (member-less (rising r.deletes) (rising r.adds) q ∙ (λ i. member-rising r.deletes q i && not (member-rising r.adds q i))) in
      let away : is_member (rising (d.adds ++ r.adds)) q ≡ (up || other) = member-rising (d.adds ++ r.adds) q ∙ member-two d.adds r.adds q in
      let gone : is_member (rising (d.adds ++ rising r.adds)) q ≡ (up || other) = ap (λ l. is_member l q) settled_adds ∙ away in
      (λ i. left i && not (gone i)) ∙ gone_twice a b up other
      ∙ sym ((λ i. member-two d.deletes r.deletes q i && not (away i))))

  pub joined-settled : joined d (settled r) ≡ joined d r
  joined-settled = λ i. record {
    weight = d.weight * r.weight;
    cost = d.cost + r.cost;
    adds = settled_adds i;
    deletes = settled_deletes i;
    guarded = d.guarded ++ r.guarded;
  }

-- ---- one choice more on a pile

module _ (d r c : Choice) where
  piled_adds : rising (rising (d.adds ++ r.adds) ++ c.adds) ≡ rising (d.adds ++ (r.adds ++ c.adds))
  piled_adds =
      rising_same (rising (d.adds ++ r.adds) ++ c.adds) (d.adds ++ (r.adds ++ c.adds)) (λ q.
      member-two (rising (d.adds ++ r.adds)) c.adds q
      ∙ ap (λ b. b || is_member c.adds q) (member-rising (d.adds ++ r.adds) q) ∙ sym (member-two (d.adds ++ r.adds) c.adds q)
      ∙ ap (λ l. is_member l q) (append_assoc d.adds r.adds c.adds))

  piled_deletes : less (rising (less (rising (d.deletes ++ r.deletes)) (rising (d.adds ++ r.adds)) ++ c.deletes)) (rising (rising (d.adds ++ r.adds) ++ c.adds))
      ≡ less (rising (d.deletes ++ (r.deletes ++ c.deletes))) (rising (d.adds ++ (r.adds ++ c.adds)))
  piled_deletes =
      less_same (less (rising (d.deletes ++ r.deletes)) (rising (d.adds ++ r.adds)) ++ c.deletes) (d.deletes ++ (r.deletes ++ c.deletes))
      (rising (rising (d.adds ++ r.adds) ++ c.adds)) (rising (d.adds ++ (r.adds ++ c.adds))) (λ q.
      let u : Bool = is_member (d.deletes ++ r.deletes) q in
      let v : Bool = is_member (d.adds ++ r.adds) q in
      let left : is_member (less (rising (d.deletes ++ r.deletes)) (rising (d.adds ++ r.adds)) ++ c.deletes) q ≡ ((u && not v) || is_member c.deletes q) =
      member-two (less (rising (d.deletes ++ r.deletes)) (rising (d.adds ++ r.adds))) c.deletes q
      ∙ ap (λ k. k || is_member c.deletes q) (member-less (rising (d.deletes ++ r.deletes)) (rising (d.adds ++ r.adds)) q
      ∙ (λ i. member-rising (d.deletes ++ r.deletes) q i && not (member-rising (d.adds ++ r.adds) q i))) in
      let gone : is_member (rising (rising (d.adds ++ r.adds) ++ c.adds)) q ≡ (v || is_member c.adds q) =
      member-rising (rising (d.adds ++ r.adds) ++ c.adds) q ∙ member-two (rising (d.adds ++ r.adds)) c.adds q
      ∙ ap (λ k. k || is_member c.adds q) (member-rising (d.adds ++ r.adds) q) in
      let right : is_member (d.deletes ++ (r.deletes ++ c.deletes)) q ≡ (u || is_member c.deletes q) =
      ap (λ l. is_member l q) (sym (append_assoc d.deletes r.deletes c.deletes)) ∙ member-two (d.deletes ++ r.deletes) c.deletes q in
      (λ i. left i && not (gone i)) ∙ gone_later u (is_member c.deletes q) v (is_member c.adds q)
      ∙ sym ((λ i. right i && not ((ap (λ l. is_member l q) (sym piled_adds) ∙ gone) i))))

  weights : d.weight * r.weight * c.weight ≡ d.weight * (r.weight * c.weight)
  weights = grind arith

  costs : d.cost + r.cost + c.cost ≡ d.cost + (r.cost + c.cost)
  costs = omega arith

  pub joined-piled : joined (joined d r) c ≡ joined d (piled r c)
  joined-piled = λ i. record {
    weight = weights i;
    cost = costs i;
    adds = piled_adds i;
    deletes = piled_deletes i;
    guarded = append_assoc d.guarded r.guarded c.guarded i;
  }
