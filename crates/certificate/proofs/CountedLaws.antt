-- Counted lists of lines: what was read is spelled so, and what is spelled so is read.
use Rattle.std.proofs.Common.{◌≡◌, ℕ, zero, suc, ◌+◌, Bool, true, cond, ◌&&◌, List, [], ◌∷◌, ◌++◌, length, map, Option, Some, None, Ok, Err, refl, ap, sym, subst, ◌∙◌}
use Rattle.std.specs.Prelude.{IsTrue}
use Rattle.std.specs.List.{AllByRecursion}
use Rattle.std.specs.declared.cmp.Ordering.{Ordering}
use Rattle.std.proofs.lemmas.Bool.{and_parts}
use Rattle.certificate.specs.declared.refusal.CertRefusal.TheVariants.{Order, Count}
use Rattle.plain_list.specs.Texts.{rises, rises_behind}
use Rattle.plain_list.specs.Results.{◌>>=◌}
use Rattle.plain_list.proofs.Results.{bind_ok, ok_is, test_passes}
use Rattle.certificate.specs.Counted.{or_syntax, line_at, said_at, Counted, follows, item_or, item_at, items_at, stop_or, stop_at}
use Rattle.certificate.proofs.Parts.{HasFirst}

-- ---- steps that did not fail

pub said : {A : Type 0} (k : ℕ) (o : Option A) (x : A) → or_syntax k o ≡ Ok x → o ≡ Some x
said k None x e = absurd cc
said {A} k (Some y) x e = ap (λ (z : A). Some z) (ok_is y x e)

pub line_is : (k : ℕ) (lines : List (List ℕ)) (line : List ℕ) (rest : List (List ℕ)) → line_at k lines ≡ Ok (line, rest) → lines ≡ line ∷ rest
line_is k [] line rest e = absurd cc
line_is k (last ∷ []) line rest e = absurd cc
line_is k (first ∷ next ∷ more) line rest e = ap (λ (p : List ℕ × List (List ℕ)). p.0 ∷ p.1) (ok_is (first, next ∷ more) (line, rest) e)

pub line_again : (k : ℕ) (line : List ℕ) (rest : List (List ℕ)) → HasFirst rest → line_at k (line ∷ rest) ≡ Ok (line, rest)
line_again k line rest first = rw first.is refl

pub said_is : {A : Type 0} (form : List ℕ → Option A) (k : ℕ) (lines : List (List ℕ)) (x : A) (rest : List (List ℕ)) → said_at form k lines ≡ Ok (x, rest) → (line : List ℕ) × (lines ≡ line ∷ rest) × (form line ≡ Some x)
unfolding said_at
said_is {A} form k lines x rest e =
    let found = bind_ok (line_at k lines) (λ line. or_syntax k (form line.0) >>= λ y. Ok (y, line.1)) (x, rest) e in
    let formed = bind_ok (or_syntax k (form found.0.0)) (λ y. Ok (y, found.0.1)) (x, rest) found.2 in
    let same = ok_is (formed.0, found.0.1) (x, rest) formed.2 in
    let value = ap (λ p. p.0) same in
    let after : found.0.1 ≡ rest = ap (λ p. p.1) same in
    (found.0.0, line_is k lines found.0.0 found.0.1 found.1 ∙ ap (λ (r : List (List ℕ)). found.0.0 ∷ r) after, said k (form found.0.0) formed.0 formed.1 ∙ ap (λ (z : A). Some z) value)

pub said_again : {A : Type 0} (form : List ℕ → Option A) (k : ℕ) (line : List ℕ) (rest : List (List ℕ)) (x : A) → HasFirst rest → form line ≡ Some x → said_at form k (line ∷ rest) ≡ Ok (x, rest)
unfolding said_at
said_again form k line rest x first e = rw (line_again k line rest first, e) refl

-- ---- the order

-- each item is in order by itself and above the one before, the first above `before`
abbrev pub in_order : {X Y : Type 0} → Counted X Y → Option X → List X → Bool
in_order list before [] = true
in_order list before (x ∷ xs) = list.own x && follows list.order before x && in_order list (Some x) xs

abbrev pub rises_from : {X : Type 0} → (X → X → Ordering) → Option X → List X → Bool
rises_from order None xs = rises order xs
rises_from order (Some before) xs = rises_behind order before xs

rises_from-cons : {X : Type 0} (order : X → X → Ordering) (before : Option X) (x : X) (xs : List X) → rises_from order before (x ∷ xs) ≡ (follows order before x && rises_from order (Some x) xs)
rises_from-cons order None x xs = refl
rises_from-cons order (Some before) x xs = refl

rises_from-nil : {X : Type 0} (order : X → X → Ordering) (before : Option X) → rises_from order before [] ≡ true
rises_from-nil order None = refl
rises_from-nil order (Some before) = refl

module _ {X Y : Type 0} (list : Counted X Y) where
  pub order_parts : (before : Option X) (xs : List X) → in_order list before xs ≡ true → AllByRecursion (λ x. IsTrue (list.own x)) xs × (rises_from list.order before xs ≡ true)
  order_parts before [] e = (tt, rises_from-nil list.order before)
  order_parts before (x ∷ xs) e =
      let last = and_parts (list.own x && follows list.order before x) (in_order list (Some x) xs) e in
      let both = and_parts (list.own x) (follows list.order before x) last.0 in
      let rest = order_parts (Some x) xs last.1 in
      ((both.0, rest.0), rises_from-cons list.order before x xs ∙ rw (both.1, rest.1) refl)

  pub order_again : (before : Option X) (xs : List X) → AllByRecursion (λ x. IsTrue (list.own x)) xs → rises_from list.order before xs ≡ true → in_order list before xs ≡ true
  order_again before [] own rise = refl
  order_again before (x ∷ xs) own rise =
      let both = and_parts (follows list.order before x) (rises_from list.order (Some x) xs) (sym (rises_from-cons list.order before x xs) ∙ rise) in
      rw (own.0, both.0, order_again (Some x) xs own.1 both.1) refl

-- ---- what was read

module _ {X Y : Type 0} (list : Counted X Y) (spell : X → List ℕ) (P : X → Type 0) (is : (line : List ℕ) (x : X) → list.item line ≡ Some x → (line ≡ spell x) × P x) where
  abbrev Stands : Option X → List ℕ → X → Type 0
  Stands before line x = (line ≡ spell x) × P x × ((list.own x && follows list.order before x) ≡ true)

  item_is : (before : Option X) (k : ℕ) (line : List ℕ) (x : X) → item_at list before k line ≡ Ok x → Stands before line x
  unfolding item_at
  item_is before k line x e = by (list.stop line) e
    where
      by : (o : Option Y) → item_or list before k line o ≡ Ok x → Stands before line x
      by (Some y) e = absurd cc
      by None e =
          let found = bind_ok (or_syntax k (list.item line)) (λ z. cond (list.own z && follows list.order before z) (Ok z) (Err (Order k))) x e in
          let ordered = test_passes (list.own found.0 && follows list.order before found.0) found.0 (Order k) x found.2 in
          let spelled = is line found.0 (said k (list.item line) found.0 found.1) in
          subst (Stands before line) ordered.1 (spelled.0, spelled.1, ordered.0)

  abbrev pub Are : ℕ → Option X → List (List ℕ) → List X × List (List ℕ) → Type 0
  Are n before lines p = (lines ≡ map spell p.0 ++ p.1) × (length p.0 ≡ n) × AllByRecursion P p.0 × (in_order list before p.0 ≡ true)

  pub items_are : (n : ℕ) (before : Option X) (k : ℕ) (lines : List (List ℕ)) (xs : List X) (rest : List (List ℕ)) → items_at list n before k lines ≡ Ok (xs, rest) → Are n before lines (xs, rest)
  unfolding items_at
  items_are zero before k lines xs rest e =
      let same = ok_is ([], lines) (xs, rest) e in
      subst (Are 0 before lines) same (refl, refl, tt, refl)
  items_are (suc n) before k lines xs rest e =
      let line = bind_ok (line_at k lines) (λ l. item_at list before k l.0 >>= λ x. items_at list n (Some x) (k + 1) l.1 >>= λ others. Ok (x ∷ others.0, others.1)) (xs, rest) e in
      let item = bind_ok (item_at list before k line.0.0) (λ x. items_at list n (Some x) (k + 1) line.0.1 >>= λ others. Ok (x ∷ others.0, others.1)) (xs, rest) line.2 in
      let others = bind_ok (items_at list n (Some item.0) (k + 1) line.0.1) (λ o. Ok (item.0 ∷ o.0, o.1)) (xs, rest) item.2 in
      let same = ok_is (item.0 ∷ others.0.0, others.0.1) (xs, rest) others.2 in
      let one = item_is before k line.0.0 item.0 item.1 in
      let more = items_are n (Some item.0) (k + 1) line.0.1 others.0.0 others.0.1 others.1 in
      let whole : lines ≡ spell item.0 ∷ (map spell others.0.0 ++ others.0.1) =
      line_is k lines line.0.0 line.0.1 line.1 ∙ ap (λ (l : List ℕ). l ∷ line.0.1) one.0 ∙ ap (λ (r : List (List ℕ)). spell item.0 ∷ r) more.0 in
      subst (Are (suc n) before lines) same (whole, ap suc more.1, (one.1, more.2), rw (one.2, more.3) refl)

module _ {X Y : Type 0} (list : Counted X Y) where
  pub stop_is : (k : ℕ) (lines : List (List ℕ)) (y : Y) (rest : List (List ℕ)) → stop_at list k lines ≡ Ok (y, rest) → (line : List ℕ) × (lines ≡ line ∷ rest) × (list.stop line ≡ Some y)
  unfolding stop_at
  stop_is k lines y rest e =
      let line = bind_ok (line_at k lines) (λ l. stop_or list k l.0 (list.stop l.0) >>= λ z. Ok (z, l.1)) (y, rest) e in
      let stop = bind_ok (stop_or list k line.0.0 (list.stop line.0.0)) (λ z. Ok (z, line.0.1)) (y, rest) line.2 in
      let same = ok_is (stop.0, line.0.1) (y, rest) stop.2 in
      let value : stop.0 ≡ y = ap (λ p. p.0) same in
      let after : line.0.1 ≡ rest = ap (λ p. p.1) same in
      (line.0.0, line_is k lines line.0.0 line.0.1 line.1 ∙ ap (λ (r : List (List ℕ)). line.0.0 ∷ r) after, by line.0.0 (list.stop line.0.0) stop.0 stop.1 ∙ ap (λ (z : Y). Some z) value)
    where
      never : (k : ℕ) (o : Option X) (y : Y) → (or_syntax k o >>= λ x. Err (Count k)) ≡ Ok y → ⊥
      never k None y e = absurd cc
      never k (Some x) y e = absurd cc

      by : (line : List ℕ) (o : Option Y) (z : Y) → stop_or list k line o ≡ Ok z → o ≡ Some z
      by line (Some w) z e = ap (λ (v : Y). Some v) (ok_is w z e)
      by line None z e = absurd (never k (list.item line) z e)

-- ---- what is read again

module _ {X Y : Type 0} (list : Counted X Y) (spell : X → List ℕ) (P : X → Type 0) (again : (x : X) → P x → list.item (spell x) ≡ Some x) (apart : (x : X) → P x → list.stop (spell x) ≡ None) where
  item_again : (before : Option X) (k : ℕ) (x : X) → P x → (list.own x && follows list.order before x) ≡ true → item_at list before k (spell x) ≡ Ok x
  unfolding item_at
  item_again before k x is ordered = rw (apart x is, again x is, ordered) refl

  pub items_again : (xs : List X) (before : Option X) (k : ℕ) (next : List ℕ) (more : List (List ℕ)) → AllByRecursion P xs → in_order list before xs ≡ true → items_at list (length xs) before k (map spell xs ++ next ∷ more) ≡ Ok (xs, next ∷ more)
  unfolding items_at
  items_again [] before k next more are ordered = refl
  items_again (x ∷ xs) before k next more are ordered =
      let both = and_parts (list.own x && follows list.order before x) (in_order list (Some x) xs) ordered in
      rw (
        line_again k (spell x) (map spell xs ++ next ∷ more) (HasFirst-behind (map spell xs) next more),
        item_again before k x are.0 both.0,
        items_again xs (Some x) (k + 1) next more are.1 both.1,
      ) refl
    where
      HasFirst-behind : (front : List (List ℕ)) (next : List ℕ) (more : List (List ℕ)) → HasFirst (front ++ next ∷ more)
      HasFirst-behind [] next more = record { first = next; others = more; is = refl }
      HasFirst-behind (line ∷ front) next more = record { first = line; others = front ++ next ∷ more; is = refl }

pub stop_again : {X Y : Type 0} (list : Counted X Y) (k : ℕ) (line next : List ℕ) (more : List (List ℕ)) (y : Y) → list.stop line ≡ Some y → stop_at list k (line ∷ next ∷ more) ≡ Ok (y, next ∷ more)
unfolding stop_at
stop_again list k line next more y is = rw is refl
