-- Lines of a counted list one after the other, as a loop reads them.
use Rattle.std.proofs.Common.{◌≡◌, ℕ, suc, ◌+◌, ◌-◌, ◌<◌, ◌≤◌, List, [], ◌∷◌, ◌++◌, length, Option, Some, Result, Ok, Err, refl, ap, sym, subst, ◌∙◌, arith, append_assoc, length-append}
use Rattle.std.specs.List.{slice_get}
use Rattle.std.proofs.lemmas.List.{append-nil}
use Rattle.certificate.specs.declared.refusal.CertRefusal.{CertRefusal}
use Rattle.certificate.specs.declared.refusal.CertRefusal.TheVariants as refusals
use Rattle.plain_list.specs.Results.{◌>>=◌}
use Rattle.certificate.specs.Counted.{Counted, line_at, item_at, items_at}
use Rattle.certificate.specs.Answers.{Refuses}

pub Refuses-then : {A B : Type 0} (e : CertRefusal) (read : Result A CertRefusal) (f : A → Result B CertRefusal) → Refuses e read → Refuses e (read >>= f)
Refuses-then refusals.Memory read f is = tt
Refuses-then (refusals.Syntax line) read f is = rw is refl
Refuses-then (refusals.Order line) read f is = rw is refl
Refuses-then (refusals.Count line) read f is = rw is refl
Refuses-then refusals.TooLong read f is = rw is refl
Refuses-then (refusals.Unused line) read f is = rw is refl

-- the last item, if there is one
abbrev pub last_of : {X : Type 0} → List X → Option X
last_of xs = slice_get xs (length xs - 1)

last_pushed : {X : Type 0} (xs : List X) (x : X) → slice_get (xs ++ x ∷ []) (length xs) ≡ Some x
last_pushed [] x = refl
last_pushed (y ∷ xs) x = last_pushed xs x

last_of-push : {X : Type 0} (xs : List X) (x : X) → last_of (xs ++ x ∷ []) ≡ Some x
last_of-push xs x =
    let place : length (xs ++ x ∷ []) - 1 ≡ length xs = omega (arith, length-append xs (x ∷ [])) in
    rw place (last_pushed xs x)

module _ {X : Type 0} where
  -- the items read before, and those still read
  abbrev pub with_front : List X → Result (List X × List (List ℕ)) CertRefusal → Result (List X × List (List ℕ)) CertRefusal
  with_front front read = read >>= λ x. Ok (front ++ x.0, x.1)

  regroup : (front : List X) (x : X) (read : Result (List X × List (List ℕ)) CertRefusal) → with_front front (read >>= λ others. Ok (x ∷ others.0, others.1)) ≡ with_front (front ++ x ∷ []) read
  regroup front x (Err e) = refl
  regroup front x (Ok p) = ap (λ (xs : List X). Ok (xs, p.1)) (sym (append_assoc front (x ∷ []) p.0))

module _ {X Y : Type 0} where
  -- what is read from item i on
  abbrev pub from : Counted X Y → List X → ℕ → ℕ → ℕ → List (List ℕ) → Result (List X × List (List ℕ)) CertRefusal
  from list front first count i lines = with_front front (items_at list (count - i) (last_of front) (first + i) lines)

  module _ (list : Counted X Y) (front : List X) (first count i : ℕ) (lines : List (List ℕ)) (total : Result (List X × List (List ℕ)) CertRefusal) where
    pub goes_on : (text : List ℕ) (after : List (List ℕ)) (x : X) → i < count → line_at (first + i) lines ≡ Ok (text, after) → item_at list (last_of front) (first + i) text ≡ Ok x
        → from list front first count i lines ≡ total
        → from list (front ++ x ∷ []) first count (i + 1) after ≡ total
    unfolding items_at
    goes_on text after x lt line item so_far =
        let more : count - i ≡ suc (count - (i + 1)) = omega (arith, lt) in
        let next : first + i + 1 ≡ first + (i + 1) = omega arith in
        let step : with_front front (items_at list (count - i) (last_of front) (first + i) lines) ≡ with_front (front ++ x ∷ []) (items_at list (count - (i + 1)) (Some x) (first + (i + 1)) after) =
        rw (more, line, item, next) (regroup front x (items_at list (count - (i + 1)) (Some x) (first + (i + 1)) after)) in
        rw (last_of-push front x) (sym step ∙ so_far)

    pub ends_at_line : (e : CertRefusal) → i < count → Refuses e (line_at (first + i) lines) → from list front first count i lines ≡ total → Refuses e total
    unfolding items_at
    ends_at_line e lt refused so_far =
        let more : count - i ≡ suc (count - (i + 1)) = omega (arith, lt) in
        let rest = λ (line : List ℕ × List (List ℕ)). item_at list (last_of front) (first + i) line.0 >>= λ x. items_at list (count - (i + 1)) (Some x) (first + i + 1) line.1 >>= λ others. Ok (x ∷ others.0, others.1) in
        let all : with_front front (line_at (first + i) lines >>= rest) ≡ total = rw more at so_far in
        subst (Refuses e) all (Refuses-then e (line_at (first + i) lines >>= rest) (λ p. Ok (front ++ p.0, p.1)) (Refuses-then e (line_at (first + i) lines) rest refused))

    pub ends_at_item : (e : CertRefusal) (text : List ℕ) (after : List (List ℕ)) → i < count → line_at (first + i) lines ≡ Ok (text, after) → Refuses e (item_at list (last_of front) (first + i) text)
        → from list front first count i lines ≡ total → Refuses e total
    unfolding items_at
    ends_at_item e text after lt line refused so_far =
        let more : count - i ≡ suc (count - (i + 1)) = omega (arith, lt) in
        let rest = λ (x : X). items_at list (count - (i + 1)) (Some x) (first + i + 1) after >>= λ others. Ok (x ∷ others.0, others.1) in
        let all : with_front front (item_at list (last_of front) (first + i) text >>= rest) ≡ total = rw (more, line) at so_far in
        subst (Refuses e) all (Refuses-then e (item_at list (last_of front) (first + i) text >>= rest) (λ p. Ok (front ++ p.0, p.1)) (Refuses-then e (item_at list (last_of front) (first + i) text) rest refused))

    pub is_done : count ≤ i → from list front first count i lines ≡ total → total ≡ Ok (front, lines)
    unfolding items_at
    is_done le so_far =
        let none : count - i ≡ 0 = omega (arith, le) in
        let all : with_front front (items_at list (count - i) (last_of front) (first + i) lines) ≡ Ok (front, lines) = rw none (ap (λ (xs : List X). Ok (xs, lines)) (append-nil front)) in
        sym so_far ∙ all
