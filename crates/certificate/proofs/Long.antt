-- Only a text above the greatest length is refused as too long.
use Rattle.std.proofs.Common.{◌≡◌, ◌⊎◌, inl, inr, ℕ, zero, suc, ◌+◌, Bool, true, false, cond, ◌&&◌, ◌||◌, ltb, eqb, List, [], ◌∷◌, length, Option, Some, None, Result, Ok, Err, refl, ap, ◌∙◌}
use Rattle.std.specs.Prelude.{codes}
use Rattle.std.proofs.lemmas.Bool.{cases_Bool, and_parts, ltb-true, lt-ltb}
use Rattle.certificate.specs.declared.limits.TheConstants.{MOST_BYTES, MOST_BYTES_1}
use Rattle.certificate.specs.declared.refusal.CertRefusal.{CertRefusal}
use Rattle.certificate.specs.declared.refusal.CertRefusal.TheVariants.{Syntax, Order, Count, TooLong, Unused}
use Rattle.plain_list.specs.Results.{◌>>=◌}
use Rattle.certificate.specs.Content.{ended}
use Rattle.certificate.specs.Decoding.{behind, parts, header_of, penalty_of, interval_of, count_of}
use Rattle.certificate.specs.Counted.{or_syntax, line_at, said_at, Counted, follows, item_or, item_at, items_at, stop_or, stop_at}
use Rattle.certificate.specs.Reading.{named_rows_list, table_list, rows_list, nothing_at, or_unused, unused_line, is_some, BeginsWith, IsTooLong, is_too_long, read_named, read_numbered, read_lines, read_of}
use Rattle.certificate.proofs.Cuts.{behind_is_rest}
use Rattle.certificate.proofs.HeadLaws.{behind_again}

abbrev IsShort : {A : Type 0} → Result A CertRefusal → Type 0
IsShort read = read ≡ Err TooLong → ⊥

IsShort-then : {A B : Type 0} (read : Result A CertRefusal) (f : A → Result B CertRefusal) → IsShort read → ((x : A) → IsShort (f x)) → IsShort (read >>= f)
IsShort-then (Ok x) f short more = more x
IsShort-then (Err e) f short more = λ same. short (refused e same)
  where
    refused : {A B : Type 0} (e : CertRefusal) → (let r : Result B CertRefusal = Err e in r) ≡ Err TooLong → (let r : Result A CertRefusal = Err e in r) ≡ Err TooLong
    refused e same = cc

IsShort-choice : {A : Type 0} (test : Bool) (a b : Result A CertRefusal) → IsShort a → IsShort b → IsShort (cond test a b)
IsShort-choice true a b p q = p
IsShort-choice false a b p q = q

IsShort-ok : {A : Type 0} (x : A) → IsShort (Ok x)
IsShort-ok x e = absurd cc

IsShort-syntax : {A : Type 0} (k : ℕ) → IsShort {A = A} (Err (Syntax k))
IsShort-syntax k e = absurd cc

IsShort-order : {A : Type 0} (k : ℕ) → IsShort {A = A} (Err (Order k))
IsShort-order k e = absurd cc

IsShort-count : {A : Type 0} (k : ℕ) → IsShort {A = A} (Err (Count k))
IsShort-count k e = absurd cc

IsShort-or_syntax : {A : Type 0} (k : ℕ) (o : Option A) → IsShort (or_syntax k o)
IsShort-or_syntax k None = IsShort-syntax k
IsShort-or_syntax k (Some x) = IsShort-ok x

IsShort-line : (k : ℕ) (lines : List (List ℕ)) → IsShort (line_at k lines)
IsShort-line k [] = IsShort-syntax k
IsShort-line k (line ∷ []) = IsShort-syntax k
IsShort-line k (line ∷ next ∷ more) = IsShort-ok (line, next ∷ more)

IsShort-said : {A : Type 0} (form : List ℕ → Option A) (k : ℕ) (lines : List (List ℕ)) → IsShort (said_at form k lines)
unfolding said_at
IsShort-said form k lines =
    IsShort-then (line_at k lines) _ (IsShort-line k lines) (λ line. IsShort-then (or_syntax k (form line.0)) _ (IsShort-or_syntax k (form line.0)) (λ x. IsShort-ok (x, line.1)))

module _ {X Y : Type 0} (list : Counted X Y) where
  IsShort-item : (before : Option X) (k : ℕ) (line : List ℕ) → IsShort (item_at list before k line)
  unfolding item_at
  IsShort-item before k line = by (list.stop line)
    where
      by : (o : Option Y) → IsShort (item_or list before k line o)
      by (Some y) = IsShort-count k
      by None = IsShort-then (or_syntax k (list.item line)) _ (IsShort-or_syntax k (list.item line)) (λ x. IsShort-choice (list.own x && follows list.order before x) _ _ (IsShort-ok x) (IsShort-order k))

  IsShort-items : (n : ℕ) (before : Option X) (k : ℕ) (lines : List (List ℕ)) → IsShort (items_at list n before k lines)
  unfolding items_at
  IsShort-items zero before k lines = IsShort-ok ([], lines)
  IsShort-items (suc n) before k lines =
      IsShort-then (line_at k lines) _ (IsShort-line k lines) (
      λ line. IsShort-then (item_at list before k line.0) _ (IsShort-item before k line.0) (
      λ x. IsShort-then (items_at list n (Some x) (k + 1) line.1) _ (IsShort-items n (Some x) (k + 1) line.1) (λ others. IsShort-ok (x ∷ others.0, others.1))
      )
      )

  IsShort-stop : (k : ℕ) (lines : List (List ℕ)) → IsShort (stop_at list k lines)
  unfolding stop_at
  IsShort-stop k lines =
      IsShort-then (line_at k lines) _ (IsShort-line k lines) (
      λ line. IsShort-then (stop_or list k line.0 (list.stop line.0)) _ (by line.0 (list.stop line.0)) (λ y. IsShort-ok (y, line.1))
      )
    where
      by : (line : List ℕ) (o : Option Y) → IsShort (stop_or list k line o)
      by line (Some y) = IsShort-ok y
      by line None = IsShort-then (or_syntax k (list.item line)) _ (IsShort-or_syntax k (list.item line)) (λ x. IsShort-count k)

IsShort-nothing : (k : ℕ) (lines : List (List ℕ)) → IsShort (nothing_at k lines)
IsShort-nothing k [] = IsShort-syntax k
IsShort-nothing k (last ∷ []) = IsShort-choice (eqb (length last) 0) _ _ (IsShort-ok tt) (IsShort-syntax k)
IsShort-nothing k (line ∷ next ∷ more) = IsShort-syntax k

IsShort-unused : (o : Option ℕ) → IsShort (or_unused o)
IsShort-unused None = IsShort-ok tt
IsShort-unused (Some k) = λ e. absurd (never e)
  where
    never : (let r : Result (Unit {0}) CertRefusal = Err (Unused k) in r) ≡ Err TooLong → ⊥
    never e = absurd cc

IsShort-named : (penalty lower upper : ℕ) (lines : List (List ℕ)) → IsShort (read_named penalty lower upper lines)
unfolding read_named
IsShort-named penalty lower upper lines =
    IsShort-then (said_at (count_of (codes "states ")) 4 lines) _ (IsShort-said (count_of (codes "states ")) 4 lines) (
    λ count. IsShort-then (items_at named_rows_list count.0 None 5 count.1) _ (IsShort-items named_rows_list count.0 None 5 count.1) (
    λ rows. IsShort-then (stop_at named_rows_list (5 + count.0) rows.1) _ (IsShort-stop named_rows_list (5 + count.0) rows.1) (
    λ end. IsShort-then (nothing_at (6 + count.0) end.1) _ (IsShort-nothing (6 + count.0) end.1) (λ ended. IsShort-ok _)
    )
    )
    )

IsShort-numbered : (penalty lower upper : ℕ) (lines : List (List ℕ)) → IsShort (read_numbered penalty lower upper lines)
unfolding read_numbered
IsShort-numbered penalty lower upper lines =
    IsShort-then (said_at (count_of (codes "atoms ")) 4 lines) _ (IsShort-said (count_of (codes "atoms ")) 4 lines) (
    λ k. IsShort-then (items_at (table_list (codes "acts ")) k.0 None 5 k.1) _ (IsShort-items (table_list (codes "acts ")) k.0 None 5 k.1) (
    λ atoms. IsShort-then (stop_at (table_list (codes "acts ")) (5 + k.0) atoms.1) _ (IsShort-stop (table_list (codes "acts ")) (5 + k.0) atoms.1) (
    λ j. IsShort-then (items_at (table_list (codes "states ")) j.0 None (6 + k.0) j.1) _ (IsShort-items (table_list (codes "states ")) j.0 None (6 + k.0) j.1) (
    λ acts. IsShort-then (stop_at (table_list (codes "states ")) (6 + k.0 + j.0) acts.1) _ (IsShort-stop (table_list (codes "states ")) (6 + k.0 + j.0) acts.1) (
    λ n. IsShort-then (items_at (rows_list k.0 j.0) n.0 None (7 + k.0 + j.0) n.1) _ (IsShort-items (rows_list k.0 j.0) n.0 None (7 + k.0 + j.0) n.1) (
    λ rows. IsShort-then (stop_at (rows_list k.0 j.0) (7 + k.0 + j.0 + n.0) rows.1) _ (IsShort-stop (rows_list k.0 j.0) (7 + k.0 + j.0 + n.0) rows.1) (
    λ end. IsShort-then (nothing_at (8 + k.0 + j.0 + n.0) end.1) _ (IsShort-nothing (8 + k.0 + j.0 + n.0) end.1) (
    λ ended. IsShort-then (or_unused (unused_line k.0 j.0 rows.0)) _ (IsShort-unused (unused_line k.0 j.0 rows.0)) (λ used. IsShort-ok _)
    )
    )
    )
    )
    )
    )
    )
    )

IsShort-lines : (lines : List (List ℕ)) → IsShort (read_lines lines)
unfolding read_lines
IsShort-lines lines =
    IsShort-then (said_at header_of 1 lines) _ (IsShort-said header_of 1 lines) (
    λ version. IsShort-then (said_at penalty_of 2 version.1) _ (IsShort-said penalty_of 2 version.1) (
    λ penalty. IsShort-then (said_at interval_of 3 penalty.1) _ (IsShort-said interval_of 3 penalty.1) (
    λ interval. IsShort-choice (eqb version.0 1) (read_named penalty.0 interval.0.0 interval.0.1 interval.1) (read_numbered penalty.0 interval.0.0 interval.0.1 interval.1)
    (IsShort-named penalty.0 interval.0.0 interval.0.1 interval.1) (IsShort-numbered penalty.0 interval.0.0 interval.0.1 interval.1)
    )
    )
    )

-- ---- the length

or_cases : (a b : Bool) → (a || b) ≡ true → (a ≡ true) ⊎ (b ≡ true)
or_cases true b e = inl refl
or_cases false b e = inr e

or_right : (a b : Bool) → b ≡ true → (a || b) ≡ true
or_right true b e = refl
or_right false b e = e

begins : (front text : List ℕ) → is_some (behind front text) ≡ true → BeginsWith front text
begins front text e = by (behind front text) refl e
  where
    by : (o : Option (List ℕ)) → behind front text ≡ o → is_some o ≡ true → BeginsWith front text
    by None is e = absurd cc
    by (Some rest) is e = record { rest = rest; is = behind_is_rest front text rest is }

too_long : (bytes : List ℕ) → is_too_long bytes ≡ true → IsTooLong bytes
too_long bytes e =
    elim (or_cases (ltb MOST_BYTES (length bytes)) (ltb MOST_BYTES_1 (length bytes) && is_some (behind (ended (codes "cert 1")) bytes)) e) [
      | inl above ↦ inl (ltb-true MOST_BYTES (length bytes) above)
      | inr first ↦ (
          let both = and_parts (ltb MOST_BYTES_1 (length bytes)) (is_some (behind (ended (codes "cert 1")) bytes)) first in
          inr (ltb-true MOST_BYTES_1 (length bytes) both.0, begins (ended (codes "cert 1")) bytes both.1)
          )
    ]

too_long_again : (bytes : List ℕ) → IsTooLong bytes → is_too_long bytes ≡ true
too_long_again bytes (inl above) = rw (lt-ltb MOST_BYTES (length bytes) above) refl
too_long_again bytes (inr first) =
    let begun : is_some (behind (ended (codes "cert 1")) bytes) ≡ true = ap (λ (b : List ℕ). is_some (behind (ended (codes "cert 1")) b)) first.1.is ∙ ap is_some (behind_again (ended (codes "cert 1")) first.1.rest) in
    or_right (ltb MOST_BYTES (length bytes)) _ (rw (lt-ltb MOST_BYTES_1 (length bytes) first.0, begun) refl)

pub is_long : (bytes : List ℕ) → read_of bytes ≡ Err TooLong → IsTooLong bytes
unfolding read_of
is_long bytes e =
    elim (cases_Bool (is_too_long bytes)) [
      | inl above ↦ too_long bytes above
      | inr below ↦ (let read : read_lines (parts 10 bytes) ≡ Err TooLong = rw below at e in absurd (IsShort-lines (parts 10 bytes) read))
    ]

pub long_is_refused : (bytes : List ℕ) → IsTooLong bytes → read_of bytes ≡ Err TooLong
unfolding read_of
long_is_refused bytes above = rw (too_long_again bytes above) refl
