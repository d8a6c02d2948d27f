-- Lines and their refusals, as the code finds them.
use Rattle.std.proofs.Common.{◌≡◌, ℕ, eqb, false, List, length, Option, Some, None, option_map, Result, Ok, Err, refl, sym, ap, ◌∙◌, arith}
use Rattle.std.specs.Borrow.{Bor}
use Rattle.std.specs.Prelude.{◌≤◌, IfSome}
use Rattle.std.specs.Option.{ok_or, option_copied}
use Rattle.certificate.specs.declared.refusal.CertRefusal.{CertRefusal}
use Rattle.certificate.specs.declared.refusal.CertRefusal.TheVariants.{Syntax}
use Rattle.certificate.specs.Decoding.{cut, parts}
use Rattle.certificate.specs.Counted.{line_at, or_syntax}
use Rattle.certificate.specs.Reading.{nothing_at}
use Rattle.certificate.specs.Answers.{GivesCertificate, Refuses}
use Rattle.plain_list.proofs.Results.{ok_is}
use Rattle.certificate.proofs.Parts.{HasFirst-parts, parts_cut, parts_whole, line_found}

abbrev failed : {X : Type 0} → CertRefusal → Result X CertRefusal
failed e = Err e

err_is : {X : Type 0} (d e : CertRefusal) → failed {X = X} d ≡ failed e → d ≡ e
err_is d e same = cc

pub line_given : (k : ℕ) (bytes : List ℕ) (found : Option (Bor (List ℕ) × Bor (List ℕ))) → option_map (λ p. (p.0.now, p.1.now)) found ≡ cut 10 bytes
    → GivesCertificate (λ p. (p.0.now, parts 10 p.1.now)) (ok_or found (Syntax k)) (line_at k (parts 10 bytes))
line_given k bytes None e = rw (parts_whole 10 bytes (sym e)) refl
line_given k bytes (Some p) e = rw (parts_cut 10 bytes p.0.now p.1.now (sym e)) (line_found k p.0.now p.1.now)

-- a value that `ok_or` passed on
pub passed : {X Y : Type 0} (view : X → Y) (o : Option X) (refusal : CertRefusal) (x : X) (read : Option Y) → Ok x ≡ ok_or o refusal → option_map view o ≡ read → Some (view x) ≡ read
passed view None refusal x read e is = absurd cc
passed {X} view (Some y) refusal x read e is = ap (λ (z : X). Some (view z)) (ok_is x y e) ∙ is

-- a refusal that `ok_or` made
pub refused : {X Y Z : Type 0} (view : X → Z) (o : Option X) (k : ℕ) (refusal : CertRefusal) (found : Option Z) (read : Option Y) → Err refusal ≡ ok_or o (Syntax k) → option_map view o ≡ found → (None ≡ found → read ≡ None) → Refuses refusal (or_syntax k read)
refused {X} view None k refusal found read e is none =
    let same : refusal ≡ Syntax k = err_is {X = X} refusal (Syntax k) e in
    rw (same, none is) refl
refused view (Some x) k refusal found read e is none = absurd cc

-- bytes behind `end`
pub something : (k : ℕ) (bytes : List ℕ) → eqb (length bytes) 0 ≡ false → nothing_at k (parts 10 bytes) ≡ Err (Syntax k)
something k bytes some = by (cut 10 bytes) refl
  where
    by : (o : Option (List ℕ × List ℕ)) → cut 10 bytes ≡ o → nothing_at k (parts 10 bytes) ≡ Err (Syntax k)
    by None is = rw (parts_whole 10 bytes is, some) refl
    by (Some p) is = let next = HasFirst-parts 10 p.1 in rw (parts_cut 10 bytes p.0 p.1 is, next.is) refl

-- the same, of what stands in the place of another
pub passed_on : {Y : Type 0} (o : Option (Bor Y)) (refusal : CertRefusal) (x : Bor Y) (read : Option Y) → Ok x ≡ ok_or o refusal → option_copied o ≡ read → Some x.now ≡ read
passed_on None refusal x read e is = absurd cc
passed_on {Y} (Some y) refusal x read e is = ap (λ (z : Bor Y). Some z.now) (ok_is x y e) ∙ is

pub refused_on : {X Y : Type 0} (o : Option (Bor X)) (k : ℕ) (refusal : CertRefusal) (found : Option X) (read : Option Y) → Err refusal ≡ ok_or o (Syntax k) → option_copied o ≡ found → (None ≡ found → read ≡ None) → Refuses refusal (or_syntax k read)
refused_on {X} None k refusal found read e is none =
    let same : refusal ≡ Syntax k = err_is {X = Bor X} refusal (Syntax k) e in
    rw (same, none is) refl
refused_on (Some x) k refusal found read e is none = absurd cc

-- a bound on what `ok_or` passed on
pub bounded_on : (most : ℕ) (o : Option ℕ) (refusal : CertRefusal) (n : ℕ) → Ok n ≡ ok_or o refusal → IfSome o (λ m. m ≤ most) → n ≤ most
bounded_on most None refusal n e few = absurd cc
bounded_on most (Some m) refusal n e few = let same : n ≡ m = ok_is n m e in omega (arith, same, few)

-- a value that `ok_or` passed on, as the definition has it
pub given_on : {A : Type 0} (o read : Option A) (refusal : CertRefusal) (x : A) → Ok x ≡ ok_or o refusal → o ≡ read → read ≡ Some x
given_on None read refusal x e is = absurd cc
given_on {A} (Some y) read refusal x e is = sym is ∙ ap (λ (z : A). Some z) (sym (ok_is x y e))
