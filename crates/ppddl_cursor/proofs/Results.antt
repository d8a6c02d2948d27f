-- One step of reading after another.
use Rattle.std.proofs.Common.{◌≡◌, Result, Ok, Err, refl, ap}
use Rattle.ppddl_cursor.specs.Ahead.{Ahead}
use Rattle.plain_list.specs.Results.{◌>>=◌}
use Rattle.ppddl_cursor.specs.Reading.{Fault, read_to}

abbrev done : {A : Type 0} → A → Result A Fault
done x = Ok x

same_pair : {A : Type 0} (p q : A × Ahead) → read_to p.0 p.1 ≡ read_to q.0 q.1 → p ≡ q
same_pair p q e = cc

-- a step that was done gave its value
pub read_ok : {A : Type 0} (r : Result A Fault) (x : A) (h k : Ahead) → (r >>= λ y. read_to y h) ≡ read_to x k → (r ≡ Ok x) × (h ≡ k)
read_ok {A} (Ok y) x h k e =
    let q = same_pair {A = A} (y, h) (x, k) e in
    (ap (λ (p : A × Ahead). done p.0) q, ap (λ (p : A × Ahead). p.1) q)
read_ok (Err f) x h k e = absurd cc

-- a step at h, whose value is read on from there
pub through : {A B C : Type 0} (r : Result B Fault) (h : Ahead) (f : B → Result A Fault) (k : A → Result C Fault) (g : B × Ahead → Result C Fault)
    → ((x : B) → (f x >>= k) ≡ g (x, h)) → ((r >>= f) >>= k) ≡ ((r >>= λ x. read_to x h) >>= g)
through (Ok x) h f k g same = same x
through (Err e) h f k g same = refl
