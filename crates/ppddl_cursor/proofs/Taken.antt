-- What was read is a form that stood in front of what lies ahead now, and a form that stands in front is read.
--     one_taken              what was read
--     one_reads              what stands in front is read
--     one_found, one_only    the same of what a call answered
use Rattle.std.proofs.Common.{◌≡◌, Result, Ok, refl, ap}
use Rattle.ppddl_cursor.specs.Forms.{Form, none, more, lowered_form}
use Rattle.ppddl_cursor.specs.Ahead.{Ahead, top, inner, put}
use Rattle.ppddl_cursor.specs.Reading.{Fault, read_to, one_at}
use Rattle.ppddl_cursor.proofs.Results.{read_ok}

pub one_taken : {A : Type 0} (read : Form → Result A Fault) (h k : Ahead) (x : A) → one_at read h ≡ read_to x k → (f : Form) × (read (lowered_form f) ≡ Ok x) × (h ≡ put f k)
unfolding one_at
one_taken read (top none e) k x is = absurd cc
one_taken read (top (more f fs) e) k x is = let b = read_ok (read (lowered_form f)) x (top fs e) k is in (f, b.0, ap (put f) b.1)
one_taken read (inner none b out) k x is = absurd cc
one_taken read (inner (more f fs) b out) k x is = let r = read_ok (read (lowered_form f)) x (inner fs b out) k is in (f, r.0, ap (put f) r.1)

pub one_reads : {A : Type 0} (read : Form → Result A Fault) (f : Form) (x : A) (h : Ahead) → read (lowered_form f) ≡ Ok x → one_at read (put f h) ≡ read_to x h
unfolding one_at
one_reads read f x (top fs e) is = rw is refl
one_reads read f x (inner fs b out) is = rw is refl
