-- Rows that are found by the hash of their states.
--     buckets_of x               how many buckets there are
--     bucket_of x s              the bucket of a state among them
--     is_in x b place            the row in this place is in bucket b: the problem has its atoms, and its state is there
--     last_before hit place      the last place before this one that is hit, counted from 1; 0 where none is
--     HasLinks x place lasts befores
--                                of the rows before this place each bucket has its last one, and each row of a bucket the one before
--     IsRowOf x s place          the row of state s is in this place, if s has one
use Rattle.std.specs.Prelude.{◌≡◌, ◌≢◌, ℕ, zero, suc, ◌+◌, ◌*◌, ◌/◌, ◌^◌, ◌<◌, ◌&&◌, nat_eq, false, cond, Bool, IsTrue, Contains, List, length, get_or, Option, Some, None}
use Rattle.std.specs.List.{slice_get}
use Rattle.certificate.specs.Rows.{Row}
use Rattle.ground_model.specs.Packed.{State}
use Rattle.ground_step.specs.Hash.{hash_of}
use Rattle.certificate_check.specs.Claims.{knows, row_state}
use Rattle.certificate_check.specs.GroundRows.{Claimed}

abbrev pub scaled : ℕ → State → ℕ
scaled n s = hash_of s / 2 ^ 32 * n / 2 ^ 32

abbrev pub last_before : (ℕ → Bool) → ℕ → ℕ
last_before hit zero = 0
last_before hit (suc place) = cond (hit place) (suc place) (last_before hit place)

module _ (x : Claimed) where
  abbrev pub buckets_of : ℕ
  buckets_of = length x.certificate.rows + 1

  abbrev pub bucket_of : State → ℕ
  bucket_of s = scaled buckets_of s

  abbrev pub is_row_in : ℕ → Option Row → Bool
  is_row_in b None = false
  is_row_in b (Some r) = knows x.problem x.certificate r && nat_eq (bucket_of (row_state x.problem x.certificate r)) b

  abbrev pub is_in : ℕ → ℕ → Bool
  is_in b place = is_row_in b (slice_get x.certificate.rows place)

  pub record HasLinks (place : ℕ) (lasts befores : List ℕ) : Type 0 where
    pub few : buckets_of < 2 ^ 32
    pub buckets : length lasts ≡ buckets_of
    pub long : length befores ≡ place
    pub lasts_are : (b : ℕ) → b < buckets_of → get_or lasts b 0 ≡ last_before (is_in b) place
    pub befores_are : (p b : ℕ) → p < place → IsTrue (is_in b p) → get_or befores p 0 ≡ last_before (is_in b) p

  abbrev pub IsRowOf : State → Option ℕ → Type 0
  IsRowOf s None = (r : Row) → Contains x.certificate.rows r → IsTrue (knows x.problem x.certificate r)
      → row_state x.problem x.certificate r ≢ s
  IsRowOf s (Some place) = (place < length x.certificate.rows)
      × ((r : Row) → slice_get x.certificate.rows place ≡ Some r
      → IsTrue (knows x.problem x.certificate r) × (row_state x.problem x.certificate r ≡ s))
