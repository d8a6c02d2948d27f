-- What a worker knows and has seen, as lists of entries, and two such lists in one.
--     knows_in xs id             there is an entry of the id
--     greater_of, smaller_of, narrower_of
--                                two numbers and two entries in one
--     AreMerged xs ys r          r knows what xs or ys knows, and has the narrower numbers of both
--     HasLearned old ys new      a worker has learned what ys says, and nothing else of it changed
use Rattle.std.specs.Prelude.{◌≡◌, ℕ, max, min, Bool, nat_eq, ◌||◌, Option, Some, None, List}
use Rattle.std.specs.List.{list_any}
use Rattle.ground_model.specs.Packed.{State}
use Rattle.bound_core.specs.declared.id_row.IdRow.{IdRow}
use Rattle.bound_core.specs.declared.worker.Seen.{Seen}
use Rattle.bound_core.specs.declared.worker.Worker.{Worker}
use Rattle.bound_core.specs.Shown.{seen_lower_in, seen_upper_in}

abbrev pub knows_in : List Seen → ℕ → Bool
knows_in xs id = list_any (λ (x : Seen). nat_eq x.id id) xs

abbrev pub greater_of : Option ℕ → Option ℕ → Option ℕ
greater_of None b = b
greater_of (Some x) None = Some x
greater_of (Some x) (Some y) = Some (max x y)

abbrev pub smaller_of : Option ℕ → Option ℕ → Option ℕ
smaller_of None b = b
smaller_of (Some x) None = Some x
smaller_of (Some x) (Some y) = Some (min x y)

abbrev pub narrower_of : Seen → Seen → Seen
narrower_of x y = record {
  id = x.id;
  lower = greater_of x.lower y.lower;
  upper = smaller_of x.upper y.upper;
}

pub record AreMerged (xs ys r : List Seen) : Type 0 where
  pub knows : (id : ℕ) → knows_in r id ≡ (knows_in xs id || knows_in ys id)
  pub lower : (ids : List IdRow) (s : State)
      → seen_lower_in ids r s ≡ max (seen_lower_in ids xs s) (seen_lower_in ids ys s)
  pub upper : (ids : List IdRow) (first : ℕ) (s : State)
      → seen_upper_in ids first r s ≡ min (seen_upper_in ids first xs s) (seen_upper_in ids first ys s)

pub record HasLearned (old : Worker) (ys : List Seen) (new : Worker) : Type 0 where
  pub live : new.live ≡ old.live
  pub spare : new.spare ≡ old.spare
  pub merged : AreMerged old.seen ys new.seen
