-- Kept instances, action by action.
use Rattle.std.proofs.Common.{◌≡◌, ℕ, zero, suc, ◌<◌, List, [], ◌∷◌, length, get_or, sym, subst, arith}
use Rattle.std.specs.List.{AllZip}
use Rattle.ppddl_model.specs.declared.tree.Action.{Action}
use Rattle.ppddl_model.specs.declared.tree.Task.{Task}
use Rattle.task_instances.specs.kept_rows.Rows.{Table}
use Rattle.task_instances.specs.kept_rows.Kept.{AreKept}

zip_at : {X Y : Type 0} (R : X → Y → Type 0) (xs : List X) (ys : List Y) (i : ℕ) (d : X) (e : Y) → AllZip R xs ys → i < length xs
    → R (get_or xs i d) (get_or ys i e)
zip_at R [] ys i d e zip within = absurd (omega arith)
zip_at R (x ∷ xs) [] i d e zip within = absurd zip
zip_at R (x ∷ xs) (y ∷ ys) zero d e zip within = zip.0
zip_at R (x ∷ xs) (y ∷ ys) (suc i) d e zip within = zip_at R xs ys i d e zip.1 (omega arith)

pub kept_at : (task : Task) (actions : List Action) (kept : List Table) (place : ℕ) (a : Action) (t : Table) → AllZip (AreKept task) actions kept
    → place < length actions → a ≡ get_or actions place a → t ≡ get_or kept place t → AreKept task a t
kept_at task actions kept place a t zip within action table =
    subst (λ x. AreKept task x t) (sym action)
    (subst (AreKept task (get_or actions place a)) (sym table) (zip_at (AreKept task) actions kept place a t zip within))
