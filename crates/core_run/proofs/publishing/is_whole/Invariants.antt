-- The words that are left are written exactly where all are.
use Rattle.std.proofs.Common.{◌≡◌, ℕ, drop}
use Rattle.std.specs.Prelude.{Option, is_some}
use Rattle.std.specs.List.{list_all}
use Rattle.core_run.proofs.publishing.is_whole.Given as goal

abbrev pub invariant-loop-word : goal.invariant-loop-word
invariant-loop-word l =
    list_all (λ (word : Option ℕ). is_some word) (drop l.word-index l.word-items)
    ≡ list_all (λ (word : Option ℕ). is_some word) l.row.words
