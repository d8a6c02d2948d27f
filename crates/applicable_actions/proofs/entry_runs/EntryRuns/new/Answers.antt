-- One more run with nothing in it.
use Rattle.std.proofs.Common.{ℕ, List, [], ◌∷◌, ◌++◌, map, ap, ◌∙◌, sym, arith}
use Rattle.std.proofs.lemmas.List.{map-append}
use Rattle.std.proofs.lemmas.List.FromFn.{map-range_with_len_more}
use Rattle.applicable_actions.specs.declared.entry.Entry.{Entry}
use Rattle.applicable_actions.specs.Runs.{items_of}
use Rattle.applicable_actions.proofs.entry_runs.EntryRuns.new.Goals as goal

nothing : ℕ → List Entry
nothing _ = []

pub loop-atom-preserved : goal.loop-atom-preserved
unfolding nothing
loop-atom-preserved c =
    ap (map items_of) c.in_ok-push.ensures.items
    ∙ map-append items_of c.loop-atom.by_atom.items (c.new.result ∷ [])
    ∙ (λ i. c.loop-atom.invariant i ++ c.new.ensures.items i ∷ [])
    ∙ sym (map-range_with_len_more nothing 0 c.loop-atom._atom c.loop-atom._atom (omega arith))
