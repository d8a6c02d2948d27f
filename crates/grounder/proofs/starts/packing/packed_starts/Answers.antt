use Rattle.std.proofs.Common.{◌≡◌, ◌≤◌, ℕ, List, ◌++◌, length, map, sym, ap, ◌∙◌, arith}
use Rattle.std.proofs.lemmas.List.{append-nil}
use Rattle.ground_model.specs.declared.action.Choice.{Choice}
use Rattle.ground_model.specs.declared.start.Start.{Start}
use Rattle.ground_terms.proofs.lemmas.sizes.ManyWays.{drop-all}
use Rattle.grounder.specs.starts.Growing.{start_of}
use Rattle.grounder.proofs.lemmas.starts.Answered.{starts_are}
use Rattle.grounder.proofs.starts.packing.packed_starts.Goals as goal

pub returns : goal.returns
returns c =
    let items : List Choice = c.as_slice-choice-items.result.now in
    let starts : List Start = c.loop-choice.starts.items in
    let i : ℕ = c.loop-choice.choice-index in
    let past : length items ≤ i = omega (arith, c.loop-choice-test.false) in
    let whole : starts ≡ map (start_of c.args.count) items =
    sym (append-nil starts) ∙ ap (λ l. starts ++ map (start_of c.args.count) l) (sym (drop-all i items past)) ∙ c.loop-choice.invariant in
    c.from_vec.ensures ∙ whole
    ∙ ap (map (start_of c.args.count)) (c.as_slice-choice-items.ensures ∙ c.in-Ok.ensures.list)
    ∙ starts_are c.args.count c.args.divisor c.args.drafts.items
