use Rattle.std.proofs.Common.{◌≡◌, ◌-◌, ◌++◌, true, map, take, drop, length, refl, sym, ap, ◌∙◌, arith, rules}
use Rattle.std.proofs.lemmas.List.{take_all, length-drop}
use Rattle.std.proofs.lemmas.List.Elements.{All-contains}
use Rattle.std.proofs.lemmas.Slice.Eq.{slice_eq-Decides}
use Rattle.ground_model.proofs.Steps.{slice_get-contains}
use Rattle.bellman_backup.specs.Odds.{share_of, IsWithin}
use Rattle.bellman_backup.proofs.PlacedWeights.{same_share, repeated_is_placed}
use Rattle.bellman_backup.proofs.action_weights.place_shares.Goals as goal

pub returns-then-eq : goal.returns-then-eq
returns-then-eq c =
    let old = c.args.shares.now.items in let new = c.add_shares.new.shares.items in let spans = c.args.spans.now in let last = c.in-Some.last.now in
    let behind = drop c.len-first.result c.deref.result.now in
    let own = take (length c.deref.result.now - c.len-first.result) behind in
    let same : c.of.result.now ≡ own = (slice_eq-Decides same_share c.of.result.now own true c.if-eq.ensures).0 refl in
    let is = c.deref.ensures.value in let first : c.len-first.result ≡ length old = search rules in
    repeated_is_placed c.args.action.now last old new c.truncate.new.self.items own
    (All-contains (IsWithin old) spans last c.requires.within (slice_get-contains spans (length spans - 1) last (sym c.in-Some.ensures.value)))
    (c.in_ok-add_shares.ensures ∙ ap (λ cs. old ++ map share_of cs) c.as_slice.ensures)
    (take_all (length c.deref.result.now - c.len-first.result) behind (let n = length-drop c.len-first.result c.deref.result.now in omega arith)
    ∙ (λ j. drop (first j) (is j)))
    (ap (λ xs. take last.count (drop last.first xs)) (sym c.as_slice-in-Some.ensures.value) ∙ sym c.of.ensures ∙ same)
    (c.truncate.ensures.items ∙ ap (λ n. take n new) first)
