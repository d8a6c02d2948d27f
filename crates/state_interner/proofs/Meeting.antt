-- What two passes have, by one that has met both.
use Rattle.std.proofs.Common.{◌≡◌, ap, sym, ◌∙◌, subst}
use Rattle.word_table.specs.declared.view.View.{View}
use Rattle.word_table.specs.view.Steps.{united, without_rights}
use Rattle.word_table.proofs.lemmas.view.Seen.{has_state_more}
use Rattle.word_table.proofs.lemmas.view.Noting.{united_is_more}
use Rattle.word_table.specs.rule.Told.{HasOneEach}
use Rattle.word_table.specs.Seen.{Board, Knowledge, IsOf, knowledge, with_rights}
use Rattle.state_interner.specs.Interned.{HaveOneEach}

pub both_have_one_each : (b : Board) (k other copy both : Knowledge) → IsOf b k → IsOf b other
    → copy ≡ knowledge k.table (with_rights 0 (without_rights k.view))
    → both ≡ knowledge copy.table (united copy.view (without_rights other.view)) → HasOneEach both.view → HaveOneEach k.view other.view
both_have_one_each b k other copy both here there copied met one i j s first second =
    let v : View = with_rights 0 (without_rights k.view) in
    let w : View = without_rights other.view in
    let is : both ≡ knowledge k.table (united v w) = met ∙ ap (λ (x : Knowledge). knowledge x.table (united x.view w)) copied in
    let more = united_is_more v w (there.view.problem ∙ sym here.view.problem) (there.view.layout ∙ sym here.view.layout) in
    let all = subst (λ (x : Knowledge). HasOneEach x.view) is one in
    all i j s (has_state_more v (united v w) more.0 i s first) (has_state_more w (united v w) more.1 j s second)
