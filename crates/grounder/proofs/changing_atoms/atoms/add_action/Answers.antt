use Rattle.std.proofs.Common.{◌≡◌, List, ℕ, sym, ap, subst, ◌∙◌}
use Rattle.std.specs.Prelude.{flat_map}
use Rattle.std.proofs.lemmas.Result.{IfOk-weaker}
use Rattle.ppddl_model.specs.Steps.{world}
use Rattle.grounder.specs.texts.Texts.{first_texts}
use Rattle.grounder.specs.texts.Wanted.{with_more, IsPut, IsFull}
use Rattle.grounder.specs.changing_atoms.Atoms.{action_texts, row_texts}
use Rattle.grounder.proofs.lemmas.changing_atoms.Instances.{no_rows, all_rows}
use Rattle.grounder.proofs.lemmas.texts.Wanting.{all_put_in, full_of, still_full, both_put}
use Rattle.grounder.proofs.changing_atoms.atoms.add_action.Goals as goal

pub returns-then-len-eq0 : goal.returns-then-len-eq0
returns-then-len-eq0 c =
    ap (with_more c.args.texts.now)
    (sym (no_rows c.args.facts.now c.args.action.now c.args.kept.now (record { bound = c.requires.bound; each = c.requires.each })
    (sym c.len.ensures ∙ c.if-len-eq0.true)))

pub returns-then-not-branch : goal.returns-then-not-branch
returns-then-not-branch c =
    let task = c.args.facts.now in
    let action = c.args.action.now in
    let texts = c.args.texts.now in
    let rows = c.args.kept.now.rows in
    let qs = c.in_ok-atoms.atoms.items in
    let once : List (List ℕ) = flat_map (first_texts (world task)) qs in
    let each : List (List ℕ) = flat_map (row_texts task action qs) rows in
    let full : IsFull (with_more texts once)
    = full_of texts once c.in_ok-add_first.field-0 c.add_first.new.texts c.if-not-branch.true
    (subst (λ l. IsPut texts (flat_map (first_texts (world task)) l) c.in_ok-add_first.field-0 c.add_first.new.texts) c.as_slice.ensures.value c.in_ok-add_first.ensures) in
    subst IsFull
    (ap (λ l. record { texts = l; most = texts.most })
    (all_rows task action c.args.kept.now (record { bound = c.requires.bound; each = c.requires.each }) qs c.in_ok-atoms.ensures
    (λ none. c.if-len-eq0.false (c.len.ensures ∙ none)) c.text_laws.ensures.same texts.texts))
    (still_full (with_more texts once) each full)

pub returns : goal.returns
returns c =
    let task = c.args.facts.now in
    let action = c.args.action.now in
    let texts = c.args.texts.now in
    let rows = c.args.kept.now.rows in
    let qs = c.in_ok-atoms.atoms.items in
    let once : List (List ℕ) = flat_map (first_texts (world task)) qs in
    let each : List (List ℕ) = flat_map (row_texts task action qs) rows in
    let first : c.add_first.new.texts ≡ with_more texts once
    = all_put_in texts once c.in_ok-add_first.field-0 c.add_first.new.texts c.if-not-branch.false
    (subst (λ l. IsPut texts (flat_map (first_texts (world task)) l) c.in_ok-add_first.field-0 c.add_first.new.texts) c.as_slice.ensures.value c.in_ok-add_first.ensures) in
    IfOk-weaker c.add_rows.result
    (λ all. IsPut c.add_first.new.texts (flat_map (row_texts task action c.as_slice-2.result.now) rows) all c.add_rows.new.texts)
    (λ all. IsPut texts (action_texts task action) all c.add_rows.new.texts)
    (λ all put_in. both_put texts c.add_first.new.texts c.add_rows.new.texts once each (action_texts task action) all first
    (all_rows task action c.args.kept.now (record { bound = c.requires.bound; each = c.requires.each }) qs c.in_ok-atoms.ensures
    (λ none. c.if-len-eq0.false (c.len.ensures ∙ none)) c.text_laws.ensures.same texts.texts)
    (subst (λ l. IsPut c.add_first.new.texts (flat_map (row_texts task action l) rows) all c.add_rows.new.texts) c.as_slice-2.ensures.value put_in)) c.add_rows.ensures
