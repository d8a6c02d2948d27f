-- The parts are those of the rows of both.
use Rattle.std.proofs.Common.{◌≡◌, ◌≤◌, ℕ, List, length, map, sym, ap, subst, ◌∙◌, arith}
use Rattle.std.proofs.lemmas.List.{length-map}
use Rattle.certificate.specs.Content.{content_of, IsCertificate, named_rows}
use Rattle.certificate.specs.Numbering.{acts_table, numbered_row}
use Rattle.cert_merge.specs.declared.origin.Origin.{Origin}
use Rattle.cert_merge.specs.Tables.{joined}
use Rattle.cert_merge.specs.Pairs.{merged_of, row_of}
use Rattle.cert_merge.proofs.Form.{joined_is, acts_few, whole, has_form, has_rows}
use Rattle.cert_merge.proofs.draft.draft_of.Goals as goal

pub numbered_rows-requires-clause-atoms : goal.numbered_rows-requires-clause-atoms
numbered_rows-requires-clause-atoms c =
    c.as_slice-2.ensures ∙ c.in_ok-atoms.ensures.table ∙ joined_is c.args.first.now c.args.second.now c.joined.ensures.valid.0 c.joined.ensures.valid.1

pub numbered_rows-requires-clause-few_acts : goal.numbered_rows-requires-clause-few_acts
numbered_rows-requires-clause-few_acts c =
    let first = c.args.first.now in let second = c.args.second.now in
    let rows = merged_of first second in
    let origins = c.in_ok-origins.origins.items in
    let acts : c.as_slice-3.result.now ≡ acts_table rows
    = c.as_slice-3.ensures ∙ c.in_ok-acts.ensures
    ∙ ap (λ (l : List Origin). acts_table (map (row_of first second) l)) c.deref.ensures.value
    ∙ ap acts_table c.in_ok-origins.ensures.rows in
    let long : length rows ≡ length origins = sym (ap length c.in_ok-origins.ensures.rows) ∙ length-map origins (row_of first second) in
    let few = c.if-len-gt-MOST_COUNT.false in let len = c.len.ensures in let most = acts_few rows in let same = ap length acts in
    omega arith

pub returns-clause-draft : goal.returns-clause-draft
returns-clause-draft c =
    let first = c.args.first.now in let second = c.args.second.now in
    let rows = merged_of first second in
    let origins = c.in_ok-origins.origins.items in
    let is = c.joined.ensures.valid.0 in let is' = c.joined.ensures.valid.1 in
    let long : length rows ≡ length origins = sym (ap length c.in_ok-origins.ensures.rows) ∙ length-map origins (row_of first second) in
    let count : length rows ≤ 1000000 = (let few = c.if-len-gt-MOST_COUNT.false in let len = c.len.ensures in omega arith) in
    let acts : c.in_ok-acts.acts ≡ acts_table rows
    = c.in_ok-acts.ensures
    ∙ ap (λ (l : List Origin). acts_table (map (row_of first second) l)) c.deref.ensures.value
    ∙ ap acts_table c.in_ok-origins.ensures.rows in
    let atoms : c.in_ok-atoms.atoms ≡ joined first second = c.in_ok-atoms.ensures.table in
    let same : content_of 2 first.penalty 0 0 c.in_ok-atoms.atoms c.in_ok-acts.acts c.in_ok-rows.rows ≡ whole first second is is' 0 0
    = λ j. content_of 2 first.penalty 0 0 (atoms j) (acts j)
    ((c.in_ok-rows.ensures ∙ (λ i. map (numbered_row ((c.as_slice-2.ensures ∙ atoms) i) ((c.as_slice-3.ensures ∙ acts) i)) rows)) j) in
    record {
      form = subst IsCertificate (sym same) (has_form first second is is' count (c.requires.few is is'));
      rows = ap named_rows same ∙ has_rows first second is is';
    }

pub origins_of-requires-clause-few : goal.origins_of-requires-clause-few
origins_of-requires-clause-few c =
    subst (λ (l : List (List ℕ)). length l ≤ 1000000) (sym (c.as_slice.ensures ∙ c.in_ok-atoms.ensures.table))
    (c.requires.few c.joined.ensures.valid.0 c.joined.ensures.valid.1)

pub numbered_rows-requires-clause-few_atoms : goal.numbered_rows-requires-clause-few_atoms
numbered_rows-requires-clause-few_atoms c =
    subst (λ (l : List (List ℕ)). length l ≤ 1000000) (sym (c.as_slice-2.ensures ∙ c.in_ok-atoms.ensures.table))
    (c.requires.few c.joined.ensures.valid.0 c.joined.ensures.valid.1)
