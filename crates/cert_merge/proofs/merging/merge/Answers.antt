-- The draft with its interval is the two certificates as one.
use Rattle.std.proofs.Common.{◌≡◌, ◌∙◌, Result, Err, sym, ap, subst}
use Rattle.std.proofs.lemmas.Result.{err_from_is_err_and}
use Rattle.certificate.specs.Content.{Content, content_of}
use Rattle.cert_merge.specs.declared.refusal.MergeRefusal.{MergeRefusal}
use Rattle.cert_merge.specs.Merged.{IsMergeOf, Merges}
use Rattle.cert_merge.specs.Drafts.{drafted}
use Rattle.cert_merge.proofs.Theorem.{few_atoms, own_known, refused, too_few, whole_merges}
use Rattle.cert_merge.proofs.merging.merge.Goals as goal

pub draft_of-requires : goal.draft_of-requires
draft_of-requires c = record {
  few = λ is is'. few_atoms c.args.problem.now c.penalty-penalty.ensures.valid c.args.first.now c.args.second.now is is' c.requires.first c.requires.second;
}

pub returns-in_err-draft : goal.returns-in_err-draft
returns-in_err-draft c =
    let g = c.args.problem.now in let first = c.args.first.now in let second = c.args.second.now in
    let p = err_from_is_err_and c.from_residual.result c.from_residual.ensures.1 in
    subst (λ (r : Result Content MergeRefusal). Merges g first second r) (sym (p.1 ∙ ap Err p.2))
    (refused g c.penalty-penalty.ensures.valid first second c.in_err-draft.ensures.valid.0 c.in_err-draft.ensures.valid.1 c.requires.first c.requires.second
    c.in_err-draft.field-0.0 c.in_err-draft.ensures.draft)

pub ends_of-requires-clause-known : goal.ends_of-requires-clause-known
ends_of-requires-clause-known c =
    own_known c.args.problem.now c.penalty-penalty.ensures.valid c.args.first.now c.args.second.now c.in_ok-draft.ensures.valid.0
    c.in_ok-draft.ensures.valid.1 c.requires.first c.requires.second c.in_ok-draft.draft c.in_ok-draft.ensures.draft

pub returns : goal.returns
returns c =
    let g = c.args.problem.now in let first = c.args.first.now in let second = c.args.second.now in
    let draft = c.in_ok-draft.draft in let ends = c.in_ok-ends.ends in
    let valid = c.penalty-penalty.ensures.valid in let is = c.in_ok-draft.ensures.valid.0 in let is' = c.in_ok-draft.ensures.valid.1 in
    let same : c.new.result ≡ drafted g.penalty ends.lower ends.upper draft
    = c.new.ensures ∙ ap (λ n. content_of 2 n ends.lower ends.upper draft.atoms draft.acts draft.rows) c.penalty-penalty.ensures.value in (
      subst (IsMergeOf g first second) (sym same)
          (whole_merges g valid first second is is' c.requires.first c.requires.second draft c.in_ok-draft.ensures.draft ends c.in_ok-ends.ensures),
      too_few g valid first second is is' c.requires.first c.requires.second draft c.in_ok-draft.ensures.draft,
    )
