use Rattle.std.proofs.Common.{◌≡◌, [], sym, ap, subst, ◌∙◌}
use Rattle.std.specs.Prelude.{Err, Ok}
use Rattle.std.proofs.lemmas.Result.{err_from_is_err_and}
use Rattle.ppddl_model.specs.declared.tree.Task.{Task}
use Rattle.ground_meaning.specs.choices.Numbering.{ground_condition}
use Rattle.ground_meaning.specs.refusals.Starts.{Starts}
use Rattle.ground_terms.specs.sizes.Valued.{with_values}
use Rattle.outcome_dist.specs.conditions.Bindings.{numbering_of}
use Rattle.grounder.specs.starts.Answers as starts
use Rattle.grounder.specs.starts.Answers.{starts_or_refusal}
use Rattle.grounder.specs.Limited.{Limited, ended}
use Rattle.grounder.specs.Parts.{IsEndOf}
use Rattle.grounder.proofs.Limiting.{handed_on}
use Rattle.grounder.proofs.Ending.{starts_refused, starts_found}
use Rattle.grounder.proofs.parts.ends_within.Goals as goal

pub returns-in_err-starts : goal.returns-in_err-starts
returns-in_err-starts c =
    let task : Task = c.args.facts.now in
    let n = numbering_of c.args.within.now in
    let p = err_from_is_err_and c.from_residual-in_err-starts.result c.from_residual-in_err-starts.ensures.1 in
    handed_on (λ r. Limited (IsEndOf task) r (ended task)) c.from_residual-in_err-starts.result c.in_err-starts.field-0.0 p.0 p.1 p.2
    (starts_refused task n c.requires.named.numbering (IsEndOf task) c.in_err-starts.field-0.0 c.args.count c.requires.count
    c.if-count-gt-MOST_ATOMS.false
    (subst (λ l. starts.Answers (Err c.in_err-starts.field-0.0) (starts_or_refusal n l))
    (c.as_slice.ensures ∙ ap (λ (t : Task). t.problem.init) c.task.ensures) c.in_err-starts.ensures.exact))

pub returns : goal.returns
returns c =
    let task : Task = c.args.facts.now in
    let n = numbering_of c.args.within.now in
    let is : c.task.result.now ≡ task = c.task.ensures in
    let found = starts_found task n c.requires.named.numbering c.in_ok-starts.starts c.args.count c.requires.count c.if-count-gt-MOST_ATOMS.false
    (subst (λ l. starts.Answers (Ok c.in_ok-starts.starts) (starts_or_refusal n l))
    (c.as_slice.ensures ∙ ap (λ (t : Task). t.problem.init) is) c.in_ok-starts.ensures.exact) in (
      found.0,
      record {
        goal =
            c.in_ok-goal.ensures
            ∙ (λ i. ground_condition (with_values (c.requires.named.table i) (c.requires.named.values i)) (c.requires.named.numbering i) (is i).problem.goal []);
        starts = ap (λ (s : Starts). s.list) (sym found.1);
        start_den = ap (λ (s : Starts). s.den) (sym found.1);
      },
    )
