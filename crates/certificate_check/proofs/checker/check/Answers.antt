-- The first condition that fails is the one that is found.
use Rattle.std.proofs.Common.{◌≡◌, Some, sym, ◌∙◌}
use Rattle.std.proofs.lemmas.Bool.{false≢true}
use Rattle.certificate_check.specs.declared.verdict.Verdict.TheVariants.{Accepted, Ends}
use Rattle.certificate_check.specs.Claims.{low_in, high_in}
use Rattle.certificate_check.specs.Verdicts.{IsVerdict}
use Rattle.certificate_check.proofs.Verdicts.{verdict_tells, first_verdict, none_of, told_rows, told_sound, told_interval}
use Rattle.certificate_check.proofs.checker.check.Goals as goal

pub returns-in-Some-clause-verdict : goal.returns-in-Some-clause-verdict
returns-in-Some-clause-verdict c =
    let g = c.args.problem.now in
    let q = c.args.certificate.now in
    let penalty : q.penalty ≡ g.penalty = sym c.penalty.ensures.value ∙ c.if-penalty.false ∙ c.penalty-2.ensures.value in
    let told : IsVerdict g q c.in-Some.verdict = first_verdict g q (low_in g q) (high_in g q) penalty c.in-Some.verdict
    (told_rows c.in_ok-rows.rows c.in_ok-table.table g q c.in_ok-table.ensures c.in_ok-rows.ensures.problem c.in_ok-rows.ensures.certificate
    (Some c.in-Some.verdict) c.in-Some.ensures) in
    told

pub returns-in-Some-clause-balanced : goal.returns-in-Some-clause-balanced
returns-in-Some-clause-balanced c =
    let g = c.args.problem.now in
    let q = c.args.certificate.now in
    let penalty : q.penalty ≡ g.penalty = sym c.penalty.ensures.value ∙ c.if-penalty.false ∙ c.penalty-2.ensures.value in
    let told : IsVerdict g q c.in-Some.verdict = first_verdict g q (low_in g q) (high_in g q) penalty c.in-Some.verdict
    (told_rows c.in_ok-rows.rows c.in_ok-table.table g q c.in_ok-table.ensures c.in_ok-rows.ensures.problem c.in_ok-rows.ensures.certificate
    (Some c.in-Some.verdict) c.in-Some.ensures) in
    verdict_tells g q c.penalty.ensures.valid c.in-Some.verdict told

pub returns-then-not-is_interval-clause-verdict : goal.returns-then-not-is_interval-clause-verdict
returns-then-not-is_interval-clause-verdict c =
    let g = c.args.problem.now in
    let q = c.args.certificate.now in
    let penalty : q.penalty ≡ g.penalty = sym c.penalty.ensures.value ∙ c.if-penalty.false ∙ c.penalty-2.ensures.value in
    let sound = told_sound c.in_ok-rows.rows c.in_ok-table.table g q c.in_ok-table.ensures c.in_ok-rows.ensures.problem
    c.in_ok-rows.ensures.certificate c.rows_verdict.result (none_of c.rows_verdict.result c.in_default.not-Some) c.rows_verdict.ensures in
    let interval = told_interval c.in_ok-rows.rows c.in_ok-table.table g q c.in_ok-table.ensures c.in_ok-rows.ensures.problem
    c.in_ok-rows.ensures.certificate c.lower.result c.upper.result c.is_interval.result c.lower.ensures.value c.upper.ensures.value c.is_interval.ensures in
    let told : IsVerdict g q Ends = (penalty, sound, (λ is. absurd (false≢true (sym c.if-not-is_interval.true ∙ interval.1 is)))) in
    told

pub returns-then-not-is_interval-clause-balanced : goal.returns-then-not-is_interval-clause-balanced
returns-then-not-is_interval-clause-balanced c =
    let g = c.args.problem.now in
    let q = c.args.certificate.now in
    let penalty : q.penalty ≡ g.penalty = sym c.penalty.ensures.value ∙ c.if-penalty.false ∙ c.penalty-2.ensures.value in
    let sound = told_sound c.in_ok-rows.rows c.in_ok-table.table g q c.in_ok-table.ensures c.in_ok-rows.ensures.problem
    c.in_ok-rows.ensures.certificate c.rows_verdict.result (none_of c.rows_verdict.result c.in_default.not-Some) c.rows_verdict.ensures in
    let interval = told_interval c.in_ok-rows.rows c.in_ok-table.table g q c.in_ok-table.ensures c.in_ok-rows.ensures.problem
    c.in_ok-rows.ensures.certificate c.lower.result c.upper.result c.is_interval.result c.lower.ensures.value c.upper.ensures.value c.is_interval.ensures in
    let told : IsVerdict g q Ends = (penalty, sound, (λ is. absurd (false≢true (sym c.if-not-is_interval.true ∙ interval.1 is)))) in
    verdict_tells g q c.penalty.ensures.valid Ends told

pub returns-clause-verdict : goal.returns-clause-verdict
returns-clause-verdict c =
    let g = c.args.problem.now in
    let q = c.args.certificate.now in
    let penalty : q.penalty ≡ g.penalty = sym c.penalty.ensures.value ∙ c.if-penalty.false ∙ c.penalty-2.ensures.value in
    let sound = told_sound c.in_ok-rows.rows c.in_ok-table.table g q c.in_ok-table.ensures c.in_ok-rows.ensures.problem
    c.in_ok-rows.ensures.certificate c.rows_verdict.result (none_of c.rows_verdict.result c.in_default.not-Some) c.rows_verdict.ensures in
    let interval = told_interval c.in_ok-rows.rows c.in_ok-table.table g q c.in_ok-table.ensures c.in_ok-rows.ensures.problem
    c.in_ok-rows.ensures.certificate c.lower.result c.upper.result c.is_interval.result c.lower.ensures.value c.upper.ensures.value c.is_interval.ensures in
    let told : IsVerdict g q Accepted = (penalty, sound, interval.0 c.if-not-is_interval.false) in
    told

pub returns-clause-balanced : goal.returns-clause-balanced
returns-clause-balanced c =
    let g = c.args.problem.now in
    let q = c.args.certificate.now in
    let penalty : q.penalty ≡ g.penalty = sym c.penalty.ensures.value ∙ c.if-penalty.false ∙ c.penalty-2.ensures.value in
    let sound = told_sound c.in_ok-rows.rows c.in_ok-table.table g q c.in_ok-table.ensures c.in_ok-rows.ensures.problem
    c.in_ok-rows.ensures.certificate c.rows_verdict.result (none_of c.rows_verdict.result c.in_default.not-Some) c.rows_verdict.ensures in
    let interval = told_interval c.in_ok-rows.rows c.in_ok-table.table g q c.in_ok-table.ensures c.in_ok-rows.ensures.problem
    c.in_ok-rows.ensures.certificate c.lower.result c.upper.result c.is_interval.result c.lower.ensures.value c.upper.ensures.value c.is_interval.ensures in
    let told : IsVerdict g q Accepted = (penalty, sound, interval.0 c.if-not-is_interval.false) in
    verdict_tells g q c.penalty.ensures.valid Accepted told
