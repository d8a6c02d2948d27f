-- A name that was put there before stays there.
use Rattle.std.proofs.Common.{◌≡◌, sym, ap, subst, ◌∙◌, rules}
use Rattle.std.specs.Prelude.{get_or, slice_set, true, false}
use Rattle.std.specs.BTreeSet.{insert_key}
use Rattle.plain_list.specs.Texts.{compare_texts}
use Rattle.certificate.specs.Numbering.{filled}
use Rattle.plan_report.specs.certificates.Kept.{name_of_code, named}
use Rattle.plan_report.specs.certificates.Tables.{AreTaken}
use Rattle.plan_report.proofs.lemmas.certificates.Taken.{name_at, name_again, name_put}
use Rattle.plan_report.proofs.certificates.acts.put_name.Goals as goal

pub returns-then-taken-code-clause-names : goal.returns-then-taken-code-clause-names
returns-then-taken-code-clause-names c =
    let g = c.args.problem.now in let taken = c.args.taken.now in let code = c.code-code.result in let found = c.in-Some.ensures.lookup in
    let there = name_at g c.actions.result.now c.actions.ensures.value code c.in-Some.action.now found.3.0 found.1 in
    let on : get_or taken code false ≡ true = search rules in
    sym (name_again g taken c.args.names.now.keys c.requires code c.in-Some.action.now.name there.1 on)
    ∙ ap (λ o. filled c.args.names.now.keys (named o)) (sym there.1 ∙ ap (name_of_code g) c.code-code.ensures)

pub returns-clause-taken : goal.returns-clause-taken
returns-clause-taken c =
    let g = c.args.problem.now in let taken = c.args.taken.now in let code = c.code-code.result in let found = c.in-Some.ensures.lookup in
    let there = name_at g c.actions.result.now c.actions.ensures.value code c.in-Some.action.now found.3.0 found.1 in
    let put : c.insert.new.self.keys ≡ insert_key compare_texts c.args.names.now.keys c.in-Some.action.now.name = search rules in
    subst (AreTaken g (slice_set taken code true)) (sym put)
    (name_put g taken c.args.names.now.keys c.requires code c.in-Some.action.now.name there.1 there.0)

pub returns-clause-names : goal.returns-clause-names
returns-clause-names c =
    let g = c.args.problem.now in let code = c.code-code.result in let found = c.in-Some.ensures.lookup in
    let there = name_at g c.actions.result.now c.actions.ensures.value code c.in-Some.action.now found.3.0 found.1 in
    let put : c.insert.new.self.keys ≡ insert_key compare_texts c.args.names.now.keys c.in-Some.action.now.name = search rules in
    put ∙ ap (λ o. filled c.args.names.now.keys (named o)) (sym there.1 ∙ ap (name_of_code g) c.code-code.ensures)
