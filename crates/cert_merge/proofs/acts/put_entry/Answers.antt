-- An entry that was put there before stays there.
use Rattle.std.proofs.Common.{◌≡◌, sym, subst, rules, arith}
use Rattle.std.proofs.lemmas.Grind.{common_steps}
use Rattle.std.specs.Prelude.{get_or, slice_set, true, false}
use Rattle.std.specs.BTreeSet.{insert_key}
use Rattle.plain_list.specs.Texts.{compare_texts}
use Rattle.certificate.specs.Content.{name_at}
use Rattle.cert_merge.specs.Tables.{AreTaken}
use Rattle.cert_merge.proofs.Taken.{entry_again, entry_put}
use Rattle.cert_merge.proofs.acts.put_entry.Goals as goal

pub returns-then-taken-place-clause-names : goal.returns-then-taken-place-clause-names
returns-then-taken-place-clause-names c =
    let on : get_or c.args.taken.now c.args.place false ≡ true = search rules in
    sym (entry_again c.args.table.now c.args.taken.now c.args.names.now.keys c.requires.taken c.args.place on)

pub returns-clause-taken : goal.returns-clause-taken
returns-clause-taken c =
    let put : c.insert.new.self.keys ≡ insert_key compare_texts c.args.names.now.keys (name_at c.args.table.now c.args.place) = grind (arith, common_steps) in
    subst (AreTaken c.args.table.now (slice_set c.args.taken.now c.args.place true)) (sym put)
    (entry_put c.args.table.now c.args.taken.now c.args.names.now.keys c.requires.taken c.args.place)
