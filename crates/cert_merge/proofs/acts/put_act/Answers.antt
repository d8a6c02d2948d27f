-- A name more leaves what the other table's marks say.
use Rattle.std.proofs.Common.{sym, subst}
use Rattle.cert_merge.specs.Tables.{AreTaken}
use Rattle.cert_merge.proofs.Taken.{more_names}
use Rattle.cert_merge.proofs.acts.put_act.Goals as goal

pub returns-in_ok-put_entry-in-First-clause-taken_too : goal.returns-in_ok-put_entry-in-First-clause-taken_too
returns-in_ok-put_entry-in-First-clause-taken_too c =
    subst (AreTaken c.args.second.now.acts c.args.taken_too.now) (sym c.in_ok-put_entry-in-First.ensures.names)
    (more_names c.args.second.now.acts c.args.taken_too.now c.args.names.now.keys c.requires.taken_too _)

pub returns-in_ok-put_entry-in-Second-clause-taken : goal.returns-in_ok-put_entry-in-Second-clause-taken
returns-in_ok-put_entry-in-Second-clause-taken c =
    subst (AreTaken c.args.first.now.acts c.args.taken.now) (sym c.in_ok-put_entry-in-Second.ensures.names)
    (more_names c.args.first.now.acts c.args.taken.now c.args.names.now.keys c.requires.taken _)
