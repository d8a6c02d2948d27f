-- What a certificate says of a task, read by names: a row stands for the state in which the atoms that it names are true, and the facts
-- that never change, and takes the instance that it names.
--     instance_named task name     the instance with this name, among those that may ever be open
--     act_named, row_named         what an act and a row of names say
--     names_certificate task c     what the rows of a certificate say, by their names
use Rattle.std.specs.Prelude.{ℕ, List, map, find, Option}
use Rattle.certificate.specs.Content.{Content, named_rows}
use Rattle.certificate.specs.declared.named.NamedAct.{NamedAct}
use Rattle.certificate.specs.declared.named.NamedAct.TheVariants as named
use Rattle.certificate.specs.declared.named.NamedRow.{NamedRow}
use Rattle.decision_process.specs.Readings.{RowAct, GivesUp, AtGoal, Row, Certificate}
use Rattle.ppddl_model.specs.declared.tree.Task.{Task}
use Rattle.ppddl_model.specs.State.{State, same_name}
use Rattle.ppddl_model.specs.Changing.{kept_instances, state_of_texts}
use Rattle.ppddl_model.specs.Steps.{Instance, instance_name}
use Rattle.plan_app.specs.certificates.Carried.{taking}

module _ (task : Task) where
  abbrev pub instance_named : List ℕ → Option Instance
  instance_named name = find (λ (i : Instance). same_name name (instance_name i)) (kept_instances task)

  abbrev pub act_named : NamedAct → RowAct Instance
  act_named named.GiveUp = GivesUp
  act_named named.Goal = AtGoal
  act_named (named.Do name) = taking (instance_named name)

  abbrev pub row_named : NamedRow → Row State Instance
  row_named r = record { state = state_of_texts task r.atoms; lower = r.lower; upper = r.upper; act = act_named r.act }

  abbrev pub names_certificate : Content → Certificate State Instance
  names_certificate c = record {
    penalty = c.penalty;
    rows = map row_named (named_rows c);
    lower = c.lower;
    upper = c.upper;
  }
