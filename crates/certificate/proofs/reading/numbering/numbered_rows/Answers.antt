use Rattle.certificate.specs.Numbering.{atoms_table, acts_table}
use Rattle.certificate.proofs.Sorted.{sorted_rises, table_sorted}
use Rattle.certificate.proofs.Numbered.{atoms_in, acts_in, HasNames, have_own_names}
use Rattle.certificate.proofs.NumberingLoop.{all_at}
use Rattle.certificate.proofs.reading.numbering.numbered_rows.Goals as goal

pub take_places-requires-clause-rises : goal.take_places-requires-clause-rises
take_places-requires-clause-rises c = rw c.requires.atoms (sorted_rises (atoms_table c.args.rows.now) (table_sorted (atoms_in c.args.rows.now)))

pub take_places-requires-clause-has : goal.take_places-requires-clause-has
take_places-requires-clause-has c =
    let has = all_at (HasNames (atoms_table c.args.rows.now) (acts_table c.args.rows.now)) c.args.rows.now c.loop-row.row-index c.row-item.result (have_own_names c.args.rows.now) c.loop-row-test.true c.row-item.is in
    rw (c.as_slice.ensures, c.requires.atoms) has.0

pub numbered_act-requires-clause-rises : goal.numbered_act-requires-clause-rises
numbered_act-requires-clause-rises c = rw c.requires.acts (sorted_rises (acts_table c.args.rows.now) (table_sorted (acts_in c.args.rows.now)))

pub numbered_act-requires-clause-has : goal.numbered_act-requires-clause-has
numbered_act-requires-clause-has c =
    let has = all_at (HasNames (atoms_table c.args.rows.now) (acts_table c.args.rows.now)) c.args.rows.now c.loop-row.row-index c.row-item.result (have_own_names c.args.rows.now) c.loop-row-test.true c.row-item.is in
    rw c.requires.acts has.1
