-- Tables and rows that were read are those of a certificate.
use Rattle.std.specs.Prelude.{codes}
use Rattle.certificate.specs.declared.limits.TheConstants.{MOST_COUNT}
use Rattle.certificate.specs.Decoding.{parts}
use Rattle.certificate.proofs.Given.{bounded_on}
use Rattle.certificate.proofs.ReadLaws.{rows_in_range, table_is, numbers_read}
use Rattle.certificate.proofs.TextLaws.{content_is}
use Rattle.certificate.proofs.reading.read_numbered.Goals as goal

pub check_used-requires-clause-rows : goal.check_used-requires-clause-rows
check_used-requires-clause-rows c = rows_in_range c.in_ok-k.k c.in_ok-j.j c.in_ok-n.n _ (parts 10 c.in_ok-n.rest.now) c.in_ok-rows.rows (parts 10 c.in_ok-rows.rest.now) c.in_ok-rows.ensures

pub new-requires : goal.new-requires
new-requires c =
    let few = bounded_on MOST_COUNT c.count_of.result _ c.in_ok-k.k c.in_ok-k.ensures.value c.count_of.ensures.bounded in
    let atoms = table_is (codes "acts ") c.in_ok-k.k 5 (parts 10 c.in_ok-text.rest.now) c.in_ok-atoms.atoms.items (parts 10 c.in_ok-atoms.rest.now) c.in_ok-atoms.ensures in
    let acts = table_is (codes "states ") c.in_ok-j.j _ (parts 10 c.in_ok-j.rest.now) c.in_ok-acts.acts.items (parts 10 c.in_ok-acts.rest.now) c.in_ok-acts.ensures in
    rw (c.from_vec-atoms.ensures, c.from_vec-acts.ensures) (
    content_is c.args.values.penalty c.args.values.lower c.args.values.upper c.in_ok-atoms.atoms.items c.in_ok-acts.acts.items c.in_ok-rows.rows c.requires (
    numbers_read c.in_ok-k.k c.in_ok-j.j c.in_ok-n.n _ (codes "acts ") (codes "states ") c.in_ok-atoms.atoms.items c.in_ok-acts.acts.items (parts 10 c.in_ok-n.rest.now) (parts 10 c.in_ok-rows.rest.now) c.in_ok-rows.rows _ few c.in_ok-j.ensures.bounded c.in_ok-n.ensures.bounded
    atoms acts c.in_ok-rows.ensures c.in_ok-check_used.ensures
    )
    )
