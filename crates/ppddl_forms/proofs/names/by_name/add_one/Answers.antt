use Rattle.std.proofs.Common.{◌≡◌, length, vec_len, rules}
use Rattle.ppddl_forms.proofs.lemmas.names.Finding.{placed-push}
use Rattle.ppddl_forms.proofs.names.by_name.add_one.Goals as goal

pub returns-clause-places : goal.returns-clause-places
returns-clause-places g c =
    let xs = c.args.items.now.items in
    let x = c.args.item.now in
    let name_of = g.T.Named.name_of in
    let many : vec_len c.args.items.now ≡ length xs = search rules in
    rw (c.in_ok-push.ensures.items, c.in_ok-copy.ensures, c.in_ok-add.ensures.added, c.name.ensures, c.len.ensures, many) (placed-push name_of xs c.args.places.now c.requires x)
