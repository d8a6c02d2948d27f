use Rattle.std.proofs.Common.{◌≡◌, ℕ, eqb, length, arith}
use Rattle.std.specs.List.{list_any}
use Rattle.std.proofs.lemmas.List.{take_at}
use Rattle.certificate.specs.Rows.{Row, shown}
use Rattle.certificate.specs.Used.{IsMarkedBy}
use Rattle.certificate.proofs.Marks.{uses_more}
use Rattle.certificate.proofs.reading.used.used_atoms.Goals as goal

pub loop-place-preserved : goal.loop-place-preserved
loop-place-preserved c =
    let row : Row = shown c.row.result in
    let marked : IsMarkedBy ((λ (r : Row) (i : ℕ). list_any (λ n. eqb n i) r.atoms) row) c.loop-place.used.items c.mark.new.used = rw c.deref_mut.ensures.value at c.mark.ensures in
    let long : length c.mark.new.used ≡ c.loop-place.used.len = omega (arith, marked.0, c.deref_mut.ensures.value, c.deref_mut.ensures.len) in
    rw (take_at c.mark.new.used _ c.loop-place.used.len long)
    (uses_more (λ (r : Row) (i : ℕ). list_any (λ n. eqb n i) r.atoms) c.args.rows.now c.args.tables.atoms c.loop-place.place row c.loop-place.used.items c.mark.new.used c.row.ensures c.loop-place.invariant marked)
