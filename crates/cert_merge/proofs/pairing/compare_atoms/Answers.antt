-- Where one list has ended, their lengths decide.
use Rattle.std.proofs.Common.{◌≡◌, ◌∙◌, sym, length, arith}
use Rattle.std.specs.Prelude.{min}
use Rattle.cert_merge.specs.Tables.{place_in}
use Rattle.cert_merge.proofs.NextRow.{one_ended}
use Rattle.cert_merge.proofs.pairing.compare_atoms.Goals as goal

pub returns : goal.returns
returns c =
    let a = c.args.first.now in let b = c.args.second.now in let n = c.loop-place.place in
    let end : n ≡ min (length a) (length b) = (let r = c.min-place-end.ensures in let t = c.loop-place-test.false in let u = c.loop-place.auto in omega (arith, r, t, u)) in
    c.cmp-2.ensures ∙ sym (one_ended (place_in c.args.ours.now) (place_in c.args.theirs.now) a b n end) ∙ c.loop-place.invariant
