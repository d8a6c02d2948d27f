-- The atoms so far have the same places.
use Rattle.std.proofs.Common.{◌≡◌, drop, map}
use Rattle.std.specs.Ordering.{nat_cmp}
use Rattle.std.specs.Cmp.Lexicographic.{slice_cmp}
use Rattle.cert_merge.specs.Tables.{place_in}
use Rattle.cert_merge.proofs.pairing.compare_atoms.Given as goal

abbrev pub invariant-loop-place : goal.invariant-loop-place
invariant-loop-place l =
    slice_cmp nat_cmp (map (place_in l.ours) (drop l.place l.first)) (map (place_in l.theirs) (drop l.place l.second))
    ≡ slice_cmp nat_cmp (map (place_in l.ours) l.first) (map (place_in l.theirs) l.second)
