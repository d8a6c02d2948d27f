use Rattle.std.proofs.Common.{◌≡◌, ◌<◌, map, take, length}
use Rattle.std.specs.Prelude.{IsTrue}
use Rattle.std.specs.List.{flat_map, All}
use Rattle.std.specs.Ordering.{nat_cmp}
use Rattle.plain_list.specs.Texts.{rises}
use Rattle.certificate_check.specs.Claims.{are_known, is_known, state_of_row}
use Rattle.certificate_check.specs.Packing.{state_by}
use Rattle.certificate_check.proofs.packing.pack_rows.Given as goal

abbrev pub invariant-loop-place : goal.invariant-loop-place
invariant-loop-place l = record {
  words : l.words.items ≡ flat_map (state_of_row l.numbers l.width) (take l.place l.rows);
  known : l.known.items ≡ map (is_known l.numbers) (take l.place l.rows);
  within : All (λ i. i < length l.numbers) l.before;
  rise : IsTrue (rises nat_cmp l.before);
  state : l.state ≡ state_by l.numbers l.before l.width;
  told : l.is_known ≡ are_known l.numbers l.before;
}
