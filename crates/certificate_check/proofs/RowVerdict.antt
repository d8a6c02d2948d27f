-- What the first fault of a row says of it.
use Rattle.std.proofs.Common.{◌≡◌, ℕ, ◌+◌, ◌≤◌, Bool, true, false, Option, Some, None, length, refl, sym, ap, subst, ◌∙◌, arith}
use Rattle.std.specs.Prelude.{Contains}
use Rattle.std.specs.List.{slice_get}
use Rattle.std.proofs.lemmas.Option.{same_Some, slice_get_within, get_or_from_slice_get}
use Rattle.certificate.specs.Rows.{Row}
use Rattle.certificate.specs.Content.{Content, IsCertificate}
use Rattle.ground_model.specs.Packed.{State, words_for}
use Rattle.ground_model.specs.Ground.{Ground}
use Rattle.ground_model.specs.Steps.{ground_process}
use Rattle.certificate_check.specs.declared.row_check.act.Act.{Act}
use Rattle.certificate_check.specs.declared.row_check.fault.Fault.{Fault}
use Rattle.certificate_check.specs.declared.row_check.fault.Fault.TheVariants as fault
use Rattle.certificate_check.specs.declared.row_check.claim.Claim.{Claim}
use Rattle.certificate_check.specs.declared.row_check.scratch.Scratch.{Scratch}
use Rattle.certificate_check.specs.row_check.Faults.{IsFirstFault, IsReadAt, HasRoom}
use Rattle.certificate_check.specs.declared.rows.Room.{Room}
use Rattle.certificate_check.specs.Pass.{HasRoomFor}
use Rattle.certificate_check.specs.declared.verdict.Verdict.{Verdict}
use Rattle.certificate_check.specs.Claims.{knows, row_state, act_of, low_in, high_in}
use Rattle.certificate_check.specs.Verdicts.{IsRightIn, UpperFollowsIn, verdict_of, IsRowVerdict}
use Rattle.certificate_check.proofs.Sound.{low_read, high_read}

abbrev pub verdict_from : ℕ → Option Fault → Option Verdict
verdict_from k None = None
verdict_from k (Some found) = Some (verdict_of k found)

pub row_told : (g : Ground) (c : Content) (low high : State → ℕ) (r : Row) (k : ℕ) (a : Act) → act_of g c r.act ≡ Some a
    → knows g c r ≡ true → (found : Option Fault)
    → IsFirstFault (ground_process g) low high (row_state g c r) (record { lower = r.lower; upper = r.upper; act = a }) found
    → IsRowVerdict g c low high r k (verdict_from k found)
row_told g c low high r k a is known None told = record {
  known = known;
  act = subst (IsRightIn g c low high (row_state g c r)) (sym is) told.0;
  lower = told.1;
  upper = subst (UpperFollowsIn g c low high (row_state g c r) r.upper) (sym is) told.2;
}
row_told g c low high r k a is known (Some fault.Act) told =
    (refl, known, (λ right. told (subst (IsRightIn g c low high (row_state g c r)) is right)))
row_told g c low high r k a is known (Some fault.Lower) told =
    (refl, known, subst (IsRightIn g c low high (row_state g c r)) (sym is) told.0, told.1)
row_told g c low high r k a is known (Some fault.Upper) told = (
  refl,
  known,
  subst (IsRightIn g c low high (row_state g c r)) (sym is) told.0,
  told.1,
  (λ follows. told.2 (subst (UpperFollowsIn g c low high (row_state g c r) r.upper) is follows)),
)

-- the row's state is read as the row says
pub row_is_read : (i g : Ground) (c : Content) → IsCertificate c → (r : Row) (k : ℕ) (a : Act) (s : State) → i ≡ g
    → slice_get c.rows k ≡ Some r → knows g c r ≡ true → s ≡ row_state g c r
    → IsReadAt i (low_in g c) (high_in g c) s (record { lower = r.lower; upper = r.upper; act = a })
row_is_read i g c is r k a s problem at known state =
    let inside : Contains c.rows r = (k, slice_get_within c.rows k r at, get_or_from_slice_get c.rows k r r at) in
    record {
      lower = λ _. sym (ap (low_in g c) state ∙ low_read g c is r inside known);
      upper = λ off.
          let off_row : (ground_process g).goal (row_state g c r) ≡ false = sym (λ j. (ground_process (problem j)).goal (state j)) ∙ off in
          sym (ap (high_in g c) state ∙ high_read g c is r inside known off_row);
    }

-- the same of the row in its place, by a state that is written
pub row_answer : (i g : Ground) (c : Content) (low high : State → ℕ) (mine r : Row) (k : ℕ) (a : Act) (s : State) (known : Bool) (found : Option Fault)
    → i ≡ g → slice_get c.rows k ≡ Some mine → slice_get c.rows k ≡ Some r → Some a ≡ act_of g c mine.act
    → known ≡ knows g c mine → known ≡ true → s ≡ row_state g c mine
    → IsFirstFault (ground_process i) low high s (record { lower = mine.lower; upper = mine.upper; act = a }) found
    → IsRowVerdict g c low high r (k + 1) (verdict_from (k + 1) found)
row_answer i g c low high mine r k a s known found problem at at' is told_known is_true state told =
    let claim : Claim = record { lower = mine.lower; upper = mine.upper; act = a } in
    let here : IsFirstFault (ground_process g) low high (row_state g c mine) claim found =
    subst (λ x. IsFirstFault (ground_process x) low high (row_state g c mine) claim found) problem
    (subst (λ x. IsFirstFault (ground_process i) low high x claim found) state told) in
    subst (λ x. IsRowVerdict g c low high x (k + 1) (verdict_from (k + 1) found)) (same_Some mine r (sym at ∙ at'))
    (row_told g c low high mine (k + 1) a (sym is) (sym told_known ∙ is_true) found here)

pub room_after : (i g : Ground) (s : State) (scratch : Scratch) → i ≡ g → length s ≡ words_for (length g.atoms)
    → words_for (length g.atoms) ≤ 16 → HasRoom i s scratch → HasRoomFor g (record { state = s; scratch = scratch })
room_after i g s scratch same long few room = record {
  state = long;
  few = few;
  next = room.next ∙ long;
  codes = subst (λ (x : Ground). length x.actions ≤ scratch.codes.room) same room.codes;
}

pub room_before : (i g : Ground) (s : State) (room : Room) → i ≡ g → length s ≡ words_for (length g.atoms)
    → HasRoomFor g room → HasRoom i s room.scratch
room_before i g s room same long has = record {
  words = omega (arith, long, has.few);
  next = has.next ∙ sym long;
  codes = subst (λ (x : Ground). length x.actions ≤ room.scratch.codes.room) (sym same) has.codes;
}
