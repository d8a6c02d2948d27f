-- What is written are the numbers of the marks.
use Rattle.std.proofs.Common.{◌≡◌, ◌*◌, ap, ◌∙◌, length, arith}
use Rattle.applicable_actions.specs.LeftOut.{is_kept_open}
use Rattle.ground_model.proofs.Packed.{length-packed}
use Rattle.applicable_actions.specs.Codes.{Codes}
use Rattle.applicable_actions.proofs.Marks.{marked_codes}
use Rattle.applicable_actions.proofs.action_index.ActionIndex.fill.Goals as goal

pub write_codes-into-inside-requires-clause-room : goal.write_codes-into-inside-requires-clause-room
write_codes-into-inside-requires-clause-room c =
    let long : length c.mark_all.new.marks ≡ length c.into.inside.marks
    = ap length c.mark_all.ensures ∙ length-packed (λ k. is_kept_open c.args.self.now k c.args.state.now) (length c.into.inside.marks) in
    omega (arith, long, c.into.invariant.room)

pub write_codes-into-inside-requires-clause-few : goal.write_codes-into-inside-requires-clause-few
write_codes-into-inside-requires-clause-few c =
    let long : length c.mark_all.new.marks ≡ length c.into.inside.marks
    = ap length c.mark_all.ensures ∙ length-packed (λ k. is_kept_open c.args.self.now k c.args.state.now) (length c.into.inside.marks) in
    omega (arith, long, c.into.invariant.few)

pub invariant_of-into : goal.invariant_of-into
invariant_of-into c =
    let long : length c.mark_all.new.marks ≡ length c.into.inside.marks
    = ap length c.mark_all.ensures ∙ length-packed (λ k. is_kept_open c.args.self.now k c.args.state.now) (length c.into.inside.marks) in
    record {
      room = omega (arith, long, c.into.invariant.room, c.write_codes-into-inside.ensures.room);
      few = omega (arith, long, c.into.invariant.few);
      within = c.write_codes-into-inside.ensures.count;
    }

pub returns-clause-codes : goal.returns-clause-codes
returns-clause-codes c =
    let room = ap (λ (codes : Codes). codes.room) c.into.view_is in
    c.write_codes-into-inside.ensures.codes
    ∙ marked_codes c.args.self.now c.args.state.now c.mark_all.new.marks (length c.into.inside.marks) c.mark_all.ensures
    (omega (arith, room, c.requires.room))

pub returns-clause-room : goal.returns-clause-room
returns-clause-room c =
    let long : length c.mark_all.new.marks ≡ length c.into.inside.marks
    = ap length c.mark_all.ensures ∙ length-packed (λ k. is_kept_open c.args.self.now k c.args.state.now) (length c.into.inside.marks) in
    ap (λ n. 64 * n) long ∙ ap (λ (codes : Codes). codes.room) c.into.view_is
