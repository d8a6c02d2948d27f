-- Each code fits, and has a place.
use Rattle.std.proofs.Common.{◌≡◌, ◌+◌, ◌<◌, ◌++◌, length, take, sym, ap, ◌∙◌, arith}
use Rattle.std.proofs.lemmas.List.{length-set}
use Rattle.applicable_actions.proofs.Codes.{code_below, room_left, written_more}
use Rattle.applicable_actions.proofs.open_codes.write_codes.Goals as goal

pub overflow_cast-code : goal.overflow_cast-code
overflow_cast-code c =
    let written = ap (λ xs. take c.loop-code.count c.loop-code.codes ++ xs) (sym c.in-Some.ensures.steps) ∙ c.loop-code.invariant.written in
    omega (
      arith,
      c.requires.few,
      code_below c.args.marks.now c.loop-code.codes c.next.new.self c.loop-code.count c.in-Some.code
          c.loop-code.invariant.within written,
    )

pub set-requires : goal.set-requires
set-requires c =
    let written = ap (λ xs. take c.loop-code.count c.loop-code.codes ++ xs) (sym c.in-Some.ensures.steps) ∙ c.loop-code.invariant.written in
    omega (
      arith,
      c.requires.room,
      c.loop-code.invariant.long,
      room_left c.args.marks.now c.loop-code.codes c.next.new.self c.loop-code.count c.in-Some.code
          c.loop-code.invariant.within written,
    )

pub loop-code-preserved : goal.loop-code-preserved
loop-code-preserved c =
    let written = ap (λ xs. take c.loop-code.count c.loop-code.codes ++ xs) (sym c.in-Some.ensures.steps) ∙ c.loop-code.invariant.written in
    let below : c.loop-code.count < length c.loop-code.codes
    = omega (
      arith,
      c.requires.room,
      c.loop-code.invariant.long,
      room_left c.args.marks.now c.loop-code.codes c.next.new.self c.loop-code.count c.in-Some.code
          c.loop-code.invariant.within written,
    ) in
    let long : length c.set.new.self ≡ length c.loop-code.codes
    = ap length c.set.ensures ∙ length-set c.loop-code.codes c.loop-code.count c.in-Some.code in
    record {
      callable = tt;
      finite = tt;
      long = long ∙ c.loop-code.invariant.long;
      within = omega (arith, below, long);
      written = ap (λ xs. take (c.loop-code.count + 1) xs ++ c.next.new.self) c.set.ensures
          ∙ written_more c.args.marks.now c.loop-code.codes c.next.new.self c.loop-code.count c.in-Some.code
          c.loop-code.invariant.within written below;
    }
