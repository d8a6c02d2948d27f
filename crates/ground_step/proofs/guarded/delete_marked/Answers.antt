-- The mark of a part that holds is below the end of the word, and is added once.
use Rattle.std.proofs.Common.{◌≡◌, ◌<◌, ◌≤◌, ◌+◌, ◌*◌, ◌^◌, ◌%◌, length, ℕ, Bool, true, false, cond, List, drop, get_or, sym, ap, ◌∙◌, subst, arith}
use Rattle.std.proofs.Math.Nat.{pow-le-pow_right}
use Rattle.std.proofs.lemmas.Nat.{one_shl}
use Rattle.ground_model.specs.declared.action.Guarded.{Guarded}
use Rattle.ground_model.specs.Packed.{State, has_bit}
use Rattle.ground_model.specs.Truth.{truth}
use Rattle.ground_model.specs.Choices.{active_cost}
use Rattle.ground_step.specs.Acting.{AreActing}
use Rattle.ground_step.specs.Edits.{without_atoms, without_parts}
use Rattle.ground_step.specs.Marks.{marks_of}
use Rattle.ground_step.proofs.ActingParts.{next_part, none_deletes, none_holds, none_costs}
use Rattle.ground_step.proofs.Marks.{marks_below, marks_passed}
use Rattle.ground_step.proofs.guarded.delete_marked.Goals.{then-part_holds, else-part_holds}
use Rattle.ground_step.proofs.guarded.delete_marked.Goals as goal

-- after a part: the state, the marks and the cost
module _ (bit : ℕ → Bool) (xs : List Guarded) (i : ℕ) (x : Guarded) (holds : Bool)
    (within : i < length xs) (is : x ≡ get_or xs i x) (truly : truth bit x.condition ≡ holds) where
  state_passed : (s here from : State) → here ≡ cond holds (without_atoms s x.deletes) s
      → without_parts bit s (drop i xs) ≡ from → without_parts bit here (drop (i + 1) xs) ≡ from
  state_passed s here from e so_far =
      ap (λ t. without_parts bit t (drop (i + 1) xs)) (e ∙ ap (λ b. cond b (without_atoms s x.deletes) s) (sym truly))
      ∙ sym (ap (without_parts bit s) (next_part xs i x within is)) ∙ so_far

  marks_after : (held here : ℕ) → here ≡ held + cond holds (2 ^ i) 0
      → held + 2 ^ i * marks_of bit (drop i xs) ≡ marks_of bit xs
      → here + 2 ^ (i + 1) * marks_of bit (drop (i + 1) xs) ≡ marks_of bit xs
  marks_after held here e so_far =
      ap (λ h. h + 2 ^ (i + 1) * marks_of bit (drop (i + 1) xs)) (e ∙ ap (λ b. held + cond b (2 ^ i) 0) (sym truly))
      ∙ marks_passed bit xs i held x (next_part xs i x within is) ∙ so_far

  cost_passed : (cost here sum : ℕ) → here ≡ cost + cond holds x.cost 0
      → cost + active_cost bit (drop i xs) ≡ sum → here + active_cost bit (drop (i + 1) xs) ≡ sum
  cost_passed cost here sum e so_far =
      let own : cond (truth bit x.condition) x.cost 0 ≡ cond holds x.cost 0 = ap (λ b. cond b x.cost 0) truly in
      let split : active_cost bit (drop i xs) ≡ cond (truth bit x.condition) x.cost 0 + active_cost bit (drop (i + 1) xs) =
      ap (active_cost bit) (next_part xs i x within is) in
      omega (arith, own, split, e, so_far)

none : (n : ℕ) → n ≡ n + 0
none n = omega arith

below_word : (bit : ℕ → Bool) (xs : List Guarded) → length xs ≤ 64 → marks_of bit xs < 2 ^ 64
below_word bit xs few =
    let most : 2 ^ length xs ≤ 2 ^ 64 = pow-le-pow_right (omega arith) few in
    omega (arith, most, marks_below bit xs)

pub overflow_add-held : goal.overflow_add-held
overflow_add-held c =
    let bit : ℕ → Bool = has_bit c.args.before.now in
    let place : ℕ = c.loop-place.place in
    let parts : List Guarded = c.args.parts.now in
    let within : place < 64 = omega (arith, c.loop-place-test.true, c.requires.marks) in
    let mark : 1 * 2 ^ place % 2 ^ 64 ≡ 2 ^ place = one_shl place 64 within in
    let all : (c.loop-place.held.marks + 2 ^ place) + 2 ^ (place + 1) * marks_of bit (drop (place + 1) parts) ≡ marks_of bit parts =
    marks_after bit parts place c.index-parts-place.result true c.loop-place-test.true c.index-parts-place.is
    (sym c.part_holds.ensures ∙ c.if-part_holds.true) c.loop-place.held.marks (c.loop-place.held.marks + 2 ^ place)
    (λ _. c.loop-place.held.marks + 2 ^ place) c.loop-place.invariant.1 in
    omega (arith, mark, all, below_word bit parts c.requires.marks)

none_behind : (n p : ℕ) → n ≡ n + p * 0
none_behind n p = omega arith

pub returns-then-left-eq0-clause-state : goal.returns-then-left-eq0-clause-state
returns-then-left-eq0-clause-state c =
    let rest = drop c.loop-place.place c.args.parts.now in
    sym (none_deletes (has_bit c.args.before.now) c.loop-place.state rest
    (subst (λ m. AreActing m rest) c.if-left-eq0.true c.loop-place.invariant.3)) ∙ c.loop-place.invariant.0

pub returns-then-left-eq0-clause-marks : goal.returns-then-left-eq0-clause-marks
returns-then-left-eq0-clause-marks c =
    let rest = drop c.loop-place.place c.args.parts.now in
    none_behind c.loop-place.held.marks (2 ^ c.loop-place.place)
    ∙ ap (λ n. c.loop-place.held.marks + 2 ^ c.loop-place.place * n)
    (sym (none_holds (has_bit c.args.before.now) rest (subst (λ m. AreActing m rest) c.if-left-eq0.true c.loop-place.invariant.3)))
    ∙ c.loop-place.invariant.1

pub returns-then-left-eq0-clause-cost : goal.returns-then-left-eq0-clause-cost
returns-then-left-eq0-clause-cost c =
    let rest = drop c.loop-place.place c.args.parts.now in
    let none = none_costs (has_bit c.args.before.now) rest (subst (λ m. AreActing m rest) c.if-left-eq0.true c.loop-place.invariant.3) in
    omega (arith, none, c.loop-place.invariant.2)

pub part_holds-requires : goal.part_holds-requires
part_holds-requires c =
    (subst (AreActing c.loop-place.left)
    (next_part c.args.parts.now c.loop-place.place c.index-parts-place.result c.loop-place-test.true c.index-parts-place.is)
    c.loop-place.invariant.3).0

pub loop-place-preserved : goal.loop-place-preserved
loop-place-preserved c =
    let bit : ℕ → Bool = has_bit c.args.before.now in
    let place : ℕ = c.loop-place.place in
    let parts : List Guarded = c.args.parts.now in
    let held : ℕ = c.loop-place.held.marks in
    let x : Guarded = c.index-parts-place.result in
    elim c.if-part_holds.branch [
      | then-part_holds w ↦
          let truly : truth bit x.condition ≡ true = sym c.part_holds.ensures ∙ w.if-part_holds.true in
          let within : place < length parts = c.loop-place-test.true in (
            state_passed bit parts place x true within c.index-parts-place.is truly
                c.loop-place.state c.if-part_holds.state (without_parts bit c.args.state.now parts)
                (w.state-is ∙ w.delete_all.ensures ∙ ap (without_atoms c.loop-place.state) w.as_slice.ensures)
                c.loop-place.invariant.0,
            marks_after bit parts place x true within c.index-parts-place.is truly held c.if-part_holds.held.marks
                (ap (λ h. h.marks) w.held-is
                ∙ ap (λ n. held + n) (one_shl place 64 (omega (arith, c.loop-place-test.true, c.requires.marks))))
                c.loop-place.invariant.1,
            cost_passed bit parts place x true within c.index-parts-place.is truly c.loop-place.held.cost c.if-part_holds.held.cost
                (c.args.cost + active_cost bit parts) (ap (λ h. h.cost) w.held-is) c.loop-place.invariant.2,
            (subst (AreActing c.loop-place.left) (next_part parts place x within c.index-parts-place.is) c.loop-place.invariant.3).1,
          )
      | else-part_holds w ↦
          let truly : truth bit x.condition ≡ false = sym c.part_holds.ensures ∙ w.if-part_holds.false in
          let within : place < length parts = c.loop-place-test.true in (
            state_passed bit parts place x false within c.index-parts-place.is truly
                c.loop-place.state c.if-part_holds.state (without_parts bit c.args.state.now parts) w.state-is c.loop-place.invariant.0,
            marks_after bit parts place x false within c.index-parts-place.is truly held c.if-part_holds.held.marks
                (ap (λ h. h.marks) w.held-is ∙ none held) c.loop-place.invariant.1,
            cost_passed bit parts place x false within c.index-parts-place.is truly c.loop-place.held.cost c.if-part_holds.held.cost
                (c.args.cost + active_cost bit parts) (ap (λ h. h.cost) w.held-is ∙ none c.loop-place.held.cost) c.loop-place.invariant.2,
            (subst (AreActing c.loop-place.left) (next_part parts place x within c.index-parts-place.is) c.loop-place.invariant.3).1,
          )
    ]
