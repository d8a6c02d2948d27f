-- One more open action, by its own denominator.
use Rattle.std.proofs.Common.{◌≡◌, ℕ, ◌<◌, ◌≤◌, ◌/◌, ◌++◌, ◌∷◌, [], List, length, take, ap, subst, sym, ◌∙◌, arith, get_or}
use Rattle.std.proofs.Math.Nat.{mul-le-mul}
use Rattle.std.proofs.lemmas.Bool.{iff_false}
use Rattle.std.proofs.lemmas.List.{take_more, take_all}
use Rattle.decision_process.specs.Process.{min_with}
use Rattle.decision_process.proofs.Choice.{min_with-le_top}
use Rattle.ground_model.specs.declared.action.GroundAction.{GroundAction}
use Rattle.ground_model.specs.Invariant.{IsAction}
use Rattle.ground_model.specs.Steps.{ground_process}
use Rattle.certificate_check.proofs.lemmas.row_check.Open.{code_within}
use Rattle.certificate_check.proofs.lemmas.row_check.Rows.{SidesAmong, UpperAmong, candidate, action_is, listed, quotient-lt, least_is_quotient, least_stays, lower_found, upper_found}
use Rattle.certificate_check.proofs.lemmas.row_check.Rows.{upper_kept, upper_own, lower_more, sides_of_all}
use Rattle.certificate_check.proofs.row_check.sides.sides_off_goals.Goals.{then-takes, else-takes, then-sums-from, else-sums-from}
use Rattle.certificate_check.proofs.row_check.sides.sides_off_goals.Goals as goal

pub bounds-actions-code : goal.bounds-actions-code
bounds-actions-code g c =
    let p = c.args.problem.now in
    let k = get_or c.args.codes.now c.loop-code.code-index 0 in
    let chosen = listed c.args.codes.now ((ground_process p).choices c.args.state.now) c.loop-code.code-index c.requires.codes
    c.loop-code-test.true in
    omega (arith, ap length c.actions.ensures.value, code_within p c.args.state.now k chosen)

pub action_sums-sums-requires-clause-action : goal.action_sums-sums-requires-clause-action
action_sums-sums-requires-clause-action g c =
    let p = c.args.problem.now in
    let k = get_or c.args.codes.now c.loop-code.code-index 0 in
    let a = c.index-actions-code.result in
    let chosen = listed c.args.codes.now ((ground_process p).choices c.args.state.now) c.loop-code.code-index c.requires.codes
    c.loop-code-test.true in
    subst (λ n. IsAction n a) (sym (ap length c.atoms.ensures.value))
    (action_is p c.actions.ensures.valid k a (code_within p c.args.state.now k chosen)
    (c.index-actions-code.is ∙ ap (λ (xs : List GroundAction). get_or xs k a) c.actions.ensures.value))

pub overflow_mul-from : goal.overflow_mul-from
overflow_mul-from g c =
    let p = c.args.problem.now in
    let k = get_or c.args.codes.now c.loop-code.code-index 0 in
    let a = c.index-actions-code.result in
    let chosen = listed c.args.codes.now ((ground_process p).choices c.args.state.now) c.loop-code.code-index c.requires.codes
    c.loop-code-test.true in
    let action = action_is p c.actions.ensures.valid k a (code_within p c.args.state.now k chosen)
    (c.index-actions-code.is ∙ ap (λ (xs : List GroundAction). get_or xs k a) c.actions.ensures.value) in
    let least : c.from.result ≤ 100000000000000
    = omega (
      arith,
      c.from.ensures,
      c.loop-code.invariant.among.lower,
      min_with-le_top p.penalty (candidate p (g.R.Reading.low c.args.reading.now) (g.R.Reading.high c.args.reading.now) c.args.state.now)
          (take c.loop-code.code-index c.args.codes.now),
      c.actions.ensures.valid.penalty_within,
    ) in
    let few : c.from-den.result ≤ 1000000000000000000 = omega (arith, c.from-den.ensures, action.weights.den_within) in
    omega (arith, mul-le-mul least few)

pub overflow_cast-sides : goal.overflow_cast-sides
overflow_cast-sides g c =
    let p = c.args.problem.now in
    let k = get_or c.args.codes.now c.loop-code.code-index 0 in
    let a = c.index-actions-code.result in
    let chosen = listed c.args.codes.now ((ground_process p).choices c.args.state.now) c.loop-code.code-index c.requires.codes
    c.loop-code-test.true in
    let action = action_is p c.actions.ensures.valid k a (code_within p c.args.state.now k chosen)
    (c.index-actions-code.is ∙ ap (λ (xs : List GroundAction). get_or xs k a) c.actions.ensures.value) in
    let positive : 0 < c.from-den.result = omega (arith, c.from-den.ensures, action.weights.den_above) in
    let most = min_with-le_top p.penalty (candidate p (g.R.Reading.low c.args.reading.now) (g.R.Reading.high c.args.reading.now) c.args.state.now)
    (take c.loop-code.code-index c.args.codes.now) in
    omega (
      arith,
      quotient-lt c.from.result c.action_sums-sums.result.lower c.from-den.result positive c.if-sums-from.true,
      c.from.ensures,
      c.loop-code.invariant.among.lower,
      most,
      c.actions.ensures.valid.penalty_within,
    )

pub div_ceil-requires : goal.div_ceil-requires
div_ceil-requires g c =
    let p = c.args.problem.now in
    let k = get_or c.args.codes.now c.loop-code.code-index 0 in
    let a = c.index-actions-code.result in
    let chosen = listed c.args.codes.now ((ground_process p).choices c.args.state.now) c.loop-code.code-index c.requires.codes
    c.loop-code-test.true in
    let action = action_is p c.actions.ensures.valid k a (code_within p c.args.state.now k chosen)
    (c.index-actions-code.is ∙ ap (λ (xs : List GroundAction). get_or xs k a) c.actions.ensures.value) in
    omega (arith, c.from-den.ensures, action.weights.den_above)

pub loop-code-preserved : goal.loop-code-preserved
loop-code-preserved g c =
    let p = c.args.problem.now in
    let low = g.R.Reading.low c.args.reading.now in
    let high = g.R.Reading.high c.args.reading.now in
    let s = c.args.state.now in
    let act = c.args.claim.act in
    let codes = c.args.codes.now in
    let i = c.loop-code.code-index in
    let k = get_or codes i 0 in
    let a = c.index-actions-code.result in
    let sums = c.action_sums-sums.result in
    let chosen = listed codes ((ground_process p).choices s) i c.requires.codes c.loop-code-test.true in
    let within : k < length p.actions = code_within p s k chosen in
    let read = c.index-actions-code.is ∙ ap (λ (xs : List GroundAction). get_or xs k a) c.actions.ensures.value in
    let action = action_is p c.actions.ensures.valid k a within read in
    let positive : 0 < c.from-den.result = omega (arith, c.from-den.ensures, action.weights.den_above) in
    let candidate_is = lower_found p c.actions.ensures.valid low s k a within read sums.lower c.from-den.result
    c.action_sums-sums.ensures.lower c.from-den.ensures in
    let least_is = c.from.ensures ∙ c.loop-code.invariant.among.lower in
    let lower : c.if-sums-from.sides.greatest_lower ≡ min_with p.penalty (candidate p low high s) (take i codes ++ k ∷ [])
    = elim c.if-sums-from.branch [
      | then-sums-from w ↦
          lower_more p low high s (take i codes) k c.from.result c.if-sums-from.sides.greatest_lower (sums.lower / c.from-den.result) least_is candidate_is
          (least_is_quotient c.from.result sums.lower c.from-den.result positive w.if-sums-from.true ∙ sym (λ j. (w.sides-is j).greatest_lower))
      | else-sums-from w ↦
          lower_more p low high s (take i codes) k c.from.result c.if-sums-from.sides.greatest_lower (sums.lower / c.from-den.result) least_is candidate_is
          (least_stays c.from.result sums.lower c.from-den.result positive w.if-sums-from.false ∙ c.from.ensures ∙ sym (λ j. (w.sides-is j).greatest_lower))
    ] in
    let upper_then : c.if-sums-from.sides.least_upper ≡ c.loop-code.sides.least_upper = elim c.if-sums-from.branch [
      | then-sums-from w ↦ λ j. (w.sides-is j).least_upper
      | else-sums-from w ↦ λ j. (w.sides-is j).least_upper
    ] in
    let lower_now : c.if-takes.sides.greatest_lower ≡ c.if-sums-from.sides.greatest_lower = elim c.if-takes.branch [
      | then-takes w ↦ λ j. (w.sides-is j).greatest_lower
      | else-takes w ↦ λ j. (w.sides-is j).greatest_lower
    ] in
    let upper : UpperAmong p low high s act (take i codes ++ k ∷ []) c.if-takes.sides.least_upper = elim c.if-takes.branch [
      | then-takes w ↦
          subst (UpperAmong p low high s act (take i codes ++ k ∷ [])) (sym (λ j. (w.sides-is j).least_upper))
          (upper_own p low high s act (take i codes) k w.div_ceil.result (c.takes.ensures.0 w.if-takes.true)
          (w.div_ceil.ensures ∙ upper_found p c.actions.ensures.valid high s k a within read sums.upper c.from-den.result
          c.action_sums-sums.ensures.upper c.from-den.ensures))
      | else-takes w ↦
          subst (UpperAmong p low high s act (take i codes ++ k ∷ [])) (sym ((λ j. (w.sides-is j).least_upper) ∙ upper_then))
          (upper_kept p low high s act (take i codes) k c.loop-code.sides.least_upper (iff_false c.takes.ensures w.if-takes.false)
          c.loop-code.invariant.among.upper)
    ] in
    record {
      long = c.action_sums-sums.ensures.fits;
      among = subst (λ (xs : List ℕ). SidesAmong p low high s act xs c.if-takes.sides) (sym (take_more codes i 0 c.loop-code-test.true))
          (record { lower = lower_now ∙ lower; upper = upper });
    }

pub returns-clause-sides : goal.returns-clause-sides
returns-clause-sides g c =
    let p = c.args.problem.now in
    let low = g.R.Reading.low c.args.reading.now in
    let high = g.R.Reading.high c.args.reading.now in
    let s = c.args.state.now in
    sides_of_all p low high s c.requires.off_goals c.args.claim.act c.loop-code.sides
    (subst (λ (xs : List ℕ). SidesAmong p low high s c.args.claim.act xs c.loop-code.sides)
    (take_all c.loop-code.code-index c.args.codes.now c.loop-code-test.false ∙ c.requires.codes) c.loop-code.invariant.among)
