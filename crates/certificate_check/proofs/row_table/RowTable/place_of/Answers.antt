-- A row of the bucket is the state's, or the search goes on with the one before it.
use Rattle.std.proofs.Common.{◌≡◌, suc, ◌-◌, Some, length, vec_len, rules, sym, ap, subst, ◌∙◌, arith}
use Rattle.std.specs.List.{slice_get}
use Rattle.std.specs.Cmp.Lexicographic.{bytes_decides}
use Rattle.std.proofs.lemmas.Bool.{true≢false}
use Rattle.std.proofs.lemmas.Grind.{get_or_default_zero}
use Rattle.certificate_check.specs.Claims.{row_state}
use Rattle.certificate_check.specs.GroundRows.{Claimed}
use Rattle.certificate_check.specs.Buckets.{HasLinks}
use Rattle.certificate_check.proofs.Buckets.{search_within, search_found, search_next, search_falls, search_none}
use Rattle.certificate_check.proofs.row_table.RowTable.place_of.Goals as goal

pub state-requires : goal.state-requires
state-requires c =
    let x = c.args.self.now in
    let has = subst (λ (y : Claimed). HasLinks y (length y.certificate.rows) c.self.inside.lasts.items c.self.inside.befores.items)
    c.self.view_is c.self.invariant in
    let next : c.loop-number.number ≡ suc (c.loop-number.number - 1) = omega (arith, c.loop-number-test.true) in
    let within = search_within x c.self.inside.lasts.items c.self.inside.befores.items has c.args.state.now c.loop-number.number
    (c.loop-number.number - 1) c.loop-number.invariant next in
    omega (arith, within, ap (λ (y : Claimed). length y.certificate.rows) c.self.view_is)

pub returns-then-eq : goal.returns-then-eq
returns-then-eq c =
    let x = c.args.self.now in
    let has = subst (λ (y : Claimed). HasLinks y (length y.certificate.rows) c.self.inside.lasts.items c.self.inside.befores.items)
    c.self.view_is c.self.invariant in
    let next : c.loop-number.number ≡ suc (c.loop-number.number - 1) = omega (arith, c.loop-number-test.true) in
    search_found x c.self.inside.lasts.items c.self.inside.befores.items has c.args.state.now c.loop-number.number (c.loop-number.number - 1)
    c.loop-number.invariant next
    (λ r at.
    let there = subst (λ (y : Claimed). slice_get y.certificate.rows (c.loop-number.number - 1) ≡ Some r) (sym c.self.view_is) at in
    sym (c.state.ensures r there ∙ ap (λ (y : Claimed). row_state y.problem y.certificate r) c.self.view_is)
    ∙ (bytes_decides c.state.result.now c.words.result.now).0 (sym c.eq.ensures ∙ c.if-eq.true) ∙ c.words.ensures)

pub index-number-requires-in-loop-number : goal.index-number-requires-in-loop-number
index-number-requires-in-loop-number c =
    let x = c.args.self.now in
    let has = subst (λ (y : Claimed). HasLinks y (length y.certificate.rows) c.self.inside.lasts.items c.self.inside.befores.items)
    c.self.view_is c.self.invariant in
    let next : c.loop-number.number ≡ suc (c.loop-number.number - 1) = omega (arith, c.loop-number-test.true) in
    let within = search_within x c.self.inside.lasts.items c.self.inside.befores.items has c.args.state.now c.loop-number.number
    (c.loop-number.number - 1) c.loop-number.invariant next in
    let long : vec_len c.self.inside.befores ≡ length c.self.inside.befores.items = search rules in
    omega (arith, within, has.long, long)

pub loop-number-smaller : goal.loop-number-smaller
loop-number-smaller c =
    let x = c.args.self.now in
    let has = subst (λ (y : Claimed). HasLinks y (length y.certificate.rows) c.self.inside.lasts.items c.self.inside.befores.items)
    c.self.view_is c.self.invariant in
    let next : c.loop-number.number ≡ suc (c.loop-number.number - 1) = omega (arith, c.loop-number-test.true) in
    let within = search_within x c.self.inside.lasts.items c.self.inside.befores.items has c.args.state.now c.loop-number.number
    (c.loop-number.number - 1) c.loop-number.invariant next in
    let read = c.index-number-in-loop-number.ensures
    ∙ get_or_default_zero c.self.inside.befores.items (c.loop-number.number - 1) c.index-number-in-loop-number.result.now
    (omega (arith, within, has.long)) in
    search_falls x c.self.inside.lasts.items c.self.inside.befores.items has c.args.state.now c.loop-number.number (c.loop-number.number - 1)
    c.loop-number.invariant next c.index-number-in-loop-number.result.now read

pub loop-number-preserved : goal.loop-number-preserved
loop-number-preserved c =
    let x = c.args.self.now in
    let has = subst (λ (y : Claimed). HasLinks y (length y.certificate.rows) c.self.inside.lasts.items c.self.inside.befores.items)
    c.self.view_is c.self.invariant in
    let next : c.loop-number.number ≡ suc (c.loop-number.number - 1) = omega (arith, c.loop-number-test.true) in
    let within = search_within x c.self.inside.lasts.items c.self.inside.befores.items has c.args.state.now c.loop-number.number
    (c.loop-number.number - 1) c.loop-number.invariant next in
    let read = c.index-number-in-loop-number.ensures
    ∙ get_or_default_zero c.self.inside.befores.items (c.loop-number.number - 1) c.index-number-in-loop-number.result.now
    (omega (arith, within, has.long)) in
    search_next x c.self.inside.lasts.items c.self.inside.befores.items has c.args.state.now c.loop-number.number (c.loop-number.number - 1)
    c.loop-number.invariant next c.index-number-in-loop-number.result.now
    (λ r at same.
    let there = subst (λ (y : Claimed). slice_get y.certificate.rows (c.loop-number.number - 1) ≡ Some r) (sym c.self.view_is) at in
    let is : c.state.result.now ≡ c.words.result.now
    = c.state.ensures r there ∙ ap (λ (y : Claimed). row_state y.problem y.certificate r) c.self.view_is ∙ same ∙ sym c.words.ensures in
    true≢false (sym ((bytes_decides c.state.result.now c.words.result.now).1 is) ∙ sym c.eq.ensures ∙ c.if-eq.false))
    read

pub returns : goal.returns
returns c =
    let x = c.args.self.now in
    let has = subst (λ (y : Claimed). HasLinks y (length y.certificate.rows) c.self.inside.lasts.items c.self.inside.befores.items)
    c.self.view_is c.self.invariant in
    search_none x c.self.inside.lasts.items c.self.inside.befores.items has c.args.state.now c.loop-number.number c.loop-number.invariant
    (omega (arith, c.loop-number-test.false))
