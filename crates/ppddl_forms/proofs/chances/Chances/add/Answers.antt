use Rattle.std.proofs.Common.{◌≡◌}
use Rattle.ppddl_cursor.specs.Reading.{fails}
use Rattle.ppddl_model.specs.declared.refusal.TextCode.TheVariants.{Probability, SumAboveOne}
use Rattle.ppddl_forms.specs.Chances.{within}
use Rattle.ppddl_forms.proofs.Sums.{too_large, too_many, is_within, runs_on}
use Rattle.ppddl_forms.proofs.chances.Chances.add.Goals as goal

pub returns-in_default-clause-gives : goal.returns-in_default-clause-gives
returns-in_default-clause-gives c =
    let none = c.in_default.ensures.value in
    let e : within c.args.self.now c.args.chance c.args.place ≡ fails Probability c.args.place
    = rw (← c.self.view_is) (too_large c.self.inside.list.items c.args.chance c.args.place c.self.inside.den c.self.inside.num c.self.invariant none) in
    rw c.refusal.ensures e

pub returns-then-num-den-clause-gives : goal.returns-then-num-den-clause-gives
returns-then-num-den-clause-gives c =
    let some = c.in-Some.ensures.value in
    let e : within c.args.self.now c.args.chance c.args.place ≡ fails SumAboveOne c.args.place
    = rw (← c.self.view_is) (too_many c.self.inside.list.items c.args.chance c.args.place c.self.inside.den c.self.inside.num c.self.invariant c.in-Some.den some.1 some.0 c.if-num-den.true) in
    rw c.refusal-then-num-den.ensures e

pub invariant_of-self-2 : goal.invariant_of-self-2
invariant_of-self-2 c =
    let some = c.in-Some.ensures.value in
    rw c.in_ok-push.ensures.items (runs_on c.self.inside.list.items c.args.chance c.args.place c.self.inside.den c.self.inside.num c.self.invariant c.in-Some.den c.requires.den_positive some.1 some.0 c.if-num-den.false)

pub returns-clause-gives : goal.returns-clause-gives
returns-clause-gives c =
    let some = c.in-Some.ensures.value in
    rw (← c.self.view_is) (is_within c.self.inside.list.items c.args.chance c.args.place c.self.inside.den c.self.inside.num c.self.invariant c.in-Some.den some.1 some.0 c.if-num-den.false)
