-- The text under the name is the second one.
use Rattle.std.proofs.Common.{rules, Ok, Err, Some}
use Rattle.plan_sources.specs.Endings.{MayGive, IsFault}
use Rattle.plan_sources.specs.Problems.{text_within}
use Rattle.plan_sources.specs.Sources.{LacksSecond, MayGiveSecond}
use Rattle.plan_sources.proofs.Taking.{stops_whole, second_gives}
use Rattle.plan_sources.proofs.texts.read_second.Goals as goal

pub returns-in_err-read_text-in-Some-clause-ends : goal.returns-in_err-read_text-in-Some-clause-ends
returns-in_err-read_text-in-Some-clause-ends g c =
    let old = c.args.shelf.now in
    let new = c.read_text.new.shelf in
    let name = c.in-Some.name.now in
    let held = g.S.Shelf.held old in
    let stop = stops_whole (IsFault g.S.Shelf.read_faults old new (LacksSecond held (Some name)))
    (IsFault g.S.Shelf.read_faults old new (LacksSecond held (Some name)))
    (MayGive text_within (held name)) (MayGiveSecond held (Some name)) (λ same. same)
    (λ e gives. second_gives held name (Err e) gives) c.in_err-read_text-in-Some.field-0.0 c.in_err-read_text-in-Some.ensures.ends in
    search (rules, stop)

pub returns-in_ok-read_text-in-Some-clause-ends : goal.returns-in_ok-read_text-in-Some-clause-ends
returns-in_ok-read_text-in-Some-clause-ends g c =
    let gives = second_gives (g.S.Shelf.held c.args.shelf.now) c.in-Some.name.now (Ok c.in_ok-read_text-in-Some.field-0)
    c.in_ok-read_text-in-Some.ensures.ends in
    search (rules, gives)
