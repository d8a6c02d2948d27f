-- The first text and, behind it, the second.
use Rattle.std.proofs.Common.{◌≡◌, rules, subst, arith, inl, inr, Ok, Err}
use Rattle.shelf_io.specs.Shelf.{Missing}
use Rattle.plan_request.specs.Shown.{shown_sources}
use Rattle.plan_sources.specs.Endings.{MayEnd, MayGive, IsFault}
use Rattle.plan_sources.specs.Problems.{text_within}
use Rattle.plan_sources.specs.Sources.{LacksSecond, LacksText, MayGiveSecond, MayGiveTexts}
use Rattle.plan_sources.proofs.Taking.{stops_whole, fault_before, fault_since, first_stops, first_is_short, second_stops, both_short, both_given}
use Rattle.plan_sources.proofs.texts.read_texts.Goals as goal

pub returns-in_err-first-clause-ends : goal.returns-in_err-first-clause-ends
returns-in_err-first-clause-ends g c =
    let old = c.args.shelf.now in
    let new = c.read_text.new.shelf in
    let s = shown_sources c.args.sources.now in
    let held = g.S.Shelf.held old in
    let stop = stops_whole (IsFault g.S.Shelf.read_faults old new (held s.domain ≡ Missing)) (IsFault g.S.Shelf.read_faults old new (LacksText held s))
    (MayGive text_within (held s.domain)) (MayGiveTexts held s)
    (fault_before g.S.Shelf.read_faults old new new (held s.domain ≡ Missing) (LacksText held s) (omega arith) (λ missing. inl missing))
    (first_stops held s) c.in_err-first.field-0.0 c.in_err-first.ensures.ends in
    search (rules, stop)

pub returns-in_err-second-clause-ends : goal.returns-in_err-second-clause-ends
returns-in_err-second-clause-ends g c =
    let old = c.args.shelf.now in
    let mid = c.read_text.new.shelf in
    let new = c.read_second.new.shelf in
    let s = shown_sources c.args.sources.now in
    let held = g.S.Shelf.held old in
    let first = c.in_ok-first.first in
    let given = c.in_ok-first.ensures.ends in
    let e = c.in_err-second.field-0.0 in
    let ends = subst (λ h. MayEnd (IsFault g.S.Shelf.read_faults mid new (LacksSecond h s.problem)) (MayGiveSecond h s.problem) (Err e))
    c.read_text.ensures.shelf.held_same c.in_err-second.ensures.ends in
    let stop = stops_whole (IsFault g.S.Shelf.read_faults mid new (LacksSecond held s.problem)) (IsFault g.S.Shelf.read_faults old new (LacksText held s))
    (MayGiveSecond held s.problem) (MayGiveTexts held s)
    (fault_since g.S.Shelf.read_faults old mid new (LacksSecond held s.problem) (LacksText held s) c.read_text.ensures.shelf.later
    (λ lacks. inr (first_is_short held s first given, lacks)))
    (second_stops held s first given) e ends in
    search (rules, stop)

pub returns-clause-ends : goal.returns-clause-ends
returns-clause-ends g c =
    let s = shown_sources c.args.sources.now in
    let held = g.S.Shelf.held c.args.shelf.now in
    let second = c.in_ok-second.second in
    both_given held s c.in_ok-first.first c.in_ok-first.ensures.ends second
    (subst (λ h. MayGiveSecond h s.problem (Ok second)) c.read_text.ensures.shelf.held_same c.in_ok-second.ensures.ends)

pub returns-clause-short : goal.returns-clause-short
returns-clause-short g c =
    let s = shown_sources c.args.sources.now in
    let held = g.S.Shelf.held c.args.shelf.now in
    let second = c.in_ok-second.second in
    both_short held s c.in_ok-first.first c.in_ok-first.ensures.ends second
    (subst (λ h. MayGiveSecond h s.problem (Ok second)) c.read_text.ensures.shelf.held_same c.in_ok-second.ensures.ends)
