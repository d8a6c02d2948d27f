-- The texts, and behind them their ground problem.
use Rattle.std.proofs.Common.{◌≡◌, rules}
use Rattle.plan_request.specs.Shown.{shown_sources}
use Rattle.plan_sources.specs.Endings.{IsFault}
use Rattle.plan_sources.specs.Problems.{problem_in}
use Rattle.plan_sources.specs.Sources.{LacksText, MayGiveTexts, MayGiveProblem}
use Rattle.plan_sources.proofs.Taking.{stops_whole, ends_whole, texts_stop, problem_given}
use Rattle.plan_sources.proofs.problems.problem_of.Goals as goal

pub returns-in_err-texts-clause-ends : goal.returns-in_err-texts-clause-ends
returns-in_err-texts-clause-ends g c =
    let s = shown_sources c.args.sources.now in
    let held = g.S.Shelf.held c.args.shelf.now in
    let fault = IsFault g.S.Shelf.read_faults c.args.shelf.now c.read_texts.new.shelf (LacksText held s) in
    let stop = stops_whole fault fault (MayGiveTexts held s) (MayGiveProblem held s) (λ same. same) (texts_stop held s)
    c.in_err-texts.field-0.0 c.in_err-texts.ensures.ends in
    search (rules, stop)

pub returns-clause-ends : goal.returns-clause-ends
returns-clause-ends g c =
    let s = shown_sources c.args.sources.now in
    let held = g.S.Shelf.held c.args.shelf.now in
    let texts = c.in_ok-texts.texts in
    ends_whole ⊥ (IsFault g.S.Shelf.read_faults c.args.shelf.now c.read_texts.new.shelf (LacksText held s))
    (λ r. problem_in s texts ≡ r) (MayGiveProblem held s) (λ never. absurd never)
    (problem_given held s texts c.in_ok-texts.ensures.ends) c.problem_in.result c.problem_in.ensures
