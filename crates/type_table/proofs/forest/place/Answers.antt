use Rattle.std.proofs.Common.{◌≡◌, ◌<◌, ◌∙◌, inl, inr, length, sym, subst, arith, true≢false}
use Rattle.std.specs.Prelude.{IsSome}
use Rattle.std.proofs.lemmas.Bool.{cases_lt}
use Rattle.type_table.specs.Forest.{climb, IsRanked}
use Rattle.type_table.proofs.Climbing.{climb-within}
use Rattle.type_table.proofs.Placing.{next_key, goes_down}
use Rattle.type_table.proofs.forest.place.Goals as goal

pub settle-requires-clause-kind : goal.settle-requires-clause-kind
settle-requires-clause-kind c =
    let l = c.loop-below in
    let rest = c.pop.new.self.keys in
    let next = next_key c.args.parents.now c.args.ranks.now.items l.ranks.items c.args.kind l.path.keys rest c.in-Some.below l.invariant c.in-Some.ensures.keys in
    subst (λ x. x < length c.args.parents.now) (sym next.is) (climb-within c.args.parents.now c.requires.within (length rest) c.args.kind c.requires.kind)

pub settle-requires-clause-parent : goal.settle-requires-clause-parent
settle-requires-clause-parent c =
    let l = c.loop-below in
    (next_key c.args.parents.now c.args.ranks.now.items l.ranks.items c.args.kind l.path.keys c.pop.new.self.keys c.in-Some.below l.invariant c.in-Some.ensures.keys).parent

pub settle-requires-clause-other : goal.settle-requires-clause-other
settle-requires-clause-other c =
    let l = c.loop-below in
    (next_key c.args.parents.now c.args.ranks.now.items l.ranks.items c.args.kind l.path.keys c.pop.new.self.keys c.in-Some.below l.invariant c.in-Some.ensures.keys).other

pub loop-below-preserved : goal.loop-below-preserved
loop-below-preserved c =
    let l = c.loop-below in
    goes_down c.args.parents.now c.args.ranks.now.items l.ranks.items c.args.kind l.path.keys c.pop.new.self.keys c.in-Some.below l.invariant c.in-Some.ensures.keys
    c.settle.new.ranks.items c.in_ok-settle.ensures.placed c.in_ok-settle.ensures.more

pub returns-clause-more : goal.returns-clause-more
returns-clause-more c =
    let l = c.loop-below in
    let none : length l.path.keys ≡ 0 = elim (cases_lt 0 (length l.path.keys)) [
      | inl some ↦ absurd (true≢false (sym (subst IsSome c.in_default.is (c.pop.ensures.found.1 some))))
      | inr empty ↦ omega (arith, empty)
    ] in
    record {
      many = l.invariant.many ∙ sym c.requires.many;
      here = subst (λ n. IsRanked l.ranks.items (climb c.args.parents.now n c.args.kind)) none l.invariant.ranked;
      kept = l.invariant.kept;
    }
