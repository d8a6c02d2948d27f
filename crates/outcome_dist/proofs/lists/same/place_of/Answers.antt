use Rattle.std.proofs.Common.{◌≡◌, [], ◌∷◌, List, length, drop, refl, ap, ◌∙◌, arith}
use Rattle.std.specs.List.{position_or_len}
use Rattle.ground_model.specs.declared.action.Choice.{Choice}
use Rattle.ground_meaning.specs.choices.Same.{same_choice}
use Rattle.outcome_dist.proofs.lists.same.place_of.Goals as goal

drop_all : (l : List Choice) → drop (length l) l ≡ []
drop_all [] = refl
drop_all (x ∷ l) = drop_all l

pub returns : goal.returns
returns c =
    let list : List Choice = c.args.list.now in
    let end : c.loop-place.place ≡ length list = omega arith in
    let none : position_or_len (λ x. same_choice x c.args.draft.now) (drop c.loop-place.place list) ≡ 0 =
    ap (position_or_len (λ x. same_choice x c.args.draft.now)) (ap (λ n. drop n list) end ∙ drop_all list) in
    omega (arith, end, none, c.loop-place.invariant.1)
