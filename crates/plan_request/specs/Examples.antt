-- Worked examples, which compute.
use Rattle.std.specs.Prelude.{◌≡◌, true, ◌^◌, [], ◌∷◌, Some, None, codes}
use Rattle.std.proofs.Common.{refl}
use Rattle.plan_request.specs.Numbers.{whole, amount}
use Rattle.plan_request.specs.Commands.{command_named}
use Rattle.plan_request.specs.Asked.{penalty_of, sources_of, effort_of, sizes_of, ends_named, lower_named, solving_of, merging_of, walking_of, drawing_of, progress_named, solved_of, checked_of, benched_of, request_of, spelled_word}
use Rattle.plan_request.specs.declared.ends.Ends.TheVariants as to
use Rattle.plan_request.specs.Asked.{to_check, to_bench, to_merge, to_walk, to_draw}

leading-zeros : whole 2 1000 (codes "0002") ≡ Some 2
unfolding whole
leading-zeros = refl

twenty-one-digits : whole 0 100 (codes "000000000000000000001") ≡ None
unfolding whole
twenty-one-digits = refl

one-and-a-half : amount 1 (10 ^ 14) (codes "1.5") ≡ Some 1500000
unfolding amount
one-and-a-half = refl

no-penalty-of-zero : amount 1 (10 ^ 14) (codes "0") ≡ None
unfolding amount
no-penalty-of-zero = refl

-- `--cert` is wanted
solve-coin : request_of (codes "solve" ∷ codes "coin" ∷ []) ≡ None
unfolding request_of command_named solved_of solving_of sources_of penalty_of amount
solve-coin = refl

check-coin : request_of (codes "check" ∷ codes "coin" ∷ codes "--cert=c" ∷ codes "--penalty" ∷ codes "2" ∷ [])
    ≡ Some (to_check (record { domain = codes "coin"; problem = None; penalty = Some 2000000; step_cost = 0 }) (codes "c"))
unfolding request_of command_named checked_of sources_of penalty_of amount
check-coin = refl

negative-gap : request_of (codes "solve" ∷ codes "coin" ∷ codes "--cert" ∷ codes "c" ∷ codes "--gap" ∷ codes "-1" ∷ []) ≡ None
unfolding request_of
negative-gap = refl

-- as many states swept as the table holds
all-swept : request_of (codes "solve" ∷ codes "coin" ∷ codes "--cert" ∷ codes "c" ∷ codes "--states" ∷ codes "65" ∷ codes "--sweep-states" ∷ codes "65" ∷ []) ≡ None
unfolding request_of command_named solved_of solving_of sources_of penalty_of effort_of sizes_of whole amount
all-swept = refl

-- the option belongs to `solve` alone, and has three values
serve-from-below : request_of (codes "serve" ∷ codes "coin" ∷ codes "--cert" ∷ codes "c" ∷ codes "--lower" ∷ codes "cost" ∷ []) ≡ None
unfolding request_of
serve-from-below = refl

solve-higher : request_of (codes "solve" ∷ codes "coin" ∷ codes "--cert" ∷ codes "c" ∷ codes "--lower" ∷ codes "higher" ∷ []) ≡ None
unfolding request_of command_named solved_of lower_named
solve-higher = refl

to-new-states : ends_named (codes "new") ≡ Some to.New
unfolding ends_named
to-new-states = refl

solve-later : request_of (codes "solve" ∷ codes "coin" ∷ codes "--cert" ∷ codes "c" ∷ codes "--ends" ∷ codes "later" ∷ []) ≡ None
unfolding request_of command_named solved_of solving_of sources_of penalty_of effort_of ends_named whole amount
solve-later = refl

bench-two : request_of (codes "bench" ∷ codes "0002" ∷ codes "4" ∷ []) ≡ Some (to_bench 2 4)
unfolding request_of command_named benched_of whole
bench-two = refl

merge-coin : request_of (codes "merge" ∷ codes "coin" ∷ codes "--cert" ∷ codes "f" ∷ codes "--with=g" ∷ codes "--into" ∷ codes "f" ∷ []) ≡ Some (to_merge (record {
  sources = record { domain = codes "coin"; problem = None; penalty = None; step_cost = 0 };
  first = codes "f";
  second = codes "g";
  into = codes "f";
}))
unfolding request_of command_named merging_of sources_of penalty_of amount
merge-coin = refl

-- `--into` is wanted
merge-nowhere : request_of (codes "merge" ∷ codes "coin" ∷ codes "--cert" ∷ codes "f" ∷ codes "--with" ∷ codes "g" ∷ []) ≡ None
unfolding request_of command_named merging_of sources_of penalty_of amount
merge-nowhere = refl

walk-coin : request_of (codes "walk" ∷ codes "coin" ∷ codes "--cert" ∷ codes "c" ∷ codes "--walks" ∷ codes "2" ∷ []) ≡ Some (to_walk (record {
  sources = record { domain = codes "coin"; problem = None; penalty = None; step_cost = 0 };
  certificate = codes "c";
  seed = 1;
  walks = 2;
  steps = 1000;
}))
unfolding request_of command_named walking_of sources_of penalty_of whole amount
walk-coin = refl

draw-coin : request_of (codes "draw" ∷ codes "coin" ∷ codes "--cert" ∷ codes "c" ∷ codes "--into=g" ∷ []) ≡ Some (to_draw (record {
  sources = record { domain = codes "coin"; problem = None; penalty = None; step_cost = 0 };
  certificate = codes "c";
  into = codes "g";
  states = 200;
}))
unfolding request_of command_named drawing_of sources_of penalty_of whole amount
draw-coin = refl

draw-nothing : request_of (codes "draw" ∷ codes "coin" ∷ codes "--cert" ∷ codes "c" ∷ codes "--into" ∷ codes "g" ∷ codes "--states" ∷ codes "0" ∷ []) ≡ None
unfolding request_of command_named drawing_of sources_of penalty_of whole amount
draw-nothing = refl

-- the rounds are told as lines, or not at all
tell-lines : progress_named (codes "lines") ≡ Some true
unfolding progress_named
tell-lines = refl

tell-more : progress_named (codes "more") ≡ None
unfolding progress_named
tell-more = refl

-- it stands without its value too
read-progress : spelled_word (codes "--progress") ≡ codes "--progress=lines"
unfolding spelled_word
read-progress = refl
