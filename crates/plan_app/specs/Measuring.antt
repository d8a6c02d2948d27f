-- How the program is measured: on a line of places, by a search whose numbers are fixed.
--     line_sources            the terms: the penalty is the goal's reward, and a step costs nothing besides its effect
--     line_problem places seed
--                             the ground problem of the line of so many places, with the probabilities that the seed chooses
--     bench_effort seed       until the interval is a unit wide, at most 20,000 rounds, and no trials
--     bench_sizes             one worker
--     bench_line places seed  the first line of the report
use Rattle.std.specs.Prelude.{ℕ, List, ◌++◌, None, Result, codes, decimal}
use Rattle.ground_model.specs.Ground.{Ground}
use Rattle.plan_request.specs.declared.effort.Effort.{Effort}
use Rattle.plan_request.specs.declared.ends.Ends.TheVariants.{Depth}
use Rattle.plan_request.specs.declared.sizes.Sizes.{Sizes}
use Rattle.plan_request.specs.Asked.{Sources}
use Rattle.plan_report.specs.Line.{line_text}
use Rattle.plan_request.specs.declared.stop.Stop.{Stop}
use Rattle.plan_sources.specs.Problems.{one_text, problem_of}

abbrev pub line_sources : Sources
line_sources = record { domain = codes "line"; problem = None; penalty = None; step_cost = 0 }

abbrev pub line_problem : ℕ → ℕ → Result Ground Stop
line_problem places seed = problem_of line_sources (one_text (line_text places seed))

abbrev pub bench_effort : ℕ → Effort
bench_effort seed = record { gap = 1000000; rounds = 20000; trials = 0; depth = 1000; tau = 10; seed = seed; ends = Depth }

abbrev pub bench_sizes : Sizes
bench_sizes = record { workers = 1; states = 65536; sweep_states = 4096 }

abbrev pub bench_line : ℕ → ℕ → List ℕ
bench_line places seed = codes "bench " ++ decimal places ++ codes " " ++ decimal seed ++ codes "\n"
