-- What a request asks of a solver, and what is told of what it left.
--     solver_ends ends, solver_effort effort, solver_sizes sizes
--                                    the same for the solver
--     all_ids sizes                  how many ids the table has
--     told_of g effort sizes left    what is told of a search that left this
--     IsFoundBy g effort sizes f     a solver left this, with its certificate
--     IsAnswerLeft g effort sizes left a
--                                    what is answered of this, whose certificate it has, and of which it tells
--     IsUnwritten c stop             why a certificate of version 2 has no text
use Rattle.std.specs.Prelude.{◌≡◌, ◌⊎◌, ℕ, ◌+◌, ◌<◌, length}
use Rattle.ground_model.specs.Ground.{Ground}
use Rattle.certificate.specs.Content.{Content, text_of, most_bytes}
use Rattle.brtdp_trial.specs.declared.ending.Ends as trial
use Rattle.brtdp_trial.specs.declared.ending.Ends.TheVariants as To
use Rattle.trial_workers.specs.declared.effort.Effort as workers
use Rattle.plan_search.specs.declared.solver.sizes.Sizes as solver
use Rattle.plan_search.specs.declared.solver.closing.Closing.{Closing}
use Rattle.plan_search.specs.solver.Solved.{IsSolved}
use Rattle.plan_report.specs.certificates.Certificates.{IsCertificateOf}
use Rattle.plan_request.specs.declared.effort.Effort.{Effort}
use Rattle.plan_request.specs.declared.ends.Ends.{Ends}
use Rattle.plan_request.specs.declared.ends.Ends.TheVariants as request
use Rattle.plan_request.specs.declared.sizes.Sizes.{Sizes}
use Rattle.plan_report.specs.Solved.{Solved, solved_of}
use Rattle.plan_request.specs.declared.stop.Stop.{Stop}
use Rattle.plan_request.specs.declared.stop.Stop.TheVariants.{NoMemory, Limit}
use Rattle.plan_search.specs.declared.answer.Answer.{Answer}
use Rattle.plan_search.specs.declared.found.Found.{Found}
use Rattle.plan_search.specs.Answers.{IsAnswerOf}

abbrev pub solver_ends : Ends → trial.Ends
solver_ends request.Depth = To.Depth
solver_ends request.New = To.New

abbrev pub solver_effort : Effort → workers.Effort
solver_effort e = record {
  gap = e.gap;
  rounds = e.rounds;
  trials = e.trials;
  depth = e.depth;
  tau = e.tau;
  seed = e.seed;
  ends = solver_ends e.ends;
}

abbrev pub solver_sizes : Sizes → solver.Sizes
solver_sizes s = record { workers = s.workers; states = s.states; sweep_states = s.sweep_states }

abbrev pub all_ids : Sizes → ℕ
all_ids s = s.states + s.workers

abbrev pub told_of : Ground → Effort → Sizes → Closing → Solved
told_of g effort sizes left =
    solved_of g left.image.rows left.image.given_out (all_ids sizes) effort.gap left.rounds

pub record IsFoundBy (g : Ground) (effort : Effort) (sizes : Sizes) (f : Found) : Type 0 where
  pub solved : IsSolved g (solver_sizes sizes) (solver_effort effort) f.closing
  pub certified : IsCertificateOf g f.closing.image.rows f.certificate

pub record IsAnswerLeft (g : Ground) (effort : Effort) (sizes : Sizes) (left : Closing) (a : Answer) : Type 0 where
  pub is_answer : IsAnswerOf g effort sizes a
  pub certified : IsCertificateOf g left.image.rows is_answer.content
  pub same : is_answer.solved ≡ told_of g effort sizes left

-- want of memory, or the limit on the bytes of a certificate
abbrev pub IsUnwritten : Content → Stop → Type 0
IsUnwritten c stop =
    (stop ≡ NoMemory) ⊎ ((most_bytes 2 < length (text_of c)) × (stop ≡ Limit 33 268435456))
