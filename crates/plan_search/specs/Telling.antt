-- What a watcher is told of a search whose certificate is written.
--     IsWrittenOf g effort sizes left a
--                                    the certificate of the answer is one of what a solver left
--     ends_in s                      the interval and the rounds that are told of a search
--     AreToldBefore g effort sizes a rs
--                                    a search found the certificate of the answer, and these are readings of its rounds, each before
--                                    the next: each interval encloses that of the certificate, and is no wider than that of as many
--                                    rounds of plain iteration, as far as they fit the swept depth; with rounds above 0 one is of the
--                                    last round
use Rattle.std.specs.Prelude.{◌≡◌, ℕ, ◌+◌, List, Option}
use Rattle.decision_process.specs.Levels.{IsDepthWithin}
use Rattle.ground_model.specs.Ground.{Ground}
use Rattle.ground_model.specs.Steps.{ground_process, ground_starts}
use Rattle.certificate.specs.Content.{Content, text_of}
use Rattle.trial_workers.specs.declared.effort.Solved as workers
use Rattle.trial_workers.specs.declared.reading.Reading.{Reading}
use Rattle.trial_workers.specs.Watching.{AreTold}
use Rattle.plan_report.specs.Solved.{Solved}
use Rattle.plan_request.specs.declared.effort.Effort.{Effort}
use Rattle.plan_request.specs.declared.sizes.Sizes.{Sizes}
use Rattle.plan_search.specs.declared.answer.Answer.{Answer}
use Rattle.plan_search.specs.declared.solver.closing.Closing.{Closing}
use Rattle.plan_search.specs.Found.{IsFound}
use Rattle.plan_search.specs.Solving.{told_of}

pub record IsWrittenOf (g : Ground) (effort : Effort) (sizes : Sizes) (left : Closing) (a : Answer) : Type 0 where
  pub content : Content
  pub found : IsFound g effort sizes content (told_of g effort sizes left)
  pub text : a.certificate ≡ text_of content

abbrev pub ends_in : Solved → workers.Solved
ends_in s = record { rounds = s.rounds; lower = s.lower; upper = s.upper }

pub record AreToldBefore (g : Ground) (effort : Effort) (sizes : Sizes) (a : Answer) (rs : List Reading) : Type 0 where
  pub content : Content
  pub solved : Solved
  pub found : IsFound g effort sizes content solved
  pub text : a.certificate ≡ text_of content
  pub depth : Option ℕ
  pub fits : IsDepthWithin (ground_process g) (ground_starts g) sizes.sweep_states depth
  pub told : AreTold g (sizes.states + sizes.workers) depth (ends_in solved) rs
