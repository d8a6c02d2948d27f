-- What contracts see of the values of the code.
use Rattle.std.specs.Prelude.{option_map}
use Rattle.plan_request.specs.declared.words.parsing.Parsed.{Parsed}
use Rattle.plan_request.specs.words.Parses.{value_in}
use Rattle.plan_request.specs.declared.sources.Sources.{Sources}
use Rattle.plan_request.specs.declared.solving.Solving.{Solving}
use Rattle.plan_request.specs.declared.merging.Merging.{Merging}
use Rattle.plan_request.specs.declared.walking.Walking.{Walking}
use Rattle.plan_request.specs.declared.drawing.Drawing.{Drawing}
use Rattle.plan_request.specs.declared.request.Request.{Request}
use Rattle.plan_request.specs.declared.request.Request.TheVariants as request
use Rattle.plan_request.specs.Asked as asked
use Rattle.plan_request.specs.Asked.{Asked, Given, to_solve, to_check, to_serve, to_ground, to_bench, to_merge, to_walk, to_draw}

-- what clap found
abbrev pub given_by : Parsed → Given
given_by p name = value_in name p

abbrev pub shown_sources : Sources → asked.Sources
shown_sources s = record {
  domain = s.domain.now;
  problem = option_map (λ p. p.now) s.problem;
  penalty = s.penalty;
  step_cost = s.step_cost;
}

abbrev pub shown_solving : Solving → asked.Solving
shown_solving s = record {
  sources = shown_sources s.sources;
  certificate = s.certificate.now;
  effort = s.effort;
  sizes = s.sizes;
  lower = s.lower;
  progress = s.progress;
}

abbrev pub shown_merging : Merging → asked.Merging
shown_merging m = record { sources = shown_sources m.sources; first = m.first.now; second = m.second.now; into = m.into.now }

abbrev pub shown_walking : Walking → asked.Walking
shown_walking w = record {
  sources = shown_sources w.sources;
  certificate = w.certificate.now;
  seed = w.seed;
  walks = w.walks;
  steps = w.steps;
}

abbrev pub shown_drawing : Drawing → asked.Drawing
shown_drawing d = record {
  sources = shown_sources d.sources;
  certificate = d.certificate.now;
  into = d.into.now;
  states = d.states;
}

abbrev pub shown_request : Request → Asked
shown_request (request.Solve s) = to_solve (shown_solving s)
shown_request (request.Check s f) = to_check (shown_sources s) f.now
shown_request (request.Serve s) = to_serve (shown_solving s)
shown_request (request.Ground s) = to_ground (shown_sources s)
shown_request (request.Bench places seed) = to_bench places seed
shown_request (request.Merge m) = to_merge (shown_merging m)
shown_request (request.Walk w) = to_walk (shown_walking w)
shown_request (request.Draw d) = to_draw (shown_drawing d)
