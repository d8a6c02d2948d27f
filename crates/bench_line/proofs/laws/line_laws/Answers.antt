-- The line of places, by the lemmas.
use Rattle.bench_line.proofs.lemmas.reading.Reading.{line_is_read}
use Rattle.bench_line.proofs.lemmas.grounding.Grounded.{line_is_grounded}
use Rattle.bench_line.proofs.lemmas.Joined.{line_has_problem}
use Rattle.bench_line.proofs.laws.line_laws.Goals as goal

pub returns : goal.returns
returns c = record { read = line_is_read; task = line_is_grounded; grounded = line_has_problem }
