-- The line fits.
use Rattle.std.proofs.Common.{arith}
use Rattle.policy_server.proofs.answering.write_answer.Goals as goal

pub extend-requires : goal.extend-requires
extend-requires c = omega (arith, c.requires 0)

pub extend-requires-in-NoAtom : goal.extend-requires-in-NoAtom
extend-requires-in-NoAtom c = omega (arith, c.requires 0)

pub extend-requires-in-Unvisited : goal.extend-requires-in-Unvisited
extend-requires-in-Unvisited c = omega (arith, c.requires 0)
