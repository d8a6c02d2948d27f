-- The line fits.
use Rattle.std.proofs.Common.{arith}
use Rattle.policy_server.proofs.answering.write_interval.Goals as goal

pub extend-requires : goal.extend-requires
extend-requires c = omega (arith, c.requires c.args.interval.code)

pub push_units-requires : goal.push_units-requires
push_units-requires c = omega (arith, c.requires c.args.interval.code)

pub extend-requires-2 : goal.extend-requires-2
extend-requires-2 c = omega (arith, c.requires c.args.interval.code)

pub push_units-requires-2 : goal.push_units-requires-2
push_units-requires-2 c = omega (arith, c.requires c.args.interval.code)

pub extend-requires-3 : goal.extend-requires-3
extend-requires-3 c = omega (arith, c.requires c.args.interval.code)
