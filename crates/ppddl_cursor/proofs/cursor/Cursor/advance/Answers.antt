use Rattle.std.proofs.Common.{arith}
use Rattle.ppddl_cursor.proofs.Tokens.{next_after}
use Rattle.ppddl_cursor.proofs.cursor.Cursor.advance.Goals as goal

pub invariant_of-self : goal.invariant_of-self
invariant_of-self c = (next_after c.self.inside c.self.invariant (rw (← c.self.view_is) at c.requires)).1

pub returns-clause-after : goal.returns-clause-after
returns-clause-after c = rw (← c.self.view_is) (next_after c.self.inside c.self.invariant (rw (← c.self.view_is) at c.requires)).0

pub returns-clause-fewer : goal.returns-clause-fewer
returns-clause-fewer c =
    let behind = next_after c.self.inside c.self.invariant (rw (← c.self.view_is) at c.requires) in
    rw (← c.self.view_is) (omega (arith, behind.2))
