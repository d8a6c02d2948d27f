-- What contracts see of a walk over words, and of a fault.
use Rattle.std.specs.Prelude.{option_map}
use Rattle.plan_request.specs.words.Shown.{texts_of}
use Rattle.plan_request.specs.words.Faults as faults
use Rattle.plan_request.specs.words.Faults.{no_command, unknown, stray, repeated, unvalued, excess, missing}
use Rattle.plan_request.specs.declared.words.standing.Standing.{Standing}
use Rattle.plan_request.specs.declared.words.fault.Fault.{Fault}
use Rattle.plan_request.specs.declared.words.fault.Fault.TheVariants as code

abbrev pub shown_standing : Standing → faults.Standing
shown_standing s = record { plain = s.plain; seen = texts_of s.seen.items; waiting = option_map (λ n. n.now) s.waiting }

abbrev pub shown_fault : Fault → faults.Fault
shown_fault code.NoCommand = no_command
shown_fault (code.Unknown w) = unknown w.now
shown_fault (code.Stray w) = stray w.now
shown_fault (code.Repeated n) = repeated n.now
shown_fault (code.Unvalued n) = unvalued n.now
shown_fault (code.Excess w) = excess w.now
shown_fault (code.Missing p) = missing p.now
