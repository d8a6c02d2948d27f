-- The commands by their names.
use Rattle.std.specs.Prelude.{ℕ, List, Option, Some, None, codes, if◌then◌else◌}
use Rattle.std.specs.Str.{bytes_eq}
use Rattle.plan_request.specs.declared.command.Command.{Command}
use Rattle.plan_request.specs.declared.command.Command.TheVariants.{Solve, Check, Serve, Ground, Bench, Merge, Walk, Draw}

unfoldable pub command_named : List ℕ → Option Command
command_named name =
    if bytes_eq (codes "solve") name then Some Solve
    else if bytes_eq (codes "check") name then Some Check
    else if bytes_eq (codes "serve") name then Some Serve
    else if bytes_eq (codes "ground") name then Some Ground
    else if bytes_eq (codes "bench") name then Some Bench
    else if bytes_eq (codes "merge") name then Some Merge
    else if bytes_eq (codes "walk") name then Some Walk
    else if bytes_eq (codes "draw") name then Some Draw
    else None
