use Rattle.std.proofs.Common.{◌≡◌, take, map, ◌++◌, false, []}
use Rattle.clap.specs.Simple.{app_of, new_shape}
use Rattle.clap.specs.declared.builder.command.Command.TheViews.{out-Command}
use Rattle.plan_request.specs.words.Table.{option_rule, positional_rule}
use Rattle.plan_request.specs.words.Shown.{texts_of}
use Rattle.plan_request.proofs.words.commands.sub_command.Given as goal

abbrev pub invariant-loop-name : goal.invariant-loop-name
invariant-loop-name l =
    (app_of l.command ≡ record { top = record (new_shape l.fn.form.name.now) { rules = map option_rule (texts_of (take l.name-index l.fn.form.options.now)) }; subs = [] })
    × ((out-Command l.command).has_globals ≡ false)

abbrev pub invariant-loop-name-2 : goal.invariant-loop-name-2
invariant-loop-name-2 l =
    (app_of l.command ≡ record {
      top = record (new_shape l.fn.form.name.now) {
        rules = map option_rule (texts_of l.fn.form.options.now) ++ map positional_rule (texts_of (take l.name-index l.fn.form.words.now));
      };
      subs = [];
    })
    × ((out-Command l.command).has_globals ≡ false)
