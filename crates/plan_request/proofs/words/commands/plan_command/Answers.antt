use Rattle.std.proofs.Common.{ap, ap₂, ◌∙◌, true}
use Rattle.clap.specs.Simple.{App, Shape, app_of_fields, on_top, with_subcommand}
use Rattle.plan_request.specs.words.Table.{sub_shape}
use Rattle.plan_request.proofs.words.commands.plan_command.Goals as goal

pub returns : goal.returns
returns c =
    let bare = ap app_of_fields c.no_binary_name.ensures ∙ ap (on_top (λ s. record s { no_binary_name = true })) c.new.ensures.app in
    let helpless = ap app_of_fields c.disable_help_flag.ensures ∙ ap (on_top (λ s. record s { disable_help_flag = true })) bare in
    let unhelped = ap app_of_fields c.disable_help_subcommand.ensures ∙ ap (on_top (λ s. record s { disable_help_subcommand = true })) helpless in
    let plan = ap app_of_fields c.disable_version_flag-plan.ensures ∙ ap (on_top (λ s. record s { disable_version_flag = true })) unhelped in
    let top : App → Shape = λ a. a.top in
    let first = c.in_ok-first.ensures.shape c.in_ok-sub_command.ensures.local ∙ ap₂ with_subcommand plan (ap top c.in_ok-sub_command.ensures.shape ∙ ap sub_shape c.solve.ensures) in
    let second = c.in_ok-second.ensures.shape c.in_ok-sub_command-2.ensures.local ∙ ap₂ with_subcommand first (ap top c.in_ok-sub_command-2.ensures.shape ∙ ap sub_shape c.check.ensures) in
    let third = c.in_ok-third.ensures.shape c.in_ok-sub_command-3.ensures.local ∙ ap₂ with_subcommand second (ap top c.in_ok-sub_command-3.ensures.shape ∙ ap sub_shape c.serve.ensures) in
    let fourth = c.in_ok-fourth.ensures.shape c.in_ok-sub_command-4.ensures.local ∙ ap₂ with_subcommand third (ap top c.in_ok-sub_command-4.ensures.shape ∙ ap sub_shape c.ground.ensures) in
    let fifth = c.in_ok-fifth.ensures.shape c.in_ok-sub_command-5.ensures.local ∙ ap₂ with_subcommand fourth (ap top c.in_ok-sub_command-5.ensures.shape ∙ ap sub_shape c.bench.ensures) in
    let sixth = c.in_ok-sixth.ensures.shape c.in_ok-sub_command-6.ensures.local ∙ ap₂ with_subcommand fifth (ap top c.in_ok-sub_command-6.ensures.shape ∙ ap sub_shape c.merge.ensures) in
    let seventh = c.in_ok-seventh.ensures.shape c.in_ok-sub_command-7.ensures.local ∙ ap₂ with_subcommand sixth (ap top c.in_ok-sub_command-7.ensures.shape ∙ ap sub_shape c.walk.ensures) in
    c.in_ok-subcommand.ensures.shape c.in_ok-sub_command-8.ensures.local ∙ ap₂ with_subcommand seventh (ap top c.in_ok-sub_command-8.ensures.shape ∙ ap sub_shape c.draw.ensures)
