use Rattle.std.proofs.Common.{◌∙◌, ap, true}
use Rattle.std.proofs.lemmas.Result.{IfOk-weaker}
use Rattle.clap.specs.Simple.{Shape, app_of_fields, on_top}
use Rattle.rinqebo_request.specs.ArgumentTable.{IsCommand, bare_program}
use Rattle.rinqebo_request.proofs.Adding.{below}
use Rattle.rinqebo_request.proofs.options.program.Goals as goal

pub returns : goal.returns
returns c =
    let start : IsCommand bare_program c.subcommand_required.result =
    record {
      is = ap app_of_fields c.subcommand_required.ensures
          ∙ ap (on_top (λ (top : Shape). record top { subcommand_required = true }))
          (ap app_of_fields c.after_help.ensures ∙ ap app_of_fields c.version.ensures
          ∙ ap (on_top (λ (top : Shape). record top { has_version = true }))
          (ap app_of_fields c.about.ensures ∙ ap app_of_fields c.in_ok-bin_name.ensures.0 ∙ c.new.ensures.app));
      own = ap (λ f. f.has_globals) c.subcommand_required.ensures ∙ ap (λ f. f.has_globals) c.after_help.ensures
          ∙ ap (λ f. f.has_globals) c.version.ensures ∙ ap (λ f. f.has_globals) c.about.ensures
          ∙ ap (λ f. f.has_globals) c.in_ok-bin_name.ensures.0 ∙ c.new.ensures.local;
    } in
    let explain = c.in_ok-explain_command.ensures in
    let check = c.in_ok-check_command.ensures in
    let list = c.in_ok-list_command.ensures in
    let show = c.in_ok-show_command.ensures in
    let one = below _ _ _ _ _ start explain.2 c.in_ok-subcommand.ensures in
    let two = below _ _ _ _ _ one check.2 c.in_ok-subcommand-2.ensures in
    let three = below _ _ _ _ _ two list.2 c.in_ok-subcommand-3.ensures in
    let four = below _ _ _ _ _ three show.2 c.in_ok-subcommand-4.ensures in
    IfOk-weaker c.subcommand-5.result _ _
    (λ _ adds. (
      record { explain = explain.0; check = check.0; list = list.0; show = show.0 },
      record { explain_are = explain.1; check_are = check.1; list_are = list.1; show_are = show.1 },
      below _ _ _ _ _ four c.in_ok-schema_command.ensures adds,
    ))
    c.subcommand-5.ensures
