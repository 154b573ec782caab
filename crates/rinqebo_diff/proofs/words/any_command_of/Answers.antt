use Rattle.std.proofs.Common.{subst, sym}
use Rattle.clap.specs.Simple.{subcommand_rows_of}
use Rattle.rinqebo_diff.specs.DiffRequests.{IsAnyCommandOf}
use Rattle.rinqebo_diff.specs.declared.request.AnyCommand.TheVariants as commands
use Rattle.rinqebo_diff.proofs.Requesting.{other_command}
use Rattle.rinqebo_diff.proofs.words.any_command_of.Goals as goal

pub returns-in_ok-diff_request-in-Some : goal.returns-in_ok-diff_request-in-Some
returns-in_ok-diff_request-in-Some c =
    subst (λ read. IsAnyCommandOf c.args.environment.now read (commands.Diff c.in_ok-diff_request-in-Some.field-0)) (sym c.in-Some.ensures)
    c.in_ok-diff_request-in-Some.ensures.ok

pub returns-in_ok-command_of-in-None : goal.returns-in_ok-command_of-in-None
returns-in_ok-command_of-in-None c =
    other_command c.args.environment.now (subcommand_rows_of c.args.matches.now) c.in_ok-command_of-in-None.field-0 c.in-None.ensures
    c.in_ok-command_of-in-None.ensures
