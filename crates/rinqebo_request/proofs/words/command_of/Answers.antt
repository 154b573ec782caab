use Rattle.std.proofs.Common.{subst}
use Rattle.std.proofs.lemmas.Result.{IfOk-weaker}
use Rattle.clap.specs.declared.parser.matches.ArgMatches.TheViews.{out-ArgMatches}
use Rattle.rinqebo_request.specs.Requests.{IsCommandOf}
use Rattle.rinqebo_request.proofs.Commands.{entered}
use Rattle.rinqebo_request.proofs.words.command_of.Goals as goal

pub returns-in-Some : goal.returns-in-Some
returns-in-Some c =
    IfOk-weaker c.named_command.result _ _
    (λ command is. subst (λ read. IsCommandOf c.args.environment.now read command)
    (entered (out-ArgMatches c.args.matches.now).subcommand _ _ c.in-Some.ensures.name c.in-Some.ensures.rows) is)
    c.named_command.ensures
