use Rattle.std.proofs.Common.{◌∙◌, ap, ap₂, refl, subst}
use Rattle.std.proofs.lemmas.Result.{IfOk-weaker}
use Rattle.clap.specs.Simple.{is_simple, subcommand_of}
use Rattle.rinqebo_request.specs.Requests.{IsCommandOf}
use Rattle.rinqebo_request.proofs.Commands.{simple}
use Rattle.rinqebo_request.proofs.words.parse.Goals as goal

pub returns-in-Ok : goal.returns-in-Ok
returns-in-Ok c =
    let program = c.in_ok-program.ensures in
    let read = c.in-Ok.ensures.matches (ap is_simple program.2.is ∙ simple program.0) in
    IfOk-weaker c.command_of.result _ _
    (λ command is. (
      program.0,
      program.1,
      subst (λ subcommand. IsCommandOf c.args.environment.now subcommand command)
          (read.1 ∙ ap₂ subcommand_of program.2.is refl) is,
    ))
    c.command_of.ensures
