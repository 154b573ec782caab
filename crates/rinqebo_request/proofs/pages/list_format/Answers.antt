use Rattle.std.proofs.Common.{◌∙◌, subst, sym}
use Rattle.rinqebo_request.specs.Lines.{line_of}
use Rattle.rinqebo_request.specs.Requests.{IsFormatOf}
use Rattle.rinqebo_request.proofs.Formats.{other_format}
use Rattle.rinqebo_request.proofs.pages.list_format.Goals as goal

pub returns-then-has : goal.returns-then-has
returns-then-has c =
    (subst (IsFormatOf c.args.environment.now (line_of c.args.matches.now)) c.in-Text.is c.format.ensures, sym c.has.ensures ∙ c.if-has.true)

pub returns-else-has : goal.returns-else-has
returns-else-has c =
    (subst (IsFormatOf c.args.environment.now (line_of c.args.matches.now)) c.in-Text.is c.format.ensures, sym c.has.ensures ∙ c.if-has.false)

pub returns-in_default : goal.returns-in_default
returns-in_default c =
    other_format c.args.environment.now (line_of c.args.matches.now) _ c.in_default.not-Text c.format.ensures
