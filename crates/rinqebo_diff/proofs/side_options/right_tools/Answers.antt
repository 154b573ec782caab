use Rattle.std.proofs.Common.{◌∙◌, refl, subst, sym}
use Rattle.std.proofs.lemmas.Result.{IfOk-weaker}
use Rattle.std.specs.List.{AllZip}
use Rattle.rinqebo_request.specs.Lines.{line_of}
use Rattle.rinqebo_request.specs.Requests.{IsToolNamed}
use Rattle.rinqebo_request.proofs.Choosing.{texts_or}
use Rattle.rinqebo_diff.proofs.Requesting.{left_tools, own_tools}
use Rattle.rinqebo_diff.proofs.side_options.right_tools.Goals as goal

pub returns-then-is_empty : goal.returns-then-is_empty
returns-then-is_empty c are =
    subst (λ values. AllZip IsToolNamed values c.args.left.items)
    (left_tools (line_of c.args.matches.now) c.unwrap_or-own.result.now
    (texts_or c.values.result _ c.unwrap_or-own.result _ refl c.unwrap_or-own.ensures c.values.ensures)
    (sym c.is_empty.ensures ∙ c.if-is_empty.true))
    are

pub returns : goal.returns
returns c are =
    IfOk-weaker c.tool_files.result _ _
    (λ tools named. subst (λ values. AllZip IsToolNamed values tools.items)
    (own_tools (line_of c.args.matches.now) c.unwrap_or-own.result.now
    (texts_or c.values.result _ c.unwrap_or-own.result _ refl c.unwrap_or-own.ensures c.values.ensures)
    (sym c.is_empty.ensures ∙ c.if-is_empty.false))
    named)
    c.tool_files.ensures
