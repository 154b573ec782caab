use Rattle.std.proofs.Common.{◌∙◌, ap, codes, sym}
use Rattle.std.specs.Option.{option_map_or}
use Rattle.rinqebo_request.specs.Lines.{line_of}
use Rattle.rinqebo_request.specs.Requests.{mode_by}
use Rattle.rinqebo_diff.proofs.Requesting.{given, not_given}
use Rattle.rinqebo_diff.proofs.side_options.right_mode.Goals as goal

pub returns-in-Some : goal.returns-in-Some
returns-in-Some c =
    c.mode_of.ensures
    ∙ sym (ap (λ own. option_map_or mode_by own c.args.left)
    (given (codes "to-mode") (line_of c.args.matches.now) c.value.result _ c.value.ensures c.in-Some.is))

pub returns-in-None : goal.returns-in-None
returns-in-None c =
    sym (ap (λ own. option_map_or mode_by own c.args.left)
    (not_given (codes "to-mode") (line_of c.args.matches.now) c.value.result c.value.ensures c.in-None.is))
