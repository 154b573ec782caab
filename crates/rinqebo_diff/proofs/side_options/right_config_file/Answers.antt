use Rattle.std.proofs.Common.{codes, refl}
use Rattle.rinqebo_request.specs.Lines.{line_of}
use Rattle.rinqebo_diff.specs.RightLine.{right_line}
use Rattle.rinqebo_diff.proofs.Requesting.{given, left_value, not_given, own_value, same_config}
use Rattle.rinqebo_diff.proofs.RightLines.{right_value}
use Rattle.rinqebo_diff.proofs.side_options.right_config_file.Goals as goal

pub returns-in-Some : goal.returns-in-Some
returns-in-Some c _ =
    let line = line_of c.args.matches.now in
    own_value (codes "to-config-file") (codes "config-file") line c.in-Some.path.now
    (right_value (codes "to-config-file") (codes "config-file") line refl refl)
    (given (codes "to-config-file") line c.value.result c.in-Some.path c.value.ensures c.in-Some.is)

pub returns-in-None : goal.returns-in-None
returns-in-None c is =
    let line = line_of c.args.matches.now in
    same_config line (right_line line) c.args.left
    (left_value (codes "to-config-file") (codes "config-file") line
    (right_value (codes "to-config-file") (codes "config-file") line refl refl)
    (not_given (codes "to-config-file") line c.value.result c.value.ensures c.in-None.is))
    is
