use Rattle.std.proofs.Common.{◌≡◌, ap, codes, false, is_some, true}
use Rattle.rinqebo_request.specs.Lines.{line_of}
use Rattle.rinqebo_diff.specs.RightLine.{is_given}
use Rattle.rinqebo_diff.proofs.Requesting.{given, not_given}
use Rattle.rinqebo_diff.proofs.side_options.right_compiler.Goals as goal

pub returns-in-Some : goal.returns-in-Some
returns-in-Some c =
    let is : is_given (codes "to-host") (line_of c.args.matches.now) ≡ true =
    ap is_some (given (codes "to-host") (line_of c.args.matches.now) c.value.result _ c.value.ensures c.in-Some.is) in
    rw is

pub returns-in-None : goal.returns-in-None
returns-in-None c =
    let is : is_given (codes "to-host") (line_of c.args.matches.now) ≡ false =
    ap is_some (not_given (codes "to-host") (line_of c.args.matches.now) c.value.result c.value.ensures c.in-None.is) in
    rw is
