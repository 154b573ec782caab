use Rattle.std.proofs.Common.{codes, refl, subst, sym}
use Rattle.rinqebo_request.specs.Lines.{line_of}
use Rattle.rinqebo_request.specs.Requests.{IsListOf}
use Rattle.rinqebo_diff.proofs.Requesting.{given, left_value, not_given, own_value}
use Rattle.rinqebo_diff.proofs.RightLines.{right_value}
use Rattle.rinqebo_diff.proofs.side_options.right_list.Goals as goal

pub returns-in-Some : goal.returns-in-Some
returns-in-Some c _ =
    let line = line_of c.args.matches.now in
    subst (λ path. IsListOf path c.at.result)
    (sym (own_value (codes "to-list") (codes "LIST") line c.in-Some.path.now (right_value (codes "to-list") (codes "LIST") line refl refl)
    (given (codes "to-list") line c.value.result c.in-Some.path c.value.ensures c.in-Some.is)))
    c.at.ensures

pub returns-in-None : goal.returns-in-None
returns-in-None c is =
    let line = line_of c.args.matches.now in
    subst (λ path. IsListOf path c.args.left)
    (sym (left_value (codes "to-list") (codes "LIST") line (right_value (codes "to-list") (codes "LIST") line refl refl)
    (not_given (codes "to-list") line c.value.result c.value.ensures c.in-None.is)))
    is
