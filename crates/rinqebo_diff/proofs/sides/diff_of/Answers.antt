use Rattle.std.proofs.lemmas.Result.{IfOk-weaker}
use Rattle.rinqebo_diff.specs.Differences.{IsDiffOf}
use Rattle.rinqebo_diff.specs.Evaluated.{evaluation_of, IsDiffOfLoaded}
use Rattle.rinqebo_diff.proofs.sides.diff_of.Goals as goal

pub evaluated_side-requires : goal.evaluated_side-requires
evaluated_side-requires g c = c.requires.from

pub evaluated_side-requires-2 : goal.evaluated_side-requires-2
evaluated_side-requires-2 g c = c.requires.to

pub returns : goal.returns
returns g c =
    let request = c.args.request.now in
    let from = c.args.from.now in
    let to = c.args.to.now in
    let left = c.in_ok-left.left in
    let right = c.in_ok-right.right in
    IfOk-weaker c.diff_by.result (IsDiffOf request (evaluation_of from left) (evaluation_of to right))
    (IsDiffOfLoaded request from to)
    (λ diff is. record {
      left = left;
      right = right;
      is_left = c.in_ok-left.ensures;
      is_right = c.in_ok-right.ensures;
      is_diff = is;
    }) c.diff_by.ensures
