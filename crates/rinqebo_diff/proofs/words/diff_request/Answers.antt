use Rattle.std.proofs.Common.{◌≡◌, ◌∙◌, sym, true}
use Rattle.std.proofs.lemmas.Bool.{false≢true}
use Rattle.std.proofs.lemmas.Result.{IfOk-weaker}
use Rattle.rinqebo_request.specs.Lines.{line_of}
use Rattle.rinqebo_diff.proofs.Requesting.{no_memory}
use Rattle.rinqebo_diff.specs.RightLine.{has_right_side}
use Rattle.rinqebo_diff.proofs.words.diff_request.Goals as goal

pub returns-then-not-has_right_side-clause-err : goal.returns-then-not-has_right_side-clause-err
returns-then-not-has_right_side-clause-err c _ = c.in_ok-no_right_side.ensures

pub returns-in_err-no_right_side-clause-err : goal.returns-in_err-no_right_side-clause-err
returns-in_err-no_right_side-clause-err c _ = no_memory c.from_residual.result c.from_residual.ensures.1

pub returns-clause-ok : goal.returns-clause-ok
returns-clause-ok c =
    IfOk-weaker c.sides_request.result _ _ (λ _ is. (sym c.has_right_side.ensures ∙ c.if-not-has_right_side.false, is)) c.sides_request.ensures

pub returns-clause-err : goal.returns-clause-err
returns-clause-err c lacks =
    let has : has_right_side (line_of c.args.matches.now) ≡ true = sym c.has_right_side.ensures ∙ c.if-not-has_right_side.false in
    absurd (false≢true (sym lacks ∙ has))
