use Rattle.std.proofs.Common.{drop}
use Rattle.std.proofs.lemmas.List.{drop-drop}
use Rattle.std.proofs.lemmas.Result.{err_from_is_err_and}
use Rattle.regex_hir.specs.Meaning.{meaning}
use Rattle.filter_engine.proofs.GlobBodies.{class_made, refused_body}
use Rattle.filter_engine.proofs.GlobParts.{whole_from}
use Rattle.filter_engine.proofs.glob.class.read_class.Goals as goal

pub returns-in_err-ranges-clause-refused : goal.returns-in_err-ranges-clause-refused
returns-in_err-ranges-clause-refused c =
    let text = c.args.text.now in
    let sign = c.read_sign-negated.result.1 in
    let whole = whole_from text sign in
    let p = err_from_is_err_and c.from_residual.result c.from_residual.ensures.1 in
    rw (p.1, p.2)
    (refused_body c.read_sign-negated.result.0 text (drop sign text) c.in_err-ranges.field-0.0
    c.read_sign-negated.ensures.sign
    (rw whole at c.in_err-ranges.ensures.refused))

pub returns-clause-class : goal.returns-clause-class
returns-clause-class c =
    let text = c.args.text.now in
    let sign = c.read_sign-negated.result.1 in
    let len = c.in_ok-ranges.len in
    let whole = whole_from text sign in
    rw (← drop-drop len sign text)
    (class_made c.read_sign-negated.result.0 text (drop sign text) (drop len (drop sign text))
    c.in_ok-ranges.ranges.items
    (meaning c.in_ok-pattern.pattern) c.read_sign-negated.ensures.sign
    (rw whole at c.in_ok-ranges.ensures.ranges) c.in_ok-pattern.ensures)
