use Rattle.rinqebo_request.specs.Lines.{line_of}
use Rattle.rinqebo_request.specs.declared.words.ParseStop.TheVariants as stops
use Rattle.rinqebo_request.proofs.Refusing.{invalid_for}
use Rattle.rinqebo_request.proofs.Targets.{lacking, named}
use Rattle.rinqebo_request.proofs.files.Passing.{passed}
use Rattle.rinqebo_request.proofs.words.target_engines.Goals as goal

pub returns-then-lacks_target-clause-err : goal.returns-then-lacks_target-clause-err
returns-then-lacks_target-clause-err c =
    invalid_for _ c.in_ok-usage.field-0
    (lacking c.args.environment.now (line_of c.args.matches.now) c.engines-engines.result c.lacks_target.result c.engines-engines.ensures
    c.lacks_target.ensures c.if-lacks_target.true)
    c.in_ok-usage.ensures.invalid

pub returns-in_err-usage-clause-err : goal.returns-in_err-usage-clause-err
returns-in_err-usage-clause-err c = passed _ c.from_residual.result stops.Memory c.from_residual.ensures.1 tt

pub returns-clause-ok : goal.returns-clause-ok
returns-clause-ok c = (
  c.engines-engines.ensures,
  named c.args.environment.now (line_of c.args.matches.now) c.engines-engines.result c.lacks_target.result c.engines-engines.ensures
      c.lacks_target.ensures c.if-lacks_target.false,
)
