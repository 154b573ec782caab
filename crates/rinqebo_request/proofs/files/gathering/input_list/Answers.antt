use Rattle.std.proofs.Common.{◌≡◌, subst}
use Rattle.nextest_sources.specs.Sources.{outcome_view}
use Rattle.rinqebo_request.specs.Files.Gathering.{IsNoText}
use Rattle.rinqebo_request.specs.declared.named.FileOption.TheVariants as options
use Rattle.rinqebo_request.proofs.files.Passing.{passed}
use Rattle.rinqebo_request.proofs.files.gathering.input_list.Goals as goal

pub returns-in_err-read-clause-err : goal.returns-in_err-read-clause-err
returns-in_err-read-clause-err c =
    passed _ c.from_residual.result c.in_err-read.field-0.0 c.from_residual.ensures.1
    (subst (λ path. IsNoText path options.List (λ given. given ≡ outcome_view c.args.input) c.in_err-read.field-0.0) c.path.ensures
    c.in_err-read.ensures.err)
