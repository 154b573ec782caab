use Rattle.rinqebo_request.specs.declared.words.ParseStop.TheVariants as stops
use Rattle.rinqebo_request.proofs.Refusing.{no_code}
use Rattle.rinqebo_request.proofs.files.Passing.{passed}
use Rattle.rinqebo_request.proofs.check_words.code_named.Goals as goal

pub returns-in_ok-no_code-in-None-clause-err : goal.returns-in_ok-no_code-in-None-clause-err
returns-in_ok-no_code-in-None-clause-err c = no_code _ c.args.word.now c.in_ok-no_code-in-None.field-0 c.in-None.ensures c.in_ok-no_code-in-None.ensures

pub returns-in_err-no_code-in-None-clause-err : goal.returns-in_err-no_code-in-None-clause-err
returns-in_err-no_code-in-None-clause-err c = passed _ c.from_residual.result stops.Memory c.from_residual.ensures.1 tt
