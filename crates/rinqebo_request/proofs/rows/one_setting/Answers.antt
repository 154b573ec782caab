use Rattle.rinqebo_request.specs.declared.words.ParseStop.TheVariants as stops
use Rattle.rinqebo_request.proofs.Refusing.{invalid_for, refused_for}
use Rattle.rinqebo_request.proofs.files.Passing.{passed}
use Rattle.rinqebo_request.proofs.rows.one_setting.Goals as goal

pub returns-clause-err : goal.returns-clause-err
returns-clause-err c =
    invalid_for _ c.in_ok-is_table.field-0 (rw c.in_default.is at c.in_ok-setting.ensures) c.in_ok-is_table.ensures

pub returns-in_err-setting-clause-err : goal.returns-in_err-setting-clause-err
returns-in_err-setting-clause-err c = passed _ c.from_residual.result stops.Memory c.from_residual.ensures.1 tt

pub returns-in_err-named_settings-clause-err : goal.returns-in_err-named_settings-clause-err
returns-in_err-named_settings-clause-err c =
    passed _ c.from_residual-in_err-named_settings.result c.in_err-named_settings.field-0.0 c.from_residual-in_err-named_settings.ensures.1
    (refused_for _ _ c.args.mode c.args.key.now c.in_err-named_settings.field-0.0 (λ _. rw c.in_default.is at c.in_ok-setting.ensures) c.in_err-named_settings.ensures.err)

pub returns-in_err-is_table-clause-err : goal.returns-in_err-is_table-clause-err
returns-in_err-is_table-clause-err c =
    passed _ c.from_residual-in_err-is_table.result stops.Memory c.from_residual-in_err-is_table.ensures.1 tt
