use Rattle.std.proofs.Common.{◌∙◌, sym}
use Rattle.rinqebo_request.specs.declared.words.ParseStop.TheVariants as stops
use Rattle.rinqebo_request.proofs.NamedKeys.{none_named, some_named}
use Rattle.rinqebo_request.proofs.Refusing.{no_setting}
use Rattle.rinqebo_request.proofs.files.Passing.{passed}
use Rattle.rinqebo_request.proofs.rows.named_settings.Goals as goal

pub returns-clause-ok : goal.returns-clause-ok
returns-clause-ok c =
    (c.in_ok-settings.ensures, some_named c.in_ok-settings.settings (sym c.is_empty.ensures ∙ c.if-is_empty.false))

pub returns-then-is_empty-clause-err : goal.returns-then-is_empty-clause-err
returns-then-is_empty-clause-err c =
    no_setting _ c.args.mode c.args.key.now c.in_ok-no_setting.field-0
    (none_named c.in_ok-settings.settings c.args.key.now c.args.mode c.in_ok-settings.ensures (sym c.is_empty.ensures ∙ c.if-is_empty.true))
    c.in_ok-no_setting.ensures

pub returns-in_err-settings-clause-err : goal.returns-in_err-settings-clause-err
returns-in_err-settings-clause-err c = passed _ c.from_residual.result stops.Memory c.from_residual.ensures.1 tt

pub returns-in_err-no_setting-clause-err : goal.returns-in_err-no_setting-clause-err
returns-in_err-no_setting-clause-err c =
    passed _ c.from_residual-in_err-no_setting.result stops.Memory c.from_residual-in_err-no_setting.ensures.1 tt
