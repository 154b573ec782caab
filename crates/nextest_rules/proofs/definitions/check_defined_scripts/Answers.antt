use Rattle.nextest_sources.proofs.Ends.{exit, found_first, found_next}
use Rattle.nextest_sources.specs.Endings.{error_view}
use Rattle.nextest_rules.proofs.definitions.check_defined_scripts.Goals as goal

pub returns-in_err-check_features : goal.returns-in_err-check_features
returns-in_err-check_features c =
    let e = c.in_err-check_features.field-0.0 in
    exit _ e _ c.from_residual.ensures.1 (found_first _ _ e c.in_err-check_features.ensures)

pub returns-in_err-check_script_kinds : goal.returns-in_err-check_script_kinds
returns-in_err-check_script_kinds c =
    let e = c.in_err-check_script_kinds.field-0.0 in
    exit _ e _ c.from_residual-in_err-check_script_kinds.ensures.1
    (found_next _ _ (error_view e) c.in_ok-check_features.ensures
    (found_first _ _ e c.in_err-check_script_kinds.ensures))
