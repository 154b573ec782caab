use Rattle.nextest_sources.proofs.Ends.{exit, found_first}
use Rattle.nextest_rules.proofs.definitions.check_groups_and_keys.Goals as goal

pub returns-in_err-check_group_names : goal.returns-in_err-check_group_names
returns-in_err-check_group_names c =
    let e = c.in_err-check_group_names.field-0.0 in
    exit _ e _ c.from_residual.ensures.1 (found_first _ _ e c.in_err-check_group_names.ensures)
