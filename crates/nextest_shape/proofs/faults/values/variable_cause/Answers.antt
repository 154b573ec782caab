use Rattle.std.proofs.Common.{◌≡◌, false, cond, None, Some, sym, ap, ◌∙◌, subst}
use Rattle.nextest_tree.specs.Schema.{bad_value}
use Rattle.nextest_scripts.specs.EnvKey.{is_env_var_key}
use Rattle.nextest_scripts.specs.EnvMap.{env_key_expected}
use Rattle.nextest_shape.specs.Faults.Found.{Sees, cause_view}
use Rattle.nextest_shape.proofs.faults.values.variable_cause.Goals as goal

pub returns-in_ok-bad_value : goal.returns-in_ok-bad_value
unfolding env_key_expected
returns-in_ok-bad_value c =
    let k = c.args.key.now in
    let free : is_env_var_key k ≡ false = sym c.is_env_var_key.ensures.value ∙ c.if-is_env_var_key.false in
    subst (Sees (cause_view c.in_ok-bad_value.field-0))
    (sym (ap (λ b. cond b None (Some (bad_value k env_key_expected))) free)) c.in_ok-bad_value.ensures
