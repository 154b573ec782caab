use Rattle.std.proofs.Common.{◌∙◌, ap, is_some}
use Rattle.nextest_rules.specs.View.{script_rule_view}
use Rattle.nextest_scripts.specs.ScriptId.{script_text}
use Rattle.rinqebo_rules.proofs.Passing.{some_shown}
use Rattle.rinqebo_rules.proofs.wrapping.names_run_wrapper.Goals as goal

pub returns : goal.returns
returns g c =
    c.is_some.ensures ∙ some_shown (λ id. script_text id.now) _
    ∙ ap is_some (c.run_wrapper.ensures ∙ ap (λ r. (script_rule_view r.now).writes.scripts.run_wrapper) c.rule.ensures)
