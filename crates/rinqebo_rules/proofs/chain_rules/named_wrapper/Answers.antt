use Rattle.std.proofs.Common.{◌∙◌, ap, option_map}
use Rattle.nextest_settings.specs.View.{script_rule_ref_view}
use Rattle.nextest_elements.specs.declared.setting.Setting.TheVariants as at
use Rattle.rinqebo_origins.specs.Reported.{reported_of}
use Rattle.rinqebo_rules.proofs.chain_rules.named_wrapper.Goals as goal

pub returns-in-Some : goal.returns-in-Some
returns-in-Some c =
    ap (option_map (reported_of at.RunWrapper))
    (c.in-Some.ensures ∙ ap (λ r. (script_rule_ref_view r).writes.scripts.run_wrapper) c.rule.ensures)

pub returns-in-None : goal.returns-in-None
returns-in-None c =
    ap (option_map (reported_of at.RunWrapper))
    (c.in-None.ensures ∙ ap (λ r. (script_rule_ref_view r).writes.scripts.run_wrapper) c.rule.ensures)
