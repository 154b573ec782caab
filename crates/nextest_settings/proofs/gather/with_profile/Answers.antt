use Rattle.nextest_rules.specs.View.{override_rule_view, script_rule_view}
use Rattle.nextest_settings.proofs.FilterMap.{more_refs}
use Rattle.nextest_settings.proofs.gather.with_profile.Goals as goal

pub returns-clause-overrides : goal.returns-clause-overrides
returns-clause-overrides g c =
    more_refs override_rule_view c.args.found.overrides.items c.in_ok-with_rules.field-0.items
    c.args.profile.now.overrides.items (rw c.deref.ensures.value at c.in_ok-with_rules.ensures)

pub returns-clause-script_rules : goal.returns-clause-script_rules
returns-clause-script_rules g c =
    more_refs script_rule_view c.args.found.script_rules.items c.in_ok-with_rules-2.field-0.items
    c.args.profile.now.scripts.items (rw c.deref-2.ensures.value at c.in_ok-with_rules-2.ensures)
