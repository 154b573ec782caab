use Rattle.std.proofs.Common.{◌≡◌, map, take}
use Rattle.nextest_settings.specs.SetupView.{numbered_rule_view}
use Rattle.nextest_settings.specs.View.{meant_script_rule}
use Rattle.nextest_settings.proofs.setup_scripts.numbered_rules.Given as goal

abbrev pub invariant-loop-index : goal.invariant-loop-index
invariant-loop-index g l =
    map (numbered_rule_view g.F.Filters.meaning) l.found.items
    ≡ map (meant_script_rule g.F.Filters.meaning) (take l.index l.rules)
