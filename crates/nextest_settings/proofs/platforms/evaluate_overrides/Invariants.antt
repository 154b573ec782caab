use Rattle.std.proofs.Common.{◌≡◌, map, take}
use Rattle.nextest_settings.specs.Engines.{meets_by}
use Rattle.nextest_settings.specs.Platforms.{rule_on}
use Rattle.nextest_settings.specs.View.{override_ref_view, evaluated_override_view}
use Rattle.nextest_settings.proofs.platforms.evaluate_overrides.Given as goal

abbrev pub invariant-loop-rule : goal.invariant-loop-rule
invariant-loop-rule g l =
    (map (λ e. e.rule) l.evaluated.items ≡ take l.rule-index l.rules)
    × (map evaluated_override_view l.evaluated.items
    ≡ map (rule_on (meets_by g.S.Specs) l.platforms)
    (map override_ref_view (take l.rule-index l.rules)))
