use Rattle.std.proofs.Common.{◌≡◌, map, drop}
use Rattle.nextest_settings.specs.Chains.{first_of}
use Rattle.nextest_settings.specs.Platforms.{filter_of_override}
use Rattle.nextest_settings.specs.View.{evaluated_override_view}
use Rattle.nextest_settings.proofs.default_filter.first_filter.Given as goal

abbrev pub invariant-loop-rule : goal.invariant-loop-rule
invariant-loop-rule g l =
    first_of filter_of_override (map evaluated_override_view (drop l.rule-index l.overrides))
    ≡ first_of filter_of_override (map evaluated_override_view l.overrides)
