use Rattle.std.proofs.Common.{◌≡◌, drop, map, option_map}
use Rattle.nextest_settings.specs.SettingValues.{by_kind, profile_sets}
use Rattle.nextest_settings.specs.Values.{nearest}
use Rattle.nextest_settings.specs.View.{fields_ref_view}
use Rattle.nextest_settings.proofs.fallback.nearest_value.Given as goal

abbrev pub invariant-loop-written : goal.invariant-loop-written
invariant-loop-written l =
    option_map (by_kind l.setting)
    (nearest (λ f. profile_sets f l.mode l.setting) (map fields_ref_view (drop l.written-index l.fields)))
    ≡ option_map (by_kind l.setting) (nearest (λ f. profile_sets f l.mode l.setting) (map fields_ref_view l.fields))
