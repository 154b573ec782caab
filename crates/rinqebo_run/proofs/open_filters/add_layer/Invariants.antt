use Rattle.std.proofs.Common.{◌≡◌, ◌++◌, map}
use Rattle.std.specs.List.{flat_map}
use Rattle.std.specs.Map.{values_of}
use Rattle.nextest_rules.specs.View.{layer_profile_view}
use Rattle.rinqebo_run.specs.OpenFilters.{borrowed, profile_filters}
use Rattle.rinqebo_run.proofs.open_filters.add_layer.Given as goal

-- the filters of the profiles so far, and then of those that are left
abbrev pub invariant-loop-profile : goal.invariant-loop-profile
invariant-loop-profile l =
    borrowed l.filters.items ++ flat_map profile_filters (map layer_profile_view l.profile-iterator)
    ≡ borrowed l.initial.filters.items
    ++ flat_map profile_filters (map layer_profile_view (values_of l.layer.profiles.entries))
