use Rattle.std.proofs.Common.{◌≡◌, filter_map, map, take}
use Rattle.nextest_engines.specs.Engines.{binary_view}
use Rattle.nextest_settings.specs.Profiles.Meaning.{profile_meaning}
use Rattle.rinqebo_rules.specs.Scripts.{wrapper_at, wrapper_view}
use Rattle.rinqebo_rules.proofs.scripts.list_wrappers.Given as goal

-- the list wrappers of the binaries so far
abbrev pub invariant-loop-binary : goal.invariant-loop-binary
invariant-loop-binary g l =
    map wrapper_view l.wrappers.items
    ≡ filter_map (wrapper_at g.F.Filters.holds_binary (profile_meaning g.F.Filters.meaning l.profile))
    (map binary_view (take l.binary-index l.binaries))
