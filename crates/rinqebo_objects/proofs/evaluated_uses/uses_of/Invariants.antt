use Rattle.std.proofs.Common.{map, take}
use Rattle.nextest_engines.specs.Engines.{test_view}
use Rattle.nextest_settings.specs.Profiles.Meaning.{profile_meaning}
use Rattle.rinqebo_objects.specs.Uses.{AreUsesIn}
use Rattle.rinqebo_objects.proofs.evaluated_uses.uses_of.Given as goal

-- what the tests so far use
abbrev pub invariant-loop-query : goal.invariant-loop-query
invariant-loop-query g l =
    AreUsesIn g.F.Filters.holds (profile_meaning g.F.Filters.meaning l.profile)
    (map test_view (take l.query-index l.tests)) l.uses.items
