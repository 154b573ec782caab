use Rattle.std.proofs.Common.{◌≡◌, take}
use Rattle.filter_engine.specs.Compiling.{names_of}
use Rattle.filter_engine.specs.Engine.{filter_holds}
use Rattle.filter_language.specs.Filtersets.{marks_view}
use Rattle.nextest_settings.specs.Profiles.Meaning.{profile_meaning}
use Rattle.rinqebo_changes.specs.Changes.{is_change}
use Rattle.rinqebo_changes.specs.Sides.Matched.{tests_of}
use Rattle.rinqebo_diff.specs.Compared.{ReportsBy, AddsCompared}
use Rattle.rinqebo_diff.proofs.compared.compared.Given as goal

-- the tests of the binaries so far are compared
abbrev pub invariant-loop-binary : goal.invariant-loop-binary
invariant-loop-binary g l = record {
  from_same : l.from_origins ≡ l.initial.from_origins;
  to_same : l.to_origins ≡ l.initial.to_origins;
  left_same : l.comparing.left.listing.lister ≡ l.from;
  right_same : l.comparing.right.listing.lister ≡ l.to;
  compared : AddsCompared
      (ReportsBy filter_holds l.initial.from_origins (profile_meaning (marks_view names_of) l.from.profile.now) l.from.mode
      l.from.asked.now)
      (ReportsBy filter_holds l.initial.to_origins (profile_meaning (marks_view names_of) l.to.profile.now) l.to.mode
      l.to.asked.now)
      (is_change l.compare.sources.from.now l.compare.sources.to.now l.compare.with_origins) l.compare.with_runs
      (tests_of l.from_tests) (tests_of (take l.binary-index l.to_tests)) l.initial.comparing.found
      l.comparing.found;
}
