use Rattle.std.proofs.Common.{◌≡◌, map, take}
use Rattle.filter_engine.specs.Compiling.{names_of}
use Rattle.filter_engine.specs.Engine.{filter_holds}
use Rattle.filter_inputs.specs.Lists.Lists.{test_of}
use Rattle.filter_inputs.specs.Lists.ListView.{binary_view, case_view}
use Rattle.filter_language.specs.Filtersets.{marks_view}
use Rattle.nextest_settings.specs.Profiles.Meaning.{profile_meaning}
use Rattle.rinqebo_changes.specs.Changes.{is_change}
use Rattle.rinqebo_changes.specs.Sides.Matched.{tests_of}
use Rattle.rinqebo_diff.specs.Compared.{ReportsBy, AddsCompared}
use Rattle.rinqebo_diff.proofs.compared.Comparing.compare_binary.Given as goal

-- the tests so far are compared
abbrev pub invariant-loop-case : goal.invariant-loop-case
invariant-loop-case g l =
    let from = l.initial.self.left.listing.lister in
    let to = l.initial.self.right.listing.lister in
    let compare = l.by.compare in
    record {
      from_same : l.from_origins ≡ l.initial.from_origins;
      to_same : l.to_origins ≡ l.initial.to_origins;
      left_same : l.self.left.listing.lister ≡ from;
      right_same : l.self.right.listing.lister ≡ to;
      compared : AddsCompared
          (ReportsBy filter_holds l.initial.from_origins (profile_meaning (marks_view names_of) from.profile.now) from.mode
          from.asked.now)
          (ReportsBy filter_holds l.initial.to_origins (profile_meaning (marks_view names_of) to.profile.now) to.mode
          to.asked.now)
          (is_change compare.sources.from.now compare.sources.to.now compare.with_origins) compare.with_runs
          (tests_of l.by.from_tests.now)
          (map (test_of (binary_view l.binary)) (map case_view (take l.case-index l.binary.tests.items)))
          l.initial.self.found l.self.found;
    }
