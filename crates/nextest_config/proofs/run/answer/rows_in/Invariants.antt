use Rattle.std.proofs.Common.{◌≡◌, ◌++◌, map, take}
use Rattle.std.specs.List.{AllZip, flat_map}
use Rattle.nextest_engines.specs.Engines.{test_view}
use Rattle.nextest_settings.specs.Profiles.Meaning.{profile_meaning}
use Rattle.nextest_config.specs.Headline.{IsTestRow, numbers_for}
use Rattle.nextest_config.specs.RowView.{row_view}
use Rattle.nextest_config.proofs.run.answer.rows_in.Given as goal

-- the rows of the tests so far, and the numbers that were added for them
abbrev pub invariant-loop-test : goal.invariant-loop-test
invariant-loop-test g l =
    let F = g.F.Filters in
    let numbers = g.F.Tally.Tally.numbers in
    let profile = profile_meaning F.meaning l.profile in
    let tests = map test_view (take l.test-index l.tests) in
    record {
      rows : AllZip (IsTestRow F.holds profile l.mode) tests (map row_view l.rows.items);
      tally : numbers l.tally ≡ numbers l.fn.tally ++ flat_map (numbers_for F.holds profile l.mode) tests;
    }
