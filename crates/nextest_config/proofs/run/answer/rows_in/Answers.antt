use Rattle.std.proofs.Common.{◌≡◌, ◌++◌, map, take, refl, subst}
use Rattle.std.proofs.lemmas.List.{take_all}
use Rattle.std.specs.List.{AllZip, flat_map}
use Rattle.nextest_engines.specs.Engines.{test_view}
use Rattle.nextest_settings.specs.Profiles.Meaning.{profile_meaning}
use Rattle.nextest_settings.specs.SettingsView.{value_at, origin_at}
use Rattle.nextest_config.specs.Headline.{IsTestRow, numbers_for}
use Rattle.nextest_config.specs.RowView.{row_view}
use Rattle.nextest_config.proofs.AreRows.{rows_more, numbers_more, row_is}
use Rattle.nextest_config.proofs.run.answer.rows_in.Goals as goal

pub loop-test-preserved : goal.loop-test-preserved
loop-test-preserved g c =
    let F = g.F.Filters in
    let numbers = g.F.Tally.Tally.numbers in
    let profile = profile_meaning F.meaning c.args.profile.now in
    let settings = c.settings_with_source_for-settings in
    let row = c.in_ok-row_of in
    let is = row_is F.holds profile c.args.mode _ row.field-0 (value_at settings.result)
    (origin_at settings.result) row.ensures.values row.ensures.sources settings.ensures.settings.values
    settings.ensures.settings.origins in
    record {
      rows = rw c.in_ok-push.ensures.items
          (rows_more F.holds profile c.args.mode test_view c.args.tests.now c.loop-test.test-index _ _
          c.loop-test-test.true refl c.loop-test.rows.items row.field-0 c.loop-test.invariant.rows is);
      tally = numbers_more F.holds profile c.args.mode test_view c.args.tests.now c.loop-test.test-index _ _
          c.loop-test-test.true refl (numbers c.args.tally.now) (numbers c.loop-test.tally)
          (numbers settings.new.tally) c.loop-test.invariant.tally settings.ensures.tally;
    }

pub returns : goal.returns
returns g c =
    let F = g.F.Filters in
    let profile = profile_meaning F.meaning c.args.profile.now in
    let tests = c.args.tests.now in
    let all : take c.loop-test.test-index tests ≡ tests =
    take_all c.loop-test.test-index tests c.loop-test-test.false in (
      flat_map (numbers_for F.holds profile c.args.mode) (map test_view tests),
      subst (λ ts. g.F.Tally.Tally.numbers c.loop-test.tally ≡ g.F.Tally.Tally.numbers c.args.tally.now
          ++ flat_map (numbers_for F.holds profile c.args.mode) (map test_view ts)) all c.loop-test.invariant.tally,
      record {
        each = subst (λ ts. AllZip (IsTestRow F.holds profile c.args.mode) (map test_view ts)
            (map row_view c.loop-test.rows.items)) all c.loop-test.invariant.rows;
        evaluated = refl;
      },
    )
