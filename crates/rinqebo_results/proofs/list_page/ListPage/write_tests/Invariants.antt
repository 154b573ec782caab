use Rattle.std.proofs.Common.{◌≡◌, List, map, take}
use Rattle.std.specs.Io.KnownBytes.{Appends}
use Rattle.std.specs.List.{AllZip}
use Rattle.filter_language.specs.Filtersets.{marks_view}
use Rattle.filter_inputs.specs.Lists.ListView.{list_test_view}
use Rattle.filter_engine.specs.Compiling.{names_of}
use Rattle.filter_engine.specs.Engine.{filter_holds}
use Rattle.nextest_settings.specs.Profiles.Meaning.{profile_meaning}
use Rattle.nextest_settings.specs.Queries.{query_in}
use Rattle.rinqebo_rules.specs.Rows.{IsTestReported}
use Rattle.rinqebo_rules.specs.Unused.{AreUsedIn}
use Rattle.rinqebo_report.specs.declared.report.TestRows.{TestRows}
use Rattle.rinqebo_results.specs.Begun.{tests_text}
use Rattle.rinqebo_results.proofs.list_page.ListPage.write_tests.Given as goal

-- The tests so far went out.
abbrev pub invariant-loop-place : goal.invariant-loop-place
invariant-loop-place g l =
    let profile = profile_meaning (marks_view names_of) l.asking.profile.now in
    let listed = take l.place l.listed in
    record {
      lister : l.listing.lister ≡ l.asking;
      same : l.origins ≡ l.initial.origins;
      rows : List TestRows;
      told : AllZip (λ test. IsTestReported l.initial.origins
          (query_in filter_holds profile (list_test_view test).test) l.asking.mode profile l.asking.asked.now
          (list_test_view test)) listed rows;
      page : Appends (g.O.Write.contents l.initial.out) (g.O.Write.contents l.out)
          (tests_text l.self.head.now l.self.paper rows);
      marked : AreUsedIn (map (λ test. query_in filter_holds profile (list_test_view test).test) listed) l.asking.mode
          profile l.used;
    }
