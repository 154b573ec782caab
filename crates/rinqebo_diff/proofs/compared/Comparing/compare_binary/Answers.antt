use Rattle.std.proofs.Common.{◌∙◌, ◌∷◌, [], ◌+◌, ◌++◌, ap, map, refl, sym, take}
use Rattle.filter_engine.specs.Compiling.{names_of}
use Rattle.filter_engine.specs.Engine.{filter_holds}
use Rattle.filter_inputs.specs.Lists.Lists.{test_of}
use Rattle.filter_inputs.specs.Lists.ListView.{binary_view, case_view, list_test_view}
use Rattle.filter_language.specs.Filtersets.{marks_view}
use Rattle.nextest_settings.specs.Profiles.Meaning.{profile_meaning}
use Rattle.rinqebo_changes.specs.Changes.{is_change}
use Rattle.rinqebo_changes.specs.Sides.Matched.{tests_of}
use Rattle.rinqebo_changes.proofs.Matching.{cases_taken}
use Rattle.rinqebo_diff.specs.Compared.{ReportsBy, AddsCompared}
use Rattle.rinqebo_diff.proofs.Comparing.{adds_more, adds_none, by_names}
use Rattle.rinqebo_diff.proofs.compared.Comparing.compare_binary.Goals as goal

pub loop-case-init : goal.loop-case-init
loop-case-init g c = record {
  from_same = refl;
  to_same = refl;
  left_same = refl;
  right_same = refl;
  compared = adds_none _ _ _ _ _ c.args.self.now.found c.args.self.now.found refl refl;
}

pub loop-case-preserved : goal.loop-case-preserved
loop-case-preserved g c =
    let inv = c.loop-case.invariant in
    let then = c.in_ok-compare_test.ensures in
    let i = c.loop-case.case-index in
    let binary = c.args.binary.now in
    let cases = binary.tests.items in
    let from = c.args.self.now.left.listing.lister in
    let to = c.args.self.now.right.listing.lister in
    let compare = c.args.by.now.compare in
    let changes = is_change compare.sources.from.now compare.sources.to.now compare.with_origins in
    let tests = tests_of c.args.by.now.from_tests.now in
    let so_far = map (test_of (binary_view binary)) (map case_view (take i cases)) in
    let more = map (test_of (binary_view binary)) (map case_view (take (i + 1) cases)) in
    let one = list_test_view c.test_of-test.result ∷ [] in
    record {
      from_same = then.same_from ∙ inv.from_same;
      to_same = then.same_to ∙ inv.to_same;
      left_same = then.from_lister ∙ inv.left_same;
      right_same = then.to_lister ∙ inv.right_same;
      compared = adds_more _ _ changes compare.with_runs tests so_far one more c.args.self.now.found
          c.loop-case.self.found c.compare_test.new.self.found
          (cases_taken binary c.deref-case-items.result.now i c.case-item.result c.case-item.result
          c.deref-case-items.ensures.value c.loop-case-test.true c.case-item.is
          ∙ ap (λ t. so_far ++ t ∷ []) (sym c.test_of-test.ensures))
          inv.compared
          (by_names _ _ _ _ inv.from_same inv.to_same
          (λ a b. AddsCompared
          (ReportsBy filter_holds a (profile_meaning (marks_view names_of) from.profile.now) from.mode from.asked.now)
          (ReportsBy filter_holds b (profile_meaning (marks_view names_of) to.profile.now) to.mode to.asked.now)
          changes compare.with_runs tests one c.loop-case.self.found c.compare_test.new.self.found)
          (by_names _ _ _ _ inv.left_same inv.right_same
          (λ l r. AddsCompared
          (ReportsBy filter_holds c.loop-case.from_origins (profile_meaning (marks_view names_of) l.profile.now) l.mode
          l.asked.now)
          (ReportsBy filter_holds c.loop-case.to_origins (profile_meaning (marks_view names_of) r.profile.now) r.mode
          r.asked.now)
          changes compare.with_runs tests one c.loop-case.self.found c.compare_test.new.self.found) then.compared));
    }
