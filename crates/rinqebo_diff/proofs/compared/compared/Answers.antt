use Rattle.std.proofs.Common.{◌∙◌, ◌+◌, refl, take}
use Rattle.filter_engine.specs.Compiling.{names_of}
use Rattle.filter_engine.specs.Engine.{filter_holds}
use Rattle.filter_inputs.specs.Lists.Lists.{tests_in}
use Rattle.filter_inputs.specs.Lists.ListView.{listed_view}
use Rattle.filter_language.specs.Filtersets.{marks_view}
use Rattle.nextest_settings.specs.Profiles.Meaning.{profile_meaning}
use Rattle.rinqebo_changes.specs.Changes.{is_change}
use Rattle.rinqebo_changes.specs.Sides.Matched.{tests_of}
use Rattle.rinqebo_changes.proofs.Matching.{tests_taken}
use Rattle.rinqebo_diff.specs.Compared.{ReportsBy, AddsCompared}
use Rattle.rinqebo_diff.proofs.Comparing.{adds_more, adds_none, by_names}
use Rattle.rinqebo_diff.proofs.compared.compared.Goals as goal

pub loop-binary-init : goal.loop-binary-init
loop-binary-init g c = record {
  from_same = refl;
  to_same = refl;
  left_same = c.in_ok-left.ensures;
  right_same = c.in_ok-right.ensures;
  compared = adds_none _ _ _ _ _ _ _ refl refl;
}

pub loop-binary-preserved : goal.loop-binary-preserved
loop-binary-preserved g c =
    let inv = c.loop-binary.invariant in
    let then = c.in_ok-compare_binary.ensures in
    let i = c.loop-binary.binary-index in
    let binaries = c.args.to_tests.now in
    let binary = c.binary-item.result in
    let from = c.args.from.now in
    let to = c.args.to.now in
    let compare = c.args.compare.now in
    let changes = is_change compare.sources.from.now compare.sources.to.now compare.with_origins in
    let tests = tests_of c.args.from_tests.now in
    let these = tests_in (listed_view binary) in
    record {
      from_same = then.same_from ∙ inv.from_same;
      to_same = then.same_to ∙ inv.to_same;
      left_same = then.from_lister ∙ inv.left_same;
      right_same = then.to_lister ∙ inv.right_same;
      compared = adds_more _ _ changes compare.with_runs tests (tests_of (take i binaries)) these
          (tests_of (take (i + 1) binaries)) _ c.loop-binary.comparing.found c.compare_binary.new.self.found
          (tests_taken binaries i binary binary c.loop-binary-test.true c.binary-item.is)
          inv.compared
          (by_names _ _ _ _ inv.from_same inv.to_same
          (λ a b. AddsCompared
          (ReportsBy filter_holds a (profile_meaning (marks_view names_of) from.profile.now) from.mode from.asked.now)
          (ReportsBy filter_holds b (profile_meaning (marks_view names_of) to.profile.now) to.mode to.asked.now)
          changes compare.with_runs tests these c.loop-binary.comparing.found c.compare_binary.new.self.found)
          (by_names _ _ _ _ inv.left_same inv.right_same
          (λ l r. AddsCompared
          (ReportsBy filter_holds c.loop-binary.from_origins (profile_meaning (marks_view names_of) l.profile.now) l.mode
          l.asked.now)
          (ReportsBy filter_holds c.loop-binary.to_origins (profile_meaning (marks_view names_of) r.profile.now) r.mode
          r.asked.now)
          changes compare.with_runs tests these c.loop-binary.comparing.found c.compare_binary.new.self.found) then.compared));
    }
