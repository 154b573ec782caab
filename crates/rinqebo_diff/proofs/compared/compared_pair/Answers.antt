use Rattle.filter_engine.specs.Compiling.{names_of}
use Rattle.filter_engine.specs.Engine.{filter_holds}
use Rattle.filter_language.specs.Filtersets.{marks_view}
use Rattle.nextest_settings.specs.Profiles.Meaning.{profile_meaning}
use Rattle.rinqebo_changes.specs.Changes.{is_change}
use Rattle.rinqebo_changes.specs.Sides.Matched.{pair_view}
use Rattle.rinqebo_diff.specs.Compared.{ReportsBy}
use Rattle.rinqebo_diff.proofs.Comparing.{compared_by}
use Rattle.rinqebo_diff.proofs.compared.compared_pair.Goals as goal

pub returns-clause-changes : goal.returns-clause-changes
returns-clause-changes c =
    let left = c.args.from.now.listing.lister in
    let right = c.args.to.now.listing.lister in
    let compare = c.args.compare.now in
    compared_by
    (ReportsBy filter_holds c.args.from_origins.now (profile_meaning (marks_view names_of) left.profile.now) left.mode
    left.asked.now)
    (ReportsBy filter_holds c.args.to_origins.now (profile_meaning (marks_view names_of) right.profile.now) right.mode
    right.asked.now)
    (is_change compare.sources.from.now compare.sources.to.now compare.with_origins) compare.with_runs
    (pair_view c.args.pair.now) c.in_ok-before.before c.in_ok-after.after c.changes_of.result
    c.in_ok-before.ensures.told c.in_ok-after.ensures.told c.changes_of.ensures
