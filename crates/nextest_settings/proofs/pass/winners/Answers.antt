use Rattle.std.proofs.Common.{◌∙◌, ap, ◌++◌}
use Rattle.nextest_settings.specs.Engines.{test_query_by}
use Rattle.nextest_settings.specs.Pass.{slots_view}
use Rattle.nextest_elements.specs.Settings.{settings}
use Rattle.nextest_settings.specs.Settings.{is_set}
use Rattle.nextest_settings.specs.View.{meant_override}
use Rattle.nextest_settings.proofs.Listed.{winners-seen, all-told}
use Rattle.nextest_settings.proofs.pass.winners.Goals as goal

pub walk_rows-requires-clause-answers : goal.walk_rows-requires-clause-answers
walk_rows-requires-clause-answers g c = λ k r at listed. tt

pub returns-clause-winners : goal.returns-clause-winners
returns-clause-winners g c =
    let F = g.F.Filters in
    let query = test_query_by F c.args.cx.now.default_filter.now c.args.query.now in
    ap (slots_view F.meaning) c.walk_rows.ensures.found
    ∙ winners-seen (meant_override F.meaning) (λ s w. is_set w.settings c.args.mode s) query settings
    c.args.overrides.now

pub returns-clause-tally : goal.returns-clause-tally
returns-clause-tally g c =
    let F = g.F.Filters in
    let query = test_query_by F c.args.cx.now.default_filter.now c.args.query.now in
    c.walk_rows.ensures.tally
    ∙ ap (λ l. g.F.Tally.Tally.numbers c.args.tally.now ++ l)
    (all-told (meant_override F.meaning) (λ s w. is_set w.settings c.args.mode s) query settings 0
    c.args.overrides.now)
