use Rattle.std.proofs.Common.{◌∙◌, ap}
use Rattle.nextest_settings.specs.Engines.{test_query_by}
use Rattle.nextest_settings.specs.Pass.{slots_view}
use Rattle.nextest_elements.specs.Settings.{settings}
use Rattle.nextest_settings.specs.Settings.{is_set}
use Rattle.nextest_settings.specs.View.{meant_override}
use Rattle.nextest_settings.proofs.KnownRules.{known_met}
use Rattle.nextest_settings.proofs.Listed.{winners-seen}
use Rattle.nextest_settings.proofs.pass.open_winners.Goals as goal

pub walk_open_rows-requires-clause-answers : goal.walk_open_rows-requires-clause-answers
walk_open_rows-requires-clause-answers g c = λ rule. tt

pub returns-clause-winners : goal.returns-clause-winners
returns-clause-winners g c = λ known.
    let F = g.F.Filters in
    let query = test_query_by F c.args.cx.now.default_filter.now c.args.query.now in
    ap (slots_view F.meaning)
    (c.walk_open_rows.ensures.found
    (known_met (meant_override F.meaning) (λ s w. is_set w.settings c.args.mode s) query settings
    c.args.overrides.now c.args.known.now known))
    ∙ winners-seen (meant_override F.meaning) (λ s w. is_set w.settings c.args.mode s) query settings
    c.args.overrides.now

pub returns-clause-tally : goal.returns-clause-tally
returns-clause-tally g c = c.walk_open_rows.ensures.tally
