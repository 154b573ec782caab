use Rattle.std.proofs.Common.{◌∙◌, ap}
use Rattle.nextest_engines.specs.Engines.{test_view}
use Rattle.filter_language.specs.Filtersets.{marks_view, says_true}
use Rattle.filter_language.proofs.MarksTell.{marks_truth}
use Rattle.filter_language.proofs.filterset.Filterset.matches_test.Goals as goal

pub returns-clause-truth : goal.returns-clause-truth
returns-clause-truth g c =
    λ d f known below spells fits.
    marks_truth g.E.Matchers.accepts (marks_view g.E.Matchers.meaning c.args.default.now)
    (marks_view g.E.Matchers.meaning c.args.self.now) d f (test_view c.args.query.now) _
    (c.is_true.ensures ∙ ap says_true c.value_beside.ensures) known below spells fits
