use Rattle.std.proofs.Common.{◌≡◌, None, Some, inl, refl, subst, sym}
use Rattle.nextest_settings.specs.Binaries.{IsKnownFor}
use Rattle.nextest_settings.specs.Engines.{test_query_by}
use Rattle.nextest_settings.specs.View.{meant_script_rule}
use Rattle.rinqebo_rules.specs.Evaluations.{EvaluatesIf, IsNamedOpen}
use Rattle.rinqebo_rules.specs.SetupRules.{IsKnownMore}
use Rattle.rinqebo_rules.proofs.setup_rules.known_of.Goals as goal

pub returns-in-Some-clause-answer : goal.returns-in-Some-clause-answer
returns-in-Some-clause-answer g c = λ knows shown.
    let F = g.F.Filters in
    let query = test_query_by F c.args.cx.now.default_filter.now c.args.query.now in
    let rule = meant_script_rule F.meaning c.args.rule.now in
    subst (λ known. IsKnownMore query rule known (Some c.in-Some.holds)) (sym c.in-Some.is) (record {
      so = subst (IsKnownFor query rule) c.in-Some.is knows;
      named = λ names. refl;
      kept = λ none. none;
    })

pub returns-in-Some-clause-tally : goal.returns-in-Some-clause-tally
returns-in-Some-clause-tally g c = inl refl

pub returns-in-None-clause-answer : goal.returns-in-None-clause-answer
returns-in-None-clause-answer g c = λ knows shown.
    let F = g.F.Filters in
    let query = test_query_by F c.args.cx.now.default_filter.now c.args.query.now in
    let rule = meant_script_rule F.meaning c.args.rule.now in
    subst (λ known. IsKnownMore query rule known c.known_by_setup.result) (sym c.in-None.is)
    (c.known_by_setup.ensures.answer shown)

pub returns-in-None-clause-tally : goal.returns-in-None-clause-tally
returns-in-None-clause-tally g c =
    let F = g.F.Filters in
    let numbers = g.F.Tally.Tally.numbers in
    let query = test_query_by F c.args.cx.now.default_filter.now c.args.query.now in
    let rule = meant_script_rule F.meaning c.args.rule.now in
    subst (λ known. EvaluatesIf (IsNamedOpen query known (c.args.shown ≡ None) rule) c.args.number
    (numbers c.args.tally.now) (numbers c.known_by_setup.new.tally)) (sym c.in-None.is) c.known_by_setup.ensures.tally
