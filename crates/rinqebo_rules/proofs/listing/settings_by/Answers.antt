use Rattle.std.proofs.Common.{◌∷◌, [], ℕ, Bool, List, is_some, length, map, option_map, refl, subst, sym}
use Rattle.nextest_elements.specs.Settings.{settings}
use Rattle.nextest_engines.specs.Engines.{test_view}
use Rattle.nextest_rules.specs.Rules.{ScriptRuleUse}
use Rattle.nextest_settings.specs.Binaries.{EvaluatesOpen}
use Rattle.nextest_settings.specs.Deciding.{asked_from}
use Rattle.nextest_settings.specs.Profiles.Meaning.{profile_meaning}
use Rattle.nextest_settings.specs.Queries.{query_in}
use Rattle.nextest_settings.specs.Settings.{is_set}
use Rattle.rinqebo_rules.specs.BinaryRules.{known_overrides}
use Rattle.rinqebo_rules.proofs.listing.settings_by.Goals as goal

pub returns-in-None-clause-tally : goal.returns-in-None-clause-tally
returns-in-None-clause-tally g c =
    let F = g.F.Filters in
    let numbers = g.F.Tally.Tally.numbers in
    let profile = profile_meaning F.meaning c.args.profile.now in
    let query = query_in F.holds profile (test_view c.args.query.now) in
    let wraps : ScriptRuleUse → Bool = λ w. is_some w.scripts.run_wrapper in
    let others : List ℕ = asked_from (wraps ∷ []) (length profile.overrides) query [] profile.script_rules in
    subst (λ answers. EvaluatesOpen (known_overrides (option_map (λ known. known.now) answers)) others
    (numbers c.args.tally.now) (numbers c.settings_with_source_for.new.tally))
    (sym c.in-None.is) (
      asked_from (map (λ s w. is_set w.settings c.args.mode s) settings) 0 query [] profile.overrides,
      c.settings_with_source_for.ensures.tally,
      λ i d below. refl,
    )

pub returns-in-Some-clause-tally : goal.returns-in-Some-clause-tally
returns-in-Some-clause-tally g c =
    let F = g.F.Filters in
    let numbers = g.F.Tally.Tally.numbers in
    let profile = profile_meaning F.meaning c.args.profile.now in
    let query = query_in F.holds profile (test_view c.args.query.now) in
    let wraps : ScriptRuleUse → Bool = λ w. is_some w.scripts.run_wrapper in
    let others : List ℕ = asked_from (wraps ∷ []) (length profile.overrides) query [] profile.script_rules in
    subst (λ answers. EvaluatesOpen (known_overrides (option_map (λ known. known.now) answers)) others
    (numbers c.args.tally.now) (numbers c.settings_by_answers.new.tally))
    (sym c.in-Some.is) c.settings_by_answers.ensures.tally
