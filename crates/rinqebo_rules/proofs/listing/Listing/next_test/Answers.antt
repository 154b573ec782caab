use Rattle.std.proofs.Common.{◌∙◌, ◌∷◌, [], ℕ, Bool, List, is_some, length, option_map, subst, sym}
use Rattle.nextest_engines.specs.Engines.{test_view}
use Rattle.nextest_rules.specs.Rules.{ScriptRuleUse}
use Rattle.nextest_settings.specs.Binaries.{EvaluatesOpen}
use Rattle.nextest_settings.specs.Deciding.{asked_from}
use Rattle.nextest_settings.specs.Profiles.Meaning.{profile_meaning}
use Rattle.nextest_settings.specs.Queries.{query_in}
use Rattle.rinqebo_rules.specs.BinaryRules.{AreKnownIn, known_overrides, known_script_rules}
use Rattle.rinqebo_rules.specs.Evaluations.{EvaluatesBeside, IsTurnedTo}
use Rattle.rinqebo_rules.proofs.BinaryRules.{overrides_known, script_rules_known}
use Rattle.rinqebo_rules.proofs.listing.Listing.next_test.Goals as goal

pub returns-clause-told : goal.returns-clause-told
returns-clause-told g c =
    rw c.turn_to.ensures.lister
    at (c.in_ok-rows.ensures.told (c.settings_by-settings.ensures.settings c.answers_at-answers.ensures.answers))

pub returns-clause-used : goal.returns-clause-used
returns-clause-used g c = λ tests are.
    let F = g.F.Filters in
    let lister = c.args.self.now.lister in
    let profile = profile_meaning F.meaning lister.profile.now in
    let test = test_view c.args.test.now.query in
    let query = query_in F.holds profile test in
    let speak = g.met.F.Filters.binaries_speak in
    let answers = c.answers_at-answers.result in
    let same = c.turn_to.ensures.lister in
    let decided = rw same at c.answers_at-answers.ensures.answers in
    (rw same at c.add.ensures.used) tests lister.mode
    (subst (AreKnownIn query profile.overrides) (sym c.override_answers.ensures)
    (overrides_known F.holds F.holds_binary speak profile test answers decided))
    (subst (AreKnownIn query profile.script_rules) (sym c.script_rule_answers.ensures)
    (script_rules_known F.holds F.holds_binary speak profile test answers decided))
    (rw same at (c.settings_by-settings.ensures.settings c.answers_at-answers.ensures.answers)) are

pub returns-clause-tally : goal.returns-clause-tally
returns-clause-tally g c = λ tests turned are.
    let F = g.F.Filters in
    let numbers = g.F.Tally.Tally.numbers in
    let lister = c.args.self.now.lister in
    let profile = profile_meaning F.meaning lister.profile.now in
    let test = test_view c.args.test.now.query in
    let query = query_in F.holds profile test in
    let same = c.turn_to.ensures.lister in
    let stays = c.turn_to.ensures.turned turned in
    let known = c.answers_at-answers.ensures.turned (subst (λ answers. IsTurnedTo answers test.binary) (sym stays.0) turned)
    ∙ stays.0 in
    let wraps : ScriptRuleUse → Bool = λ w. is_some w.scripts.run_wrapper in
    let others : List ℕ = asked_from (wraps ∷ []) (length profile.overrides) query [] profile.script_rules in
    let settled = numbers c.settings_by-settings.new.tally in
    let marked = numbers c.add.new.tally in
    let used = c.args.used.now in
    let searched = rw same at c.settings_by-settings.ensures.tally in
    let beside = (rw same at c.add.ensures.tally) tests lister.mode
    (rw same at (c.settings_by-settings.ensures.settings c.answers_at-answers.ensures.answers)) are in (
      settled,
      marked,
      subst (λ answers. EvaluatesOpen (known_overrides answers) others (numbers c.args.tally.now) settled) known
          (subst (λ tally. EvaluatesOpen (known_overrides (option_map (λ known. known.now) c.answers_at-answers.result))
          others (numbers tally) settled) stays.1 searched),
      subst (λ answers. EvaluatesBeside tests query lister.mode profile used (known_overrides answers)
          (known_script_rules answers) settled marked) known
          (subst (λ ks. EvaluatesBeside tests query lister.mode profile used ks
          (known_script_rules (option_map (λ known. known.now) c.answers_at-answers.result)) settled marked)
          c.override_answers.ensures
          (subst (λ ks. EvaluatesBeside tests query lister.mode profile used c.override_answers.result.now ks settled marked)
          c.script_rule_answers.ensures beside)),
      c.in_ok-rows.ensures.tally,
    )
