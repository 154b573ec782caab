use Rattle.std.proofs.Common.{◌∙◌, ap, map, sym}
use Rattle.std.proofs.lemmas.Iterator.Consumers.{YieldsList-end, YieldsList-from_first}
use Rattle.nextest_engines.specs.Engines.{test_view}
use Rattle.nextest_settings.specs.Profiles.Meaning.{profile_meaning}
use Rattle.nextest_scripts.specs.ScriptTexts.{SetupScriptText}
use Rattle.nextest_settings.specs.Queries.{enabled_scripts, query_in}
use Rattle.nextest_settings.specs.SetupView.{named_setup_script_view, script_id_view, scripts_left_view}
use Rattle.nextest_tables.specs.Written.{Name}
use Rattle.rinqebo_rules.proofs.ListedTests.{made_twice}
use Rattle.rinqebo_rules.proofs.scripts.setup_ids.Goals as goal

pub returns : goal.returns
returns g c =
    let F = g.F.Filters in
    let profile = profile_meaning F.meaning c.args.profile.now in
    let id : Name × SetupScriptText → Name = λ e. e.0 in
    let left = scripts_left_view c.iter-script-items.result in
    let all = YieldsList-end (YieldsList-from_first (λ x. x) scripts_left_view left
    (ap scripts_left_view c.into_iter-script-iterator.ensures.into_iter_gives)) c.loop-script.yielded
    c.loop-script.script-iterator c.loop-script.yielded_by c.next.result c.next.new.self c.in-None.is
    c.next.ensures.steps in
    c.loop-script.invariant
    ∙ sym (made_twice script_id_view (λ x. x) c.loop-script.yielded) ∙ ap (map script_id_view) all.0
    ∙ sym (made_twice id (λ s. named_setup_script_view s.script) left)
    ∙ ap (map id) (c.iter-script-items.ensures.scripts ∙ c.in_ok-scripts.ensures.scripts
    ∙ ap (λ tests. enabled_scripts tests profile)
    (sym (made_twice (query_in F.holds profile) test_view c.args.tests.now)))
