use Rattle.std.proofs.Common.{◌≡◌, ◌∙◌, IfOk, ap, map, string_bytes, subst, sym}
use Rattle.nextest_settings.specs.Profiles.Meaning.{profile_meaning}
use Rattle.nextest_settings.specs.Queries.{enabled_by}
use Rattle.nextest_settings.specs.View.{evaluated_script_rule_view, meant_script_rule}
use Rattle.rinqebo_rules.proofs.ScriptRules.{meant_scripts}
use Rattle.rinqebo_rules.specs.Unused.{is_used}
use Rattle.rinqebo_rules.proofs.unused.UsedRules.setup_scripts.Goals as goal

pub returns : goal.returns
returns g c = λ tests mode are.
    let F = g.F.Filters in
    let profile = c.args.profile.now in
    let meaning = profile_meaning F.meaning profile in
    let same = meant_scripts F.meaning profile c.deref.result.now
    (ap (map evaluated_script_rule_view) c.deref.ensures.value ∙ c.rules-rules.ensures.script_rules) in
    subst (λ rules. IfOk c.ids_by_marks.result (λ ids. map string_bytes ids.items
    ≡ map (λ script. script.0) (enabled_by tests rules meaning.facts.scripts.setup))) same
    (subst (λ scripts. IfOk c.ids_by_marks.result (λ ids. map string_bytes ids.items
    ≡ map (λ script. script.0) (enabled_by tests (map (meant_script_rule F.meaning) c.deref.result.now) scripts.setup))) c.script_config-scripts.ensures
    (c.ids_by_marks.ensures tests
    (c.deref-2.ensures.value ∙ are.script_rules ∙ sym (ap (map (is_used tests)) same))))
