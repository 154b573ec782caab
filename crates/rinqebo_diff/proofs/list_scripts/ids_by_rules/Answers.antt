use Rattle.std.proofs.Common.{◌∙◌, ◌++◌, ap, append-nil, map, string_bytes, sym}
use Rattle.nextest_scripts.specs.ScriptId.{script_text}
use Rattle.nextest_scripts.specs.ScriptTexts.{setup_script_view}
use Rattle.nextest_settings.specs.Queries.{enabled_by}
use Rattle.nextest_settings.specs.View.{meant_script_rule}
use Rattle.rinqebo_changes.specs.Sides.Matched.{tests_of}
use Rattle.rinqebo_diff.specs.ListScripts.{judged}
use Rattle.rinqebo_diff.proofs.list_scripts.ids_by_rules.Goals as goal

pub returns : goal.returns
returns g c =
    let F = g.F.Filters in
    let rules = map (meant_script_rule F.meaning) c.args.rules.now in
    let tests = judged F.holds (F.meaning c.args.cx.now.default_filter.now) (tests_of c.args.binaries.now) in
    let ids = map string_bytes c.loop-id.ids.items in
    sym (append-nil ids)
    ∙ ap (λ left. ids ++ map (λ script. script.0)
    (enabled_by tests rules (map (λ e. (script_text e.0, setup_script_view e.1)) left)))
    (sym c.in-None.ensures.steps.0)
    ∙ c.loop-id.invariant
