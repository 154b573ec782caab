use Rattle.std.proofs.Common.{◌≡◌, ◌++◌, map, string_bytes}
use Rattle.nextest_scripts.specs.ScriptId.{script_text}
use Rattle.nextest_scripts.specs.ScriptTexts.{setup_script_view}
use Rattle.nextest_settings.specs.Queries.{enabled_by}
use Rattle.nextest_settings.specs.View.{meant_script_rule}
use Rattle.rinqebo_changes.specs.Sides.Matched.{tests_of}
use Rattle.rinqebo_diff.specs.ListScripts.{judged}
use Rattle.rinqebo_diff.proofs.list_scripts.ids_by_rules.Given as goal

-- the ids so far, with those of the scripts that are left
abbrev pub invariant-loop-id : goal.invariant-loop-id
invariant-loop-id g l =
    let F = g.F.Filters in
    let rules = map (meant_script_rule F.meaning) l.rules in
    let tests = judged F.holds (F.meaning l.cx.default_filter.now) (tests_of l.binaries) in
    map string_bytes l.ids.items
    ++ map (λ script. script.0)
    (enabled_by tests rules (map (λ e. (script_text e.0, setup_script_view e.1)) l.id-iterator))
    ≡ map (λ script. script.0)
    (enabled_by tests rules (map (λ e. (script_text e.0, setup_script_view e.1)) l.scripts.setup.entries))
