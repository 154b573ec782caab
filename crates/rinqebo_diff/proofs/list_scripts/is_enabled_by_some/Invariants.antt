use Rattle.std.proofs.Common.{◌≡◌, map, drop}
use Rattle.std.specs.List.{list_any}
use Rattle.nextest_scripts.specs.ScriptId.{script_text}
use Rattle.nextest_settings.specs.Queries.{is_enabled_for}
use Rattle.nextest_settings.specs.View.{meant_script_rule}
use Rattle.rinqebo_changes.specs.Sides.Matched.{tests_of}
use Rattle.rinqebo_diff.specs.ListScripts.{judged}
use Rattle.rinqebo_diff.proofs.list_scripts.is_enabled_by_some.Given as goal

-- the tests of the binaries that are left are those that decide
abbrev pub invariant-loop-binary : goal.invariant-loop-binary
invariant-loop-binary g l =
    let F = g.F.Filters in
    let rules = map (meant_script_rule F.meaning) l.rules in
    let default = F.meaning l.cx.default_filter.now in
    list_any (λ query. is_enabled_for query rules (script_text l.id))
    (judged F.holds default (tests_of (drop l.binary-index l.binaries)))
    ≡ list_any (λ query. is_enabled_for query rules (script_text l.id))
    (judged F.holds default (tests_of l.binaries))
