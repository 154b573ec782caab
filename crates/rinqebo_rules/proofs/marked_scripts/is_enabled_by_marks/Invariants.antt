use Rattle.std.proofs.Common.{◌≡◌, List, false, map, take}
use Rattle.std.specs.List.{list_any}
use Rattle.nextest_scripts.specs.ScriptId.{script_text}
use Rattle.nextest_settings.specs.Deciding.{QueryContext}
use Rattle.nextest_settings.specs.View.{meant_script_rule}
use Rattle.rinqebo_rules.proofs.Enabling.{is_used_for}
use Rattle.rinqebo_rules.specs.Unused.{is_used}
use Rattle.rinqebo_rules.proofs.marked_scripts.is_enabled_by_marks.Given as goal

-- none of the rules so far enables the script
abbrev pub invariant-loop-number : goal.invariant-loop-number
invariant-loop-number g l =
    let F = g.F.Filters in
    let rules = map (meant_script_rule F.meaning) l.rules in
    (tests : List (QueryContext F.Meaning)) → l.marks ≡ map (is_used tests) rules
    → list_any (is_used_for tests (script_text l.id)) (take l.number rules) ≡ false
