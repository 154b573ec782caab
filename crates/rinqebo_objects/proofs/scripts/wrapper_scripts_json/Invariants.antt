use Rattle.std.proofs.Common.{◌≡◌, ◌++◌, map}
use Rattle.nextest_scripts.specs.ScriptId.{script_text}
use Rattle.nextest_scripts.specs.ScriptTexts.{wrapper_script_view}
use Rattle.serde_json.specs.View.{view}
use Rattle.rinqebo_objects.specs.Scripts.{directories_view, wrapper_script_data}
use Rattle.rinqebo_objects.specs.Used.{wrappers_used}
use Rattle.rinqebo_objects.specs.Uses.{used_by}
use Rattle.rinqebo_objects.proofs.scripts.wrapper_scripts_json.Given as goal

-- the scripts so far, with those that are left
abbrev pub invariant-loop-id : goal.invariant-loop-id
invariant-loop-id l =
    let used = used_by l.list in
    let told = wrapper_script_data (directories_view l.directories) in
    map view l.entries.items
    ++ map told (wrappers_used used (map (λ e. (script_text e.0, wrapper_script_view e.1)) l.id-iterator))
    ≡ map told (wrappers_used used (map (λ e. (script_text e.0, wrapper_script_view e.1)) l.scripts.entries))
