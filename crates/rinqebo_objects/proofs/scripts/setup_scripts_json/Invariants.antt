use Rattle.std.proofs.Common.{◌≡◌, ◌++◌, map}
use Rattle.nextest_scripts.specs.ScriptId.{script_text}
use Rattle.nextest_scripts.specs.ScriptTexts.{setup_script_view}
use Rattle.serde_json.specs.View.{view}
use Rattle.rinqebo_objects.specs.Scripts.{directories_view, setup_script_data}
use Rattle.rinqebo_objects.specs.Uses.{used_by}
use Rattle.rinqebo_objects.proofs.scripts.setup_scripts_json.Given as goal

-- the scripts so far, with those that are left
abbrev pub invariant-loop-id : goal.invariant-loop-id
invariant-loop-id l =
    let told = setup_script_data (directories_view l.directories) (used_by l.list) in
    map view l.entries.items ++ map told (map (λ e. (script_text e.0, setup_script_view e.1)) l.id-iterator)
    ≡ map told (map (λ e. (script_text e.0, setup_script_view e.1)) l.scripts.entries)
