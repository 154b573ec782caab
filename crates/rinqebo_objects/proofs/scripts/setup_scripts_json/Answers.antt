use Rattle.std.proofs.Common.{◌∙◌, ◌++◌, ap, map, sym}
use Rattle.nextest_scripts.specs.ScriptId.{script_text}
use Rattle.nextest_scripts.specs.ScriptTexts.{SetupScriptText, setup_script_view}
use Rattle.nextest_scripts.specs.declared.script_id.ScriptId.{ScriptId}
use Rattle.nextest_scripts.specs.declared.setup_script.SetupScriptConfig.{SetupScriptConfig}
use Rattle.nextest_tables.specs.Written.{Name}
use Rattle.serde_json.specs.View.{view}
use Rattle.rinqebo_objects.specs.Scripts.{directories_view, setup_script_data}
use Rattle.rinqebo_objects.specs.Uses.{used_by}
use Rattle.rinqebo_objects.proofs.Gathered.{one_more}
use Rattle.rinqebo_objects.proofs.scripts.setup_scripts_json.Goals as goal

pub loop-id-preserved : goal.loop-id-preserved
loop-id-preserved c =
    let gives = setup_script_data (directories_view c.args.directories) (used_by c.args.list) in
    let read : ScriptId × SetupScriptConfig → Name × SetupScriptText = λ e. (script_text e.0, setup_script_view e.1) in
    let old = c.loop-id.entries.items in
    one_more view gives old _ c.in_ok-entry.entry (read (c.in-Some.id.now, c.in-Some.script.now))
    (map read c.next.new.self) _
    (ap (λ es. map view old ++ map gives (map read es)) (sym c.in-Some.ensures.steps) ∙ c.loop-id.invariant)
    c.in_ok-push.ensures.items c.in_ok-entry.ensures
