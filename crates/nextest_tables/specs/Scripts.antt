-- The scripts that a file defines.
use Rattle.std.specs.Prelude.{List, map}
use Rattle.nextest_tree.specs.declared.key.Key.TheVariants as keys
use Rattle.nextest_tree.specs.Node.{Node, Entries}
use Rattle.nextest_tree.specs.Reads.{IsMap}
use Rattle.nextest_scripts.specs.ScriptId.{script_text}
use Rattle.nextest_scripts.specs.ScriptTexts.{SetupScriptText, WrapperScriptText, setup_script_view, wrapper_script_view, SpellsSetupScript, SpellsWrapperScript}
use Rattle.nextest_tables.specs.FileTexts.{scripts_table}
use Rattle.nextest_tables.specs.Texts.{entries_at}
use Rattle.nextest_tables.specs.Written.{Name}
use Rattle.nextest_tables.specs.declared.file_table.FileTable.{FileTable}

-- The scripts that a file defines, by their ids: setup scripts under `scripts.setup` and under the
-- old key `script`, and wrapper scripts.
pub record FileScripts : Type 0 where
  pub new_setup : List (Name × SetupScriptText)
  pub old_setup : List (Name × SetupScriptText)
  pub wrapper : List (Name × WrapperScriptText)

-- the entries of a table spell these scripts, one each, under the same keys
abbrev pub SpellByName : {X : Type 0} → (Node → X → Type 0) → Entries → List (Name × X) → Type 0
SpellByName P es xs = IsMap (λ name. name) P es xs

-- The scripts of a file are exactly those that its tables spell, under their ids.
pub record AreFileScripts (n : Node) (scripts : FileScripts) : Type 0 where
  pub new_setup : SpellByName SpellsSetupScript (entries_at keys.Setup (scripts_table n))
      scripts.new_setup
  pub old_setup : SpellByName SpellsSetupScript (entries_at keys.Script n) scripts.old_setup
  pub wrapper : SpellByName SpellsWrapperScript (entries_at keys.Wrapper (scripts_table n))
      scripts.wrapper

-- what contracts see of the scripts of a file
abbrev pub file_scripts_view : FileTable → FileScripts
file_scripts_view f = record {
  new_setup = map (λ e. (script_text e.0, setup_script_view e.1)) f.scripts.setup.entries;
  old_setup = map (λ e. (script_text e.0, setup_script_view e.1)) f.script.entries;
  wrapper = map (λ e. (script_text e.0, wrapper_script_view e.1)) f.scripts.wrapper.entries;
}
