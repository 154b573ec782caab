-- What the code keeps of the order of scripts: the ids that are in the tables, one table behind
-- another.
use Rattle.std.specs.Prelude.{◌≡◌, ◌∷◌, ◌++◌, ◌&&◌, ◌||◌, Bool, true, false, not, List, [], Option, IsSome, IfSome, String, ⊤, map, option_map}
use Rattle.std.specs.BTreeMap.{BTreeMap, get_by_text}
use Rattle.std.specs.List.{AllByRecursion}
use Rattle.std.specs.Str.{bytes_eq}
use Rattle.std.specs.declared.alloc.Global.{Global}
use Rattle.nextest_places.specs.Order.{IsOrder}
use Rattle.nextest_places.specs.Standing.{ids_view}
use Rattle.nextest_scripts.specs.ScriptId.{script_text}
use Rattle.nextest_scripts.specs.ScriptTexts.{SetupScriptText, WrapperScriptText, setup_script_view, wrapper_script_view}
use Rattle.nextest_scripts.specs.declared.script_id.ScriptId.{ScriptId}
use Rattle.nextest_scripts.specs.declared.setup_script.SetupScriptConfig.{SetupScriptConfig}
use Rattle.nextest_scripts.specs.declared.wrapper_script.WrapperScriptConfig.{WrapperScriptConfig}
use Rattle.nextest_tables.specs.Scripts.{FileScripts}
use Rattle.nextest_tables.specs.declared.file_table.ScriptsTable.{ScriptsTable}
use Rattle.nextest_tree.specs.Schema.{is_one_of}
use Rattle.nextest_sources.specs.Inputs.{SourceText}
use Rattle.nextest_tables.specs.Written.{Name}
use Rattle.nextest_load.specs.Scripts.{Section, sections_at, setup_path, old_setup_path, wrapper_path}
use Rattle.nextest_load.specs.declared.scripts.ScriptNames.{ScriptNames}

-- the names are the ids of each table in turn, those of one table in its order
abbrev pub AreIdsOf : List Section → List Name → Type 0
AreIdsOf [] names = names ≡ []
AreIdsOf (s ∷ sections) names =
    (own : List Name) × (more : List Name) × (names ≡ own ++ more) × IsOrder s.path s.text own
    × AreIdsOf sections more

-- The names are those of the scripts that sources define, the lowest first.
pub record AreScriptNames (ss : List SourceText) (names : ScriptNames) : Type 0 where
  pub setup : AreIdsOf (sections_at setup_path ss) (ids_view names.setup)
  pub old_setup : AreIdsOf (sections_at old_setup_path ss) (ids_view names.old_setup)
  pub wrapper : AreIdsOf (sections_at wrapper_path ss) (ids_view names.wrapper)

-- the first of two names in a list is the one
abbrev pub comes_first : List Name → Name → Name → Bool
comes_first [] a b = false
comes_first (n ∷ names) a b = not (bytes_eq n b) && (bytes_eq n a || comes_first names a b)

-- among the names, each of the ids comes before all ids that follow it
abbrev pub AllComeFirst : List Name → List Name → Type 0
AllComeFirst names [] = ⊤
AllComeFirst names (id ∷ ids) =
    AllByRecursion (λ other. comes_first names id other ≡ true) ids × AllComeFirst names ids

-- scripts by the texts of their ids
abbrev pub by_id : {V : Type 0} → List (ScriptId × V) → List (Name × V)
by_id es = map (λ e. (script_text e.0, e.1)) es

-- the script at a text, if one is there
abbrev pub script_at : {V : Type 0} → BTreeMap (String Global) (ScriptId × V) → Name → Option V
script_at scripts name = option_map (λ e. e.1) (get_by_text scripts name)

-- each script is under the text of its own id
abbrev pub HaveOwnIds : {V : Type 0} → BTreeMap (String Global) (ScriptId × V) → Type 0
HaveOwnIds scripts = (name : Name)
    → IfSome (get_by_text scripts name) (λ e. script_text e.0 ≡ name)

-- each script that is there is named
abbrev pub AreNamed : {V : Type 0} → List Name → (Name → Option V) → Type 0
AreNamed names scripts = (name : Name) → IsSome (scripts name) → is_one_of names name ≡ true

-- the scripts of a table that was read, by their ids
abbrev pub setup_view : List (ScriptId × SetupScriptConfig) → List (Name × SetupScriptText)
setup_view es = map (λ e. (script_text e.0, setup_script_view e.1)) es

abbrev pub wrapper_view : List (ScriptId × WrapperScriptConfig) → List (Name × WrapperScriptText)
wrapper_view es = map (λ e. (script_text e.0, wrapper_script_view e.1)) es

-- what contracts see of the tables of scripts of a file
abbrev pub tables_scripts_view : BTreeMap ScriptId SetupScriptConfig → ScriptsTable → FileScripts
tables_scripts_view script scripts = record {
  new_setup = setup_view scripts.setup.entries;
  old_setup = setup_view script.entries;
  wrapper = wrapper_view scripts.wrapper.entries;
}
