-- The scripts of a configuration: their ids, their configurations, and the order in which files
-- define them.
use Rattle.std.specs.Prelude.{◌≡◌, ◌⊎◌, ℕ, true, false, List, [], ◌∷◌, ◌++◌, map, ⊤}
use Rattle.std.specs.List.{AllByRecursion}
use Rattle.std.specs.Option.{option_or}
use Rattle.nextest_documents.specs.Shown.{Path}
use Rattle.nextest_rules.specs.Rules.{at_name}
use Rattle.nextest_places.specs.Order.{IsBefore}
use Rattle.nextest_places.specs.Standing.{stands_in}
use Rattle.nextest_sources.specs.Inputs.{SourceText}
use Rattle.nextest_tables.specs.FileTexts.{names_in}
use Rattle.nextest_tables.specs.Scripts.{FileScripts, AreFileScripts}
use Rattle.nextest_tables.specs.Written.{Name}
use Rattle.nextest_tree.specs.declared.key.Key.TheVariants as keys
use Rattle.nextest_tree.specs.Key.{key_text}
use Rattle.nextest_load.specs.Config.{ScriptTables}
use Rattle.nextest_load.specs.Trees.{merged_tree}

-- a table in the text of a file, by its path
pub record Section : Type 0 where
  pub path : Path
  pub text : List ℕ

-- the tables at a path, one in each source
abbrev pub sections_at : Path → List SourceText → List Section
sections_at path ss = map (λ s. record { path = path; text = s.text }) ss

-- where scripts are: the table `scripts.setup`, the old table `script`, and `scripts.wrapper`
abbrev pub setup_path : Path
setup_path = key_text keys.Scripts ∷ key_text keys.Setup ∷ []

abbrev pub old_setup_path : Path
old_setup_path = key_text keys.Script ∷ []

abbrev pub wrapper_path : Path
wrapper_path = key_text keys.Scripts ∷ key_text keys.Wrapper ∷ []

-- The tables of setup scripts, in order: `scripts.setup` of each source, the lowest first, and then
-- the old table `script` of each.
abbrev pub setup_sections : List SourceText → List Section
setup_sections ss = sections_at setup_path ss ++ sections_at old_setup_path ss

-- the tables of wrapper scripts, in order: that of the lowest source first
abbrev pub wrapper_sections : List SourceText → List Section
wrapper_sections ss = sections_at wrapper_path ss

-- One id is defined before another: it is in a table; the other is in none of the tables
-- before that one, and in that one either not at all or behind it.
pub record IsDefinedBefore (sections : List Section) (a b : Name) : Type 0 where
  pub earlier : List Section
  pub section : Section
  pub later : List Section
  pub splits : sections ≡ earlier ++ section ∷ later
  pub there : stands_in section.path section.text a ≡ true
  pub nowhere_earlier : AllByRecursion (λ s. stands_in s.path s.text b ≡ false) earlier
  pub behind : (stands_in section.path section.text b ≡ false)
      ⊎ IsBefore section.path section.text a b

-- Each of the ids is defined before all that follow it.
abbrev pub AllDefinedBefore : List Section → List Name → Type 0
AllDefinedBefore sections [] = ⊤
AllDefinedBefore sections (id ∷ ids) =
    AllByRecursion (IsDefinedBefore sections id) ids × AllDefinedBefore sections ids

-- Scripts are those of the merged tree of sources: exactly its ids, each with its configuration
-- there, in the order in which the sources define them.
pub record AreScriptsOf (ss : List SourceText) (scripts : ScriptTables) : Type 0 where
  -- what the tables of the merged tree spell
  pub file : FileScripts
  pub in_merged_tree : AreFileScripts (merged_tree ss) file
  -- a setup script is that under `scripts.setup`, or else that under the old key `script`
  pub setup : (id : Name) → at_name id scripts.setup
      ≡ option_or (at_name id file.new_setup) (at_name id file.old_setup)
  pub wrapper : (id : Name) → at_name id scripts.wrapper ≡ at_name id file.wrapper
  -- and each id is defined before all that follow it, so that it is here once
  pub setup_order : AllDefinedBefore (setup_sections ss) (names_in scripts.setup)
  pub wrapper_order : AllDefinedBefore (wrapper_sections ss) (names_in scripts.wrapper)
