-- The names that files define, and which of them are known to a file.
use Rattle.std.specs.Prelude.{List, [], ◌∷◌, ◌++◌, ◌||◌, flat_map}
use Rattle.nextest_tree.specs.Schema.{is_one_of}
use Rattle.nextest_elements.specs.TestGroup.{global_text}
use Rattle.nextest_tables.specs.FileTexts.{FileText, names_in, setup_ids_of}
use Rattle.nextest_tables.specs.Written.{Name}
use Rattle.nextest_sources.specs.Causes.{NameSet}

-- The names that files define: groups of tests, setup scripts, wrapper scripts and profiles.
pub record KnownNames : Type 0 where
  pub groups : List Name
  pub setup_scripts : List Name
  pub wrapper_scripts : List Name
  pub profiles : List Name

-- the names that files define
abbrev pub known_names : List FileText → KnownNames
known_names files = record {
  groups = flat_map (λ f. names_in f.groups) files;
  setup_scripts = flat_map setup_ids_of files;
  wrapper_scripts = flat_map (λ f. f.wrapper_scripts) files;
  profiles = flat_map (λ f. names_in f.profiles) files;
}

-- the names that are known to a file: those that it or one below it defines
abbrev pub known_to : List FileText → FileText → KnownNames
known_to below f = known_names (below ++ f ∷ [])

-- The same names, as tests of being one of them.
pub record KnownSets : Type 0 where
  pub groups : NameSet
  pub setup_scripts : NameSet
  pub wrapper_scripts : NameSet
  pub profiles : NameSet

-- names as tests
abbrev pub sets_of : KnownNames → KnownSets
sets_of known = record {
  groups = is_one_of known.groups;
  setup_scripts = is_one_of known.setup_scripts;
  wrapper_scripts = is_one_of known.wrapper_scripts;
  profiles = is_one_of known.profiles;
}

-- these names, and that of the global group
abbrev pub with_global : NameSet → NameSet
with_global is_known name = is_one_of (global_text ∷ []) name || is_known name

-- the scripts of either kind
abbrev pub known_scripts : KnownSets → NameSet
known_scripts known name = known.setup_scripts name || known.wrapper_scripts name
