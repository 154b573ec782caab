-- What a configuration file writes, as texts, names and values.
use Rattle.std.specs.Prelude.{ℕ, List, [], ◌∷◌, ◌++◌, map, Option, Some, None, option_and_then, unwrap_or, IsTrue}
use Rattle.nextest_tree.specs.declared.key.Key.{Key}
use Rattle.nextest_tree.specs.declared.key.Key.TheVariants as keys
use Rattle.nextest_tree.specs.Node.{Node, table, array, text, Nodes, no_nodes, node, no_entries, as_text, as_array}
use Rattle.nextest_tree.specs.Node as nodes
use Rattle.nextest_tree.specs.Schema.{is_one_of}
use Rattle.nextest_elements.specs.declared.test_group.TestGroupConfig.{TestGroupConfig}
use Rattle.nextest_tables.specs.Texts.{at_key, texts_in, settings_in, fields_in, group_in, each_in, entries_at}
use Rattle.nextest_tables.specs.Written.{Name, WrittenSettings, WrittenFields}

-- the platform specs that a rule writes
pub record PlatformText : Type 0 where
  pub host : Option (List ℕ)
  pub target : Option (List ℕ)

-- the platform specs that a node spells: a text is the target's, a table has both
abbrev pub platform_in : Option Node → PlatformText
platform_in None = record { host = None; target = None }
platform_in (Some (text s)) = record { host = None; target = Some s }
platform_in (Some n) = record {
  host = option_and_then as_text (at_key keys.Host n);
  target = option_and_then as_text (at_key keys.Target n);
}

-- the text at a key
abbrev pub text_at_key : Key → Node → Option (List ℕ)
text_at_key k n = option_and_then as_text (at_key k n)

-- an override as its file writes it
pub record OverrideText : Type 0 where
  pub platform : PlatformText
  pub filter : Option (List ℕ)
  pub default_filter : Option (List ℕ)
  pub settings : WrittenSettings

-- what an override says
abbrev pub override_text : Node → OverrideText
override_text n = record {
  platform = platform_in (at_key keys.Platform n);
  filter = text_at_key keys.Filter n;
  default_filter = text_at_key keys.DefaultFilter n;
  settings = settings_in n;
}

-- the scripts that a rule names: setup scripts, what wraps the listing of tests, what wraps their
-- run
pub record ScriptUse : Type 0 where
  pub setup : List Name
  pub list_wrapper : Option Name
  pub run_wrapper : Option Name

-- the ids that a node spells: one, or a list of them
abbrev pub ids_in : Node → List Name
ids_in (text s) = s ∷ []
ids_in (array ns) = unwrap_or (texts_in ns) []
ids_in _ = []

-- the ids that a node spells, none where there is no node
abbrev pub ids_at : Option Node → List Name
ids_at None = []
ids_at (Some n) = ids_in n

-- a script rule as its file writes it
pub record ScriptRuleText : Type 0 where
  pub platform : PlatformText
  pub filter : Option (List ℕ)
  pub scripts : ScriptUse

-- what a script rule says
abbrev pub script_rule_text : Node → ScriptRuleText
script_rule_text n = record {
  platform = platform_in (at_key keys.Platform n);
  filter = text_at_key keys.Filter n;
  scripts = record {
    setup = ids_at (at_key keys.Setup n);
    list_wrapper = text_at_key keys.ListWrapper n;
    run_wrapper = text_at_key keys.RunWrapper n;
  };
}

-- a profile as its file writes it
pub record ProfileText : Type 0 where
  pub parent : Option Name
  pub default_filter : Option (List ℕ)
  pub fields : WrittenFields
  pub overrides : List OverrideText
  pub script_rules : List ScriptRuleText

-- what f reads in each item
abbrev pub each_node : {X : Type 0} → (Node → X) → Nodes → List X
each_node f no_nodes = []
each_node f (node n ns) = f n ∷ each_node f ns

-- what f reads in each item of the array at a key, nothing where there is no array
abbrev pub items_at : {X : Type 0} → (Node → X) → Key → Node → List X
items_at f k n = each_node f (unwrap_or (option_and_then as_array (at_key k n)) no_nodes)

-- what a profile says
abbrev pub profile_text : Node → ProfileText
profile_text n = record {
  parent = text_at_key keys.Inherits n;
  default_filter = text_at_key keys.DefaultFilter n;
  fields = fields_in n;
  overrides = items_at override_text keys.Overrides n;
  script_rules = items_at script_rule_text keys.Scripts n;
}

-- a whole file: the directory of its store, the groups and scripts that it defines, and its
-- profiles
pub record FileText : Type 0 where
  pub store_dir : Option (List ℕ)
  pub groups : List (Name × Option TestGroupConfig)
  -- the ids of setup scripts under `scripts.setup`, and of those under the old key `script`
  pub new_setup_scripts : List Name
  pub old_setup_scripts : List Name
  pub wrapper_scripts : List Name
  pub profiles : List (Name × ProfileText)

-- the keys of the table at a key
abbrev pub names_at : Key → Node → List Name
names_at k n = nodes.keys (entries_at k n)

-- the table of scripts of a file, an empty one where there is none
abbrev pub scripts_table : Node → Node
scripts_table n = unwrap_or (at_key keys.Scripts n) (table no_entries)

-- what a whole file says
abbrev pub file_text : Node → FileText
file_text n = record {
  store_dir = option_and_then (text_at_key keys.Dir) (at_key keys.Store n);
  groups = each_in group_in (entries_at keys.TestGroups n);
  new_setup_scripts = names_at keys.Setup (scripts_table n);
  old_setup_scripts = names_at keys.Script n;
  wrapper_scripts = names_at keys.Wrapper (scripts_table n);
  profiles = each_in profile_text (entries_at keys.Profile n);
}

-- the names of what is in a table
abbrev pub names_in : {X : Type 0} → List (Name × X) → List Name
names_in es = map (λ e. e.0) es

-- a name is among names
abbrev pub IsIn : List Name → Name → Type 0
IsIn names name = IsTrue (is_one_of names name)

-- the ids of the setup scripts that a file defines, under either key
abbrev pub setup_ids_of : FileText → List Name
setup_ids_of f = f.new_setup_scripts ++ f.old_setup_scripts

-- the ids of the scripts that a file defines under `scripts`, of both kinds
abbrev pub new_ids_of : FileText → List Name
new_ids_of f = f.new_setup_scripts ++ f.wrapper_scripts

-- the ids of the scripts that a file defines, of both kinds
abbrev pub script_ids_of : FileText → List Name
script_ids_of f = setup_ids_of f ++ f.wrapper_scripts
