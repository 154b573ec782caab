-- What stays of a table that was read once its rules are taken.
use Rattle.std.specs.Prelude.{◌≡◌, List, [], map, None, Some, string_bytes}
use Rattle.nextest_tables.specs.Complete.{IsMergedTree}
use Rattle.nextest_tables.specs.FileTexts.{ProfileText, FileText, file_text}
use Rattle.nextest_tables.specs.Scripts.{AreFileScripts, file_scripts_view}
use Rattle.nextest_tables.specs.View.{by_name, file_table_view}
use Rattle.nextest_tables.specs.Written.{Name, WrittenFields}
use Rattle.nextest_tables.specs.declared.file_table.FileTable.{FileTable}
use Rattle.nextest_tree.specs.Node.{Node}
use Rattle.nextest_load.specs.Closed.{HasDefaults}
use Rattle.nextest_load.specs.ConfigView.{groups_view, merged_profile_view}
use Rattle.nextest_load.specs.Merged.{MergedText, tables_of}
use Rattle.nextest_load.specs.Steps.{element_cause}
use Rattle.nextest_load.specs.declared.kept.KeptTable.{KeptTable}

-- fields of which none is written
abbrev pub no_fields : WrittenFields
no_fields = record {
  retries = None;
  flaky_result = None;
  test_threads = None;
  threads_required = None;
  run_extra_args = None;
  status_level = None;
  final_status_level = None;
  failure_output = None;
  success_output = None;
  max_fail = None;
  slow_timeout = None;
  global_timeout = None;
  leak_timeout = None;
  junit = None;
  bench = None;
}

-- a profile without its fields
abbrev pub without_fields : ProfileText → ProfileText
without_fields p = record {
  parent = p.parent;
  default_filter = p.default_filter;
  fields = no_fields;
  overrides = p.overrides;
  script_rules = p.script_rules;
}

-- profiles without their fields
abbrev pub all_without_fields : List (Name × ProfileText) → List (Name × ProfileText)
all_without_fields ps = map (λ p. (p.0, without_fields p.1)) ps

-- a file without its profiles
abbrev pub without_profiles : FileText → FileText
without_profiles f = record {
  store_dir = f.store_dir;
  groups = f.groups;
  new_setup_scripts = f.new_setup_scripts;
  old_setup_scripts = f.old_setup_scripts;
  wrapper_scripts = f.wrapper_scripts;
  profiles = [];
}

-- a file that has these profiles and nothing else
abbrev pub profiles_alone : List (Name × ProfileText) → FileText
profiles_alone ps = record {
  store_dir = Some [];
  groups = [];
  new_setup_scripts = [];
  old_setup_scripts = [];
  wrapper_scripts = [];
  profiles = ps;
}

-- what was kept
abbrev pub kept_view : KeptTable → MergedText
kept_view k = record {
  store_dir = Some (string_bytes k.rest.store_dir);
  profiles = by_name merged_profile_view k.profiles.entries;
  groups = groups_view k.rest.test_groups.entries;
}

-- What was kept is all of a table but its rules.
pub record IsKeptOf (table : FileTable) (kept : KeptTable) : Type 0 where
  pub means : kept_view kept ≡ tables_of (file_table_view table)
  pub scripts : file_scripts_view kept.rest ≡ file_scripts_view table

-- What was kept is what a tree without fault says, but for its rules.
pub record IsKept (n : Node) (kept : KeptTable) : Type 0 where
  pub no_fault : element_cause n ≡ None
  pub means : kept_view kept ≡ tables_of (file_text n)
  pub scripts : AreFileScripts n (file_scripts_view kept.rest)
  -- the profile `default` is complete, where each source has no fault over the defaults
  pub defaults : (files : List Node) → IsMergedTree files n → HasDefaults (kept_view kept).profiles
