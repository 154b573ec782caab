-- What a configuration keeps of the merged tree.
use Rattle.std.specs.Prelude.{ℕ, List, map, Option, Some, option_map, string_bytes}
use Rattle.nextest_elements.specs.declared.test_group.TestGroupConfig.{TestGroupConfig}
use Rattle.nextest_tables.specs.FileTexts.{ProfileText, FileText}
use Rattle.nextest_tables.specs.View.{by_name}
use Rattle.nextest_tables.specs.Written.{Name}
use Rattle.nextest_load.specs.Config as model
use Rattle.nextest_load.specs.Config.{merged_profile}
use Rattle.nextest_load.specs.ConfigView.{groups_view, merged_profile_view}
use Rattle.nextest_load.specs.declared.loaded_config.MergedProfile.{MergedProfile}
use Rattle.nextest_load.specs.declared.merged.MergedTables.{MergedTables}

-- the parent that a profile writes
abbrev pub parent_in : MergedProfile → Option Name
parent_in p = option_map string_bytes p.inherits

-- profiles without their rules
abbrev pub profiles_of : List (Name × ProfileText) → List (Name × model.MergedProfile)
profiles_of profiles = map (λ p. (p.0, merged_profile p.1)) profiles

-- what is kept of a tree: the directory of the store, the profiles, the groups
pub record MergedText : Type 0 where
  pub store_dir : Option (List ℕ)
  pub profiles : List (Name × model.MergedProfile)
  pub groups : List (Name × Option TestGroupConfig)

-- what is kept of a file
abbrev pub tables_of : FileText → MergedText
tables_of file = record {
  store_dir = file.store_dir;
  profiles = profiles_of file.profiles;
  groups = file.groups;
}

-- what was kept
abbrev pub tables_view : MergedTables → MergedText
tables_view t = record {
  store_dir = Some (string_bytes t.store_dir);
  profiles = by_name merged_profile_view t.profiles.entries;
  groups = groups_view t.test_groups.entries;
}
