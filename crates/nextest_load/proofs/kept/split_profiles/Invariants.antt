use Rattle.std.proofs.Common.{◌≡◌, List, ◌++◌, map, String, Global, string_bytes}
use Rattle.std.specs.Map.{keys_of}
use Rattle.nextest_tables.specs.View.{by_name, profile_view}
use Rattle.nextest_tables.specs.declared.profile_table.ProfileTable.{ProfileTable}
use Rattle.nextest_load.specs.ConfigView.{merged_profile_view}
use Rattle.nextest_load.specs.Kept.{all_without_fields}
use Rattle.nextest_load.specs.Merged.{profiles_of}
use Rattle.nextest_load.proofs.kept.split_profiles.Given as goal

-- what was taken so far, and what is left
abbrev pub invariant-loop-name : goal.invariant-loop-name
invariant-loop-name l =
    ((done : List (String Global × ProfileTable)) × (l.fn.profiles.entries ≡ done ++ l.name-iterator)
    × (map string_bytes (keys_of l.rules.entries) ≡ map string_bytes (keys_of done))
    × (map string_bytes (keys_of l.kept.entries) ≡ map string_bytes (keys_of done)))
    × (by_name profile_view l.rules.entries ++ all_without_fields (by_name profile_view l.name-iterator)
    ≡ all_without_fields (by_name profile_view l.fn.profiles.entries))
    × (by_name merged_profile_view l.kept.entries ++ profiles_of (by_name profile_view l.name-iterator)
    ≡ profiles_of (by_name profile_view l.fn.profiles.entries))
