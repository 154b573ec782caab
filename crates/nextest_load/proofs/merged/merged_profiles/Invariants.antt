use Rattle.std.proofs.Common.{◌≡◌, List, ◌++◌, map, String, Global, string_bytes}
use Rattle.std.specs.Map.{keys_of}
use Rattle.nextest_tables.specs.View.{by_name, profile_view}
use Rattle.nextest_tables.specs.declared.profile_table.ProfileTable.{ProfileTable}
use Rattle.nextest_load.specs.ConfigView.{merged_profile_view}
use Rattle.nextest_load.specs.Merged.{profiles_of}
use Rattle.nextest_load.proofs.merged.merged_profiles.Given as goal

-- what was taken so far, and what is left
abbrev pub invariant-loop-name : goal.invariant-loop-name
invariant-loop-name l =
    ((done : List (String Global × ProfileTable)) × (l.fn.profiles.entries ≡ done ++ l.name-iterator)
    × (map string_bytes (keys_of l.merged.entries) ≡ map string_bytes (keys_of done)))
    × (by_name merged_profile_view l.merged.entries ++ profiles_of (by_name profile_view l.name-iterator)
    ≡ profiles_of (by_name profile_view l.fn.profiles.entries))
