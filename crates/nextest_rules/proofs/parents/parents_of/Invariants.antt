use Rattle.std.proofs.Common.{◌≡◌, List, ◌++◌, map, String, Global, string_bytes, option_map}
use Rattle.std.specs.Map.{keys_of}
use Rattle.nextest_inheritance.specs.View.{parents_view}
use Rattle.nextest_tables.specs.View.{by_name, profile_view}
use Rattle.nextest_tables.specs.declared.profile_table.ProfileTable.{ProfileTable}
use Rattle.nextest_rules.specs.Steps.{written_parents}
use Rattle.nextest_rules.proofs.parents.parents_of.Given as goal

-- the parents so far, and the profiles that are left
abbrev pub invariant-loop-name : goal.invariant-loop-name
invariant-loop-name l =
    ((done : List (String Global × ProfileTable)) × (l.profiles.entries ≡ done ++ l.name-iterator)
    × (map string_bytes (keys_of l.parents.entries) ≡ map string_bytes (keys_of done)))
    × (parents_view (λ parent. option_map string_bytes parent.0) l.parents.entries
    ++ written_parents (by_name profile_view l.name-iterator)
    ≡ written_parents (by_name profile_view l.profiles.entries))
