-- The groups that filters may name.
use Rattle.std.specs.BTreeSet.{contains_text}
use Rattle.std.specs.Prelude.{◌≡◌, List}
use Rattle.nextest_tables.specs.Written.{Name}
use Rattle.nextest_tree.specs.Schema.{is_one_of}
use Rattle.nextest_settings.specs.declared.profiles.known_groups.KnownGroups.{KnownGroups}
use Rattle.nextest_settings.specs.declared.profiles.known_groups.KnownGroups.TheVariants.{Known, Unavailable}

-- the groups are known, and are those of these names
abbrev pub IsKnownGroups : List Name → KnownGroups → Type 0
IsKnownGroups names (Known custom_groups) =
    (name : Name) → contains_text custom_groups name ≡ is_one_of names name
IsKnownGroups names Unavailable = ⊥
