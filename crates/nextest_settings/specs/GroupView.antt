-- What contracts see of the groups of tests.
use Rattle.std.specs.BTreeMap.{get_by_text}
use Rattle.std.specs.Prelude.{ℕ, List, Option, option_and_then, option_map, unwrap_or}
use Rattle.nextest_elements.specs.declared.test_group.CustomTestGroup.{CustomTestGroup}
use Rattle.nextest_elements.specs.declared.test_group.TestGroup.{TestGroup}
use Rattle.nextest_elements.specs.declared.test_group.TestGroup.TheVariants.{Global, Custom}
use Rattle.nextest_settings.specs.declared.groups.PrecomputedGroupMembership.{PrecomputedGroupMembership}

-- the custom group that the test of a binary and a name has, if it has one
abbrev pub custom_group_in : PrecomputedGroupMembership → (binary_id name : List ℕ)
    → Option CustomTestGroup
custom_group_in m binary_id name =
    option_and_then (λ tests. get_by_text tests name) (get_by_text m.groups binary_id)

-- the group of the test of a binary and a name
abbrev pub membership_group : PrecomputedGroupMembership → (binary_id name : List ℕ) → TestGroup
membership_group m binary_id name =
    unwrap_or (option_map (λ group. Custom group) (custom_group_in m binary_id name)) Global
