-- Groups of tests.
use Rattle.std.specs.Prelude.{◌≡◌, ℕ, List, Option, Some, option_map, Result, Ok, Err, codes, if◌then◌else◌}
use Rattle.std.specs.Str.{bytes_eq}
use Rattle.nextest_tree.specs.declared.key.Key.TheVariants.{MaxThreads}
use Rattle.nextest_elements.specs.declared.test_group.CustomTestGroup.{CustomTestGroup}
use Rattle.nextest_elements.specs.declared.test_group.TestGroup.{TestGroup}
use Rattle.nextest_elements.specs.declared.test_group.TestGroup.TheVariants as groups
use Rattle.nextest_elements.specs.declared.test_group.TestGroupConfig.{TestGroupConfig}
use Rattle.nextest_tree.specs.Key.{key_text}
use Rattle.nextest_tree.specs.Node.{Node, text, Entries, get}
use Rattle.nextest_tree.specs.Schema.{FaultCause, wrong_kind, bad_value, Schema, struct, Fields, must, no_more}
use Rattle.nextest_tree.specs.Leaf.{value, leaf_at}
use Rattle.nextest_elements.specs.Identifier.{is_identifier}
use Rattle.nextest_elements.specs.IdentifierText.{identifier_text}
use Rattle.nextest_elements.specs.IdentifierReader.{identifier_expected, IsIdentifierAt}
use Rattle.nextest_elements.specs.TestThreads.{test_threads_at, a_test_threads}

-- the text of a custom group
abbrev pub custom_group_text : CustomTestGroup → List ℕ
custom_group_text group = identifier_text group.0

-- the node spells the custom group
abbrev pub IsCustomGroup : Node → CustomTestGroup → Type 0
IsCustomGroup n group = IsIdentifierAt n group.0

-- the text of the global group
unfoldable pub global_text : List ℕ
global_text = codes "@global"

-- the text of a group
abbrev pub group_text : TestGroup → List ℕ
group_text groups.Global = global_text
group_text (groups.Custom group) = custom_group_text group

-- the group of a text: the global one, or the custom one of an identifier
abbrev pub test_group_at : Node → Result TestGroup FaultCause
test_group_at (text s) =
    if bytes_eq s global_text then Ok groups.Global
    else if is_identifier s then Ok (groups.Custom (record { 0 = s }))
    else Err (bad_value s identifier_expected)
test_group_at _ = Err wrong_kind

-- a text that is a group's
unfoldable pub a_test_group : Schema
a_test_group = value test_group_at

-- the one field of a group's table
abbrev pub group_fields : Fields
group_fields = must MaxThreads a_test_threads no_more

-- what the field of a group's table says, where it is there
abbrev pub group_table : Entries → Option TestGroupConfig
group_table es = option_map (λ threads. record { max_threads = threads })
    (leaf_at test_threads_at (get (key_text MaxThreads) es))

-- the table of a group
abbrev pub IsGroupTable : Entries → TestGroupConfig → Type 0
IsGroupTable es config = group_table es ≡ Some config

-- a table of this field
abbrev pub group_config : Schema
group_config = struct group_fields
