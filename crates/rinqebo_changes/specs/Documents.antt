-- A diff as JSON: objects with their keys in the order of bytes.
use Rattle.std.specs.Prelude.{◌≡◌, ℕ, true, List, [], ◌∷◌, ◌++◌, length, map, flat_map, codes, if◌then◌else◌}
use Rattle.serde_json.specs.Data.{Data, boolean, string, array, object, Members, no_members, member}
use Rattle.serde_json.specs.View.{items_of}
use Rattle.serde_json.specs.Written.{compact_text}
use Rattle.rinqebo_report.specs.Documents.{count_data, text_data, optional_text_data, list_data, optional_value_data, origin_data, source_data, test_id_data}
use Rattle.rinqebo_report.specs.Headers.{mode_word}
use Rattle.rinqebo_changes.specs.declared.change.RowChange.{RowChange}
use Rattle.rinqebo_changes.specs.declared.change.SideRow.{SideRow}
use Rattle.rinqebo_changes.specs.declared.classes.Item.{Item}
use Rattle.rinqebo_changes.specs.declared.diff.Diff.{Diff}
use Rattle.rinqebo_changes.specs.declared.diff.Side.{Side}
use Rattle.rinqebo_changes.specs.declared.groups.Group.{Group}
use Rattle.rinqebo_changes.specs.Groups.{AreGroups}

-- a setting as a side gives it: its key, its origins and its value
abbrev pub given_members : SideRow → Members
given_members given =
    member (codes "key") (text_data given.row.key)
    (member (codes "origins") (list_data origin_data given.row.origins.items)
    (member (codes "value") (optional_value_data given.row.value) no_members))

-- what a side gives to a setting: the row `runs` of a test that a list gives as ignored has a
-- member for it
abbrev pub given_data : SideRow → Data
given_data given =
    if given.is_ignored
    then object (member (codes "ignored") (boolean true) (given_members given))
    else object (given_members given)

-- a change of the whole run
abbrev pub change_data : RowChange → Data
change_data row =
    object (member (codes "from") (given_data row.from)
    (member (codes "to") (given_data row.to) no_members))

-- the test of a change
abbrev pub item_data : Item → Data
item_data item = test_id_data item.test.now

-- the tests of a group
abbrev pub group_tests_data : Group → Data
group_tests_data group =
    array (items_of (flat_map (λ binary. map item_data binary.items.items) group.binaries.items))

-- a change and its tests
abbrev pub group_data : Group → Data
group_data group =
    object (member (codes "from") (given_data group.head.row.now.from)
    (member (codes "tests") (group_tests_data group)
    (member (codes "to") (given_data group.head.row.now.to) no_members)))

-- a side: its profile, mode and platforms, and its sources
abbrev pub side_data : Side → Data
side_data side =
    object (member (codes "chain") (list_data text_data side.asked.chain.items)
    (member (codes "host") (text_data side.asked.host)
    (member (codes "mode") (string (mode_word side.asked.mode))
    (member (codes "profile") (text_data side.asked.profile)
    (member (codes "root") (text_data side.root)
    (member (codes "sources") (list_data source_data side.sources.items)
    (member (codes "target") (optional_text_data side.asked.target) no_members)))))))

-- a diff, whose changes are in groups
abbrev pub diff_data : Diff → List Group → Data
diff_data diff groups =
    object (member (codes "added") (list_data test_id_data diff.added.items)
    (member (codes "changed") (count_data (length diff.changed.items))
    (member (codes "changes") (list_data group_data groups)
    (member (codes "command") (string (codes "diff"))
    (member (codes "compared") (count_data diff.compared)
    (member (codes "from") (side_data diff.from)
    (member (codes "removed") (list_data test_id_data diff.removed.items)
    (member (codes "run") (list_data change_data diff.run.items)
    (member (codes "to") (side_data diff.to)
    (member (codes "version") (count_data 1) no_members))))))))))

-- A document is that of a diff: its changes are in groups, and it has what they are.
pub record IsDiffDocument (diff : Diff) (document : Data) : Type 0 where
  pub groups : List Group
  pub are_groups : AreGroups diff.changed.items groups
  pub is_data : document ≡ diff_data diff groups

-- A text is the document of a diff, on one line.
pub record IsDiffJson (diff : Diff) (text : List ℕ) : Type 0 where
  pub document : Data
  pub is_document : IsDiffDocument diff document
  pub is_text : text ≡ compact_text document ++ 10 ∷ []
