-- A diff as notices of GitHub's workflows.
use Rattle.std.specs.Prelude.{◌≡◌, ℕ, List, [], ◌∷◌, ◌++◌, Option, None, Some, option_and_then, slice_get, flat_map, codes, decimal, string_bytes, if◌then◌else◌}
use Rattle.std.specs.Str.{chars}
use Rattle.rinqebo_report.specs.declared.origin.FilePlace.{FilePlace}
use Rattle.rinqebo_report.specs.declared.origin.Origin.{Origin}
use Rattle.rinqebo_report.specs.declared.origin.Origin.TheVariants as origins
use Rattle.rinqebo_report.specs.Github.{file_property, message_char, property_char}
use Rattle.rinqebo_changes.specs.declared.change.RowChange.{RowChange}
use Rattle.rinqebo_changes.specs.declared.change.SideRow.{SideRow}
use Rattle.rinqebo_changes.specs.declared.diff.Diff.{Diff}
use Rattle.rinqebo_changes.specs.declared.groups.Group.{Group}
use Rattle.rinqebo_changes.specs.Groups.{AreGroups}
use Rattle.rinqebo_changes.specs.Pages.{other_key, setting_text}

-- the place of an origin, if it is in a file
abbrev pub place_in : Origin → Option FilePlace
place_in origins.BuiltIn = None
place_in origins.DefaultTable = None
place_in (origins.Written written) = Some written.place
place_in (origins.File place) = Some place

-- the place of the first of origins, if it is in a file
abbrev pub first_place : List Origin → Option FilePlace
first_place origins = option_and_then place_in (slice_get origins 0)

-- the place from which the value of a side comes, if it is in a file
abbrev pub site_of : SideRow → Option FilePlace
site_of given = if given.is_ignored then None else first_place given.row.origins.items

-- a change on one line
abbrev pub change_text : RowChange → List ℕ
change_text row =
    string_bytes row.from.row.key ++ (codes ": " ++ (setting_text row.from.row.value
    ++ (codes " -> " ++ (other_key row ++ setting_text row.to.row.value))))

-- the properties of a notice: the place of the right side, and the setting as the title
abbrev pub properties_text : List ℕ → Diff → RowChange → List ℕ
properties_text workspace diff row =
    file_property workspace diff.to.sources.items (site_of row.to)
    ++ (codes "title=" ++ flat_map property_char (chars (string_bytes row.from.row.key)))

-- a notice about a change
abbrev pub notice_text : List ℕ → Diff → RowChange → List ℕ → List ℕ
notice_text workspace diff row tests =
    codes "::notice " ++ (properties_text workspace diff row
    ++ (codes "::" ++ (flat_map message_char (chars (change_text row)) ++ (tests ++ 10 ∷ []))))

-- a notice about a group, with how many tests it has
abbrev pub group_notice : List ℕ → Diff → Group → List ℕ
group_notice workspace diff group =
    notice_text workspace diff group.head.row.now
    (codes " (tests: " ++ (decimal group.count ++ codes ")"))

-- a notice about a change of the whole run
abbrev pub run_notice : List ℕ → Diff → RowChange → List ℕ
run_notice workspace diff row = notice_text workspace diff row []

-- A text has a notice about each group of a diff, and about each change of the whole run.
pub record IsGithubText (workspace : List ℕ) (diff : Diff) (text : List ℕ) : Type 0 where
  pub groups : List Group
  pub are_groups : AreGroups diff.changed.items groups
  pub is_text : text ≡ flat_map (group_notice workspace diff) groups
      ++ flat_map (run_notice workspace diff) diff.run.items
