-- What changes for the whole run.
use Rattle.std.specs.Prelude.{◌≡◌, Bool, true, false, List, []}
use Rattle.filter_inputs.specs.Lists.ListView.{list_view}
use Rattle.filter_inputs.specs.Lists.Lists.{all_binaries, all_tests}
use Rattle.rinqebo_changes.specs.Keyed.{AreKeyedChanges}
use Rattle.rinqebo_changes.specs.declared.change.RowChange.{RowChange}
use Rattle.rinqebo_load.specs.Sessions.{readings}
use Rattle.rinqebo_report.specs.declared.report.Entry.{Entry}
use Rattle.rinqebo_report.specs.declared.report.ListScripts.{ListScripts}
use Rattle.rinqebo_report.specs.declared.report.SettingRow.{SettingRow}
use Rattle.rinqebo_rules.specs.Scripts.{AreScriptsReported}
use Rattle.rinqebo_results.specs.ShownConfig.{AreShown}
use Rattle.rinqebo_changes.specs.Sides.RunRows.{AreRunRows}
use Rattle.rinqebo_diff.specs.Sides.{Evaluation}

-- Rows are what a side gives to the whole run: the leaves of its profile that count, and the
-- scripts that its profile gives to its list.
pub record AreRunRowsOf (evaluation : Evaluation) (rows : List SettingRow) : Type 0 where
  pub entries : List Entry
  pub are_entries : AreShown evaluation.session.layers.items evaluation.chain [] false entries
  pub scripts : ListScripts
  pub are_scripts : AreScriptsReported
      (readings evaluation.session.engines.filters).matches_test
      (readings evaluation.session.engines.filters).matches_binary evaluation.profile
      (all_tests (list_view evaluation.session.tests))
      (all_binaries (list_view evaluation.session.tests)) scripts
  pub are_rows : AreRunRows entries scripts rows

-- Changes are those of the whole run, from what one side gives it to what another one does.
pub record AreRunChanges (left right : Evaluation) (changes : List RowChange) : Type 0 where
  pub before : List SettingRow
  pub after : List SettingRow
  pub are_before : AreRunRowsOf left before
  pub are_after : AreRunRowsOf right after
  pub are_changes : AreKeyedChanges before after changes

-- changes are those of the whole run, if they are compared
abbrev pub AreRunChangesIf : Bool → Evaluation → Evaluation → List RowChange → Type 0
AreRunChangesIf true left right changes = AreRunChanges left right changes
AreRunChangesIf false left right changes = changes ≡ []
