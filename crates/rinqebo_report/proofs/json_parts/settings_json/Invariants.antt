use Rattle.std.proofs.Common.{◌≡◌, fold, take}
use Rattle.serde_json.specs.Data.{no_members}
use Rattle.serde_json.specs.View.{members_view}
use Rattle.rinqebo_report.specs.Documents.{with_setting}
use Rattle.rinqebo_report.proofs.json_parts.settings_json.Given as goal

abbrev pub invariant-loop-row : goal.invariant-loop-row
invariant-loop-row l =
    members_view l.members.entries ≡ fold with_setting no_members (take l.row-index l.rows)
