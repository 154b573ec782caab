use Rattle.std.proofs.Common.{◌≡◌, fold, take}
use Rattle.serde_json.specs.Data.{no_members}
use Rattle.serde_json.specs.View.{members_view}
use Rattle.rinqebo_report.specs.Documents.{with_field}
use Rattle.rinqebo_report.proofs.json_parts.fields_json.Given as goal

abbrev pub invariant-loop-field : goal.invariant-loop-field
invariant-loop-field l =
    members_view l.members.entries ≡ fold with_field no_members (take l.field-index l.fields)
