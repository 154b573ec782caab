use Rattle.std.proofs.Common.{◌≡◌, ◌++◌, take, codes, string_bytes}
use Rattle.rinqebo_report.specs.Joined.{joined, separator_after}
use Rattle.rinqebo_report.specs.TomlText.{field_text}
use Rattle.rinqebo_report.proofs.toml_text.add_fields.Given as goal

abbrev pub invariant-loop-field : goal.invariant-loop-field
invariant-loop-field l =
    (string_bytes l.out ≡ string_bytes l.initial.out
    ++ joined (codes ", ") (field_text l.spelling) (take l.field-index l.fields))
    × (l.separator ≡ separator_after (codes ", ") (take l.field-index l.fields))
