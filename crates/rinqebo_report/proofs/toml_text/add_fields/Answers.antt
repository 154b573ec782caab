use Rattle.std.proofs.Common.{codes}
use Rattle.rinqebo_report.proofs.Joined.{joined_more}
use Rattle.rinqebo_report.specs.TomlText.{field_text}
use Rattle.rinqebo_report.proofs.toml_text.add_fields.Goals as goal

pub loop-field-preserved : goal.loop-field-preserved
loop-field-preserved c =
    joined_more (codes ", ") (field_text c.args.spelling) c.args.fields.now c.loop-field.field-index c.field-item.result
    c.loop-field-test.true c.field-item.is _ _ _ _ c.loop-field.separator.now c.loop-field.invariant
    c.in_ok-push_str.ensures.bytes c.in_ok-add_field.ensures
