-- A schema has no float, so that its text is known.
use Rattle.std.proofs.Common.{ap, ◌∙◌}
use Rattle.serde_json.specs.Written.{has_float, compact_text}
use Rattle.nextest_shape.specs.FileForm.{file_form}
use Rattle.nextest_shape.specs.Page.{schema_data}
use Rattle.nextest_shape.proofs.Whole.{schema_whole}
use Rattle.nextest_shape.proofs.page.schema_text.Goals as goal

pub returns : goal.returns
returns c =
    let same = c.in_ok-schema.ensures ∙ ap schema_data c.in_ok-shape.ensures in
    c.in_ok-text.ensures.text (ap has_float same ∙ schema_whole file_form) ∙ ap compact_text same
