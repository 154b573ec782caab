use Rattle.std.proofs.Common.{◌∙◌, inl, inr, refl, string_bytes}
use Rattle.std.proofs.lemmas.Result.{on_ok_weaker}
use Rattle.rinqebo_report.specs.declared.format.Format.TheVariants as formats
use Rattle.rinqebo_run.proofs.CheckNotes.{files_line, no_files}
use Rattle.rinqebo_run.proofs.read_files.add_files.Goals as goal

pub returns-then-not-is_empty : goal.returns-then-not-is_empty
returns-then-not-is_empty c =
    let line = c.as_str-then-not-is_empty in
    on_ok_weaker c.push_note.result
    (files_line line.result.now _ _ (inl (_, line.ensures.value ∙ c.in_ok-said.ensures))) c.push_note.ensures

pub returns-then-answer : goal.returns-then-answer
returns-then-answer c = no_files formats.Text (string_bytes c.args.notes.now)

pub returns : goal.returns
returns c = on_ok_weaker c.push_note-2.result (files_line _ _ _ (inr refl)) c.push_note-2.ensures
