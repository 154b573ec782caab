use Rattle.std.proofs.Common.{◌∙◌, string_bytes, sym}
use Rattle.std.proofs.lemmas.Result.{on_ok_weaker}
use Rattle.rinqebo_results.specs.StandardError.{is_json}
use Rattle.rinqebo_run.proofs.CheckNotes.{no_json_line, no_note_line, one_note_line}
use Rattle.rinqebo_run.proofs.run.add_note.Goals as goal

pub returns-in_default : goal.returns-in_default
returns-in_default c =
    no_note_line (is_json c.args.request.now.format) c.args.answer.now.note (string_bytes c.args.notes.now) c.in_default.is

pub returns-then-is_json : goal.returns-then-is_json
returns-then-is_json c =
    no_json_line (is_json c.args.request.now.format) c.args.answer.now.note (string_bytes c.args.notes.now)
    (sym c.is_json.ensures ∙ c.if-is_json.true)

pub returns : goal.returns
returns c =
    on_ok_weaker c.push_note.result
    (one_note_line (is_json c.args.request.now.format) c.args.answer.now.note c.in-Some.note
    c.as_str.result.now _ _ (sym c.is_json.ensures ∙ c.if-is_json.false) c.in-Some.is c.as_str.ensures.value)
    c.push_note.ensures
