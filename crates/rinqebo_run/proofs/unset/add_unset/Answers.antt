use Rattle.std.proofs.Common.{◌∙◌, string_bytes, sym}
use Rattle.std.proofs.lemmas.Result.{on_ok_weaker}
use Rattle.rinqebo_results.proofs.Errors.{no_more, unless_json}
use Rattle.rinqebo_results.specs.StandardError.{is_json}
use Rattle.rinqebo_run.proofs.unset.add_unset.Goals as goal

pub returns-in_default-clause-notes : goal.returns-in_default-clause-notes
returns-in_default-clause-notes c = no_more (is_json c.args.request.now.format) (string_bytes c.args.notes.now)

pub returns-then-is_json-clause-notes : goal.returns-then-is_json-clause-notes
returns-then-is_json-clause-notes c = no_more (is_json c.args.request.now.format) (string_bytes c.args.notes.now)

pub returns-clause-notes : goal.returns-clause-notes
returns-clause-notes c =
    on_ok_weaker c.add_notes.result
    (unless_json (is_json c.args.request.now.format) _ _ (sym c.is_json.ensures ∙ c.if-is_json.false))
    c.add_notes.ensures

pub returns-clause-check : goal.returns-clause-check
returns-clause-check c (denies, is) = absurd (cc)
