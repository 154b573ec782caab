use Rattle.std.proofs.Common.{sym, ap, ◌∙◌, option_map, string_bytes}
use Rattle.rinqebo_checks.specs.ReadAgain.{reading_view}
use Rattle.rinqebo_checks.proofs.ReadAgain.{outcome_read, text_read}
use Rattle.rinqebo_checks.proofs.edited_files.Reading.outcome_at.Goals as goal

pub returns-in-Some : goal.returns-in-Some
returns-in-Some c =
    text_read (reading_view c.args.self.now) c.args.layers.now c.args.place (string_bytes c.in-Some.text) _
    (sym (ap (option_map string_bytes) c.in-Some.is) ∙ c.in_ok-text.ensures)

pub returns-in_ok-copy_outcome-in-None : goal.returns-in_ok-copy_outcome-in-None
returns-in_ok-copy_outcome-in-None c =
    outcome_read (reading_view c.args.self.now) c.args.layers.now c.args.place _ _
    c.in_ok-copy_outcome-in-None.ensures
    (sym (ap (option_map string_bytes) c.in-None.is) ∙ c.in_ok-text.ensures)
