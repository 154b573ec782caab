use Rattle.std.proofs.Common.{◌∙◌}
use Rattle.rinqebo_checks.proofs.ReadAgain.{same_file}
use Rattle.rinqebo_checks.proofs.edited_files.Reading.file_at.Goals as goal

pub returns : goal.returns
returns c = same_file _ _ _ _ (c.in_ok-path.ensures ∙ c.absolute_path.ensures) c.in_ok-outcome.ensures
