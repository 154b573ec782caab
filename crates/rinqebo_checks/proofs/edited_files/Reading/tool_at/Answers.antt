use Rattle.std.proofs.Common.{ap}
use Rattle.nextest_elements.specs.IdentifierText.{tool_name_text}
use Rattle.rinqebo_checks.proofs.ReadAgain.{same_tool}
use Rattle.rinqebo_checks.proofs.edited_files.Reading.tool_at.Goals as goal

pub returns : goal.returns
returns c = same_tool _ _ _ _ (ap tool_name_text c.in_ok-name.ensures.cases) c.in_ok-config_file.ensures
