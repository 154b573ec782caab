use Rattle.platform_language.proofs.Lines.{lines_are_among}
use Rattle.platform_language.proofs.laws.law_lines.Goals as goal

pub returns : goal.returns
returns c = lines_are_among
