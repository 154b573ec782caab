use Rattle.platform_language.proofs.platforms.Triples.{rows_are_found}
use Rattle.platform_language.proofs.platforms.laws.law_rows.Goals as goal

pub returns : goal.returns
returns c = rows_are_found
