use Rattle.platform_language.proofs.platforms.Triples.{triples_rise}
use Rattle.platform_language.proofs.platforms.laws.law_triples.Goals as goal

pub returns : goal.returns
returns c = triples_rise
