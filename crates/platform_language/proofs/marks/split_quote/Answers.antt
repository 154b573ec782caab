use Rattle.platform_language.proofs.Cuts.{cut_is}
use Rattle.platform_language.proofs.marks.split_quote.Goals as goal

pub returns : goal.returns
returns c = cut_is _ _ c.split_once.ensures.cases
