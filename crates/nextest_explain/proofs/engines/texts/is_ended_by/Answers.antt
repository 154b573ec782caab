use Rattle.std.proofs.lemmas.Str.Pattern.{ends_text}
use Rattle.nextest_explain.proofs.engines.texts.is_ended_by.Goals as goal

pub returns : goal.returns
returns c = ends_text _ _ _ c.ends_with.ensures.cases
