use Rattle.std.proofs.Common.{append_assoc}
use Rattle.nextest_config.proofs.SpelledTexts.{spelled_as}
use Rattle.nextest_config.proofs.run.row.values.slow_timeout_text.Goals as goal

pub returns : goal.returns
returns c = spelled_as c.format.result _ _ (simp append_assoc) c.format.ensures.ok
