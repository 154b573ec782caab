use Rattle.std.proofs.Common.{◌∙◌, ap, is_some, sym}
use Rattle.nextest_settings.proofs.Held.{is_held}
use Rattle.nextest_settings.proofs.written.is_set.Goals as goal

pub returns : goal.returns
returns c = c.is_some.ensures ∙ (sym (is_held _ c.value.result) ∙ (ap is_some c.value.ensures ∙ is_held _ _))
