use Rattle.std.proofs.Common.{◌∙◌, ap, append_assoc}
use Rattle.nextest_engines.specs.Engines.{without_span}
use Rattle.nextest_explain.proofs.engines.filters.no_filter.Goals as goal

pub returns-in-Ok-clause-refusal : goal.returns-in-Ok-clause-refusal
returns-in-Ok-clause-refusal c = ap without_span (c.in-Ok.ensures.ok ∙ simp append_assoc)
