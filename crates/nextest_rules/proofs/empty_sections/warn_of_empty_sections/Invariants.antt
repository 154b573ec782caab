use Rattle.std.proofs.Common.{take}
use Rattle.nextest_sources.specs.Endings.{Ran, passed}
use Rattle.nextest_sources.specs.Sources.{source_view}
use Rattle.nextest_rules.specs.Steps.{empty_steps_in}
use Rattle.nextest_rules.specs.View.{order_view}
use Rattle.nextest_rules.proofs.empty_sections.warn_of_empty_sections.Given as goal

-- the steps of the profiles so far were run
abbrev pub invariant-loop-name : goal.invariant-loop-name
invariant-loop-name g l =
    Ran (empty_steps_in (source_view l.source)
    (order_view g.F.Filters.meaning g.S.Specs.spec_meaning (take l.name-index l.order)))
    (g.W.ConfigWarnings.warnings l.initial.warnings) (g.W.ConfigWarnings.warnings l.warnings) passed
