use Rattle.nextest_sources.specs.Sources.{source_view}
use Rattle.nextest_rules.proofs.Layering.{layer_is}
use Rattle.nextest_rules.proofs.compile.compile_layer.Goals as goal

pub returns-clause-rules : goal.returns-clause-rules
returns-clause-rules g c =
    layer_is g.F.Filters.meaning g.S.Specs.spec_meaning
    (record { source = c.in_ok-source.source; profiles = c.in_ok-profiles.profiles })
    (source_view c.args.source.now) _
    c.in_ok-source.ensures.cases c.in_ok-profiles.ensures.profiles
