use Rattle.std.proofs.Common.{◌≡◌, ◌++◌, map}
use Rattle.nextest_engines.specs.Readings.{readings_view}
use Rattle.nextest_sources.specs.Errors.{compile_error_view}
use Rattle.nextest_sources.specs.Sources.{source_view}
use Rattle.nextest_tables.specs.View.{override_view}
use Rattle.nextest_rules.specs.Meaning.{override_meaning}
use Rattle.nextest_rules.specs.View.{override_rule_view}
use Rattle.nextest_rules.proofs.Compiling.{override_faults_from, override_rules_from}
use Rattle.nextest_rules.proofs.compile.profile.compile_overrides.Given as goal

-- what was made so far, and what is left
abbrev pub invariant-loop-index : goal.invariant-loop-index
invariant-loop-index g l =
    let engines = readings_view g.F.Filters g.S.Specs l.pcx in
    let left = l.index-iterator in
    let meaning = override_meaning g.F.Filters.meaning g.S.Specs.spec_meaning in
    (map meaning (map override_rule_view l.rules.items)
    ++ override_rules_from engines (source_view l.source) l.profile left.count
    (map override_view left.iter.rest.items)
    ≡ override_rules_from engines (source_view l.source) l.profile 0 (map override_view l.fn.tables.items))
    × (map compile_error_view l.errors.items
    ++ override_faults_from engines l.profile left.count (map override_view left.iter.rest.items)
    ≡ map compile_error_view l.initial.errors.items
    ++ override_faults_from engines l.profile 0 (map override_view l.fn.tables.items))
