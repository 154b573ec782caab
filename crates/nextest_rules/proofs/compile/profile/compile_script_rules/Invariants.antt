use Rattle.std.proofs.Common.{◌≡◌, ◌++◌, map}
use Rattle.nextest_engines.specs.Readings.{readings_view}
use Rattle.nextest_sources.specs.Errors.{compile_error_view}
use Rattle.nextest_sources.specs.Sources.{source_view}
use Rattle.nextest_tables.specs.View.{script_rule_table_view}
use Rattle.nextest_rules.specs.Meaning.{script_rule_meaning}
use Rattle.nextest_rules.specs.View as view
use Rattle.nextest_rules.proofs.Compiling.{script_rule_faults_from, script_rules_from}
use Rattle.nextest_rules.proofs.compile.profile.compile_script_rules.Given as goal

-- what was made so far, and what is left
abbrev pub invariant-loop-index : goal.invariant-loop-index
invariant-loop-index g l =
    let engines = readings_view g.F.Filters g.S.Specs l.pcx in
    let left = l.index-iterator in
    let meaning = script_rule_meaning g.F.Filters.meaning g.S.Specs.spec_meaning in
    (map meaning (map view.script_rule_view l.rules.items)
    ++ script_rules_from engines (source_view l.source) l.profile left.count
    (map script_rule_table_view left.iter.rest.items)
    ≡ script_rules_from engines (source_view l.source) l.profile 0 (map script_rule_table_view l.fn.tables.items))
    × (map compile_error_view l.errors.items
    ++ script_rule_faults_from engines l.profile left.count (map script_rule_table_view left.iter.rest.items)
    ≡ map compile_error_view l.initial.errors.items
    ++ script_rule_faults_from engines l.profile 0 (map script_rule_table_view l.fn.tables.items))
