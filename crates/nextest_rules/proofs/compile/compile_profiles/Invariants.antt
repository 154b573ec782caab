use Rattle.std.proofs.Common.{◌≡◌, List, ◌++◌, map, String, Global, string_bytes}
use Rattle.std.specs.Map.{keys_of}
use Rattle.nextest_engines.specs.Readings.{readings_view}
use Rattle.nextest_sources.specs.Errors.{compile_error_view}
use Rattle.nextest_sources.specs.Sources.{source_view}
use Rattle.nextest_tables.specs.FileTexts.{ProfileText}
use Rattle.nextest_tables.specs.View.{by_name, profile_view}
use Rattle.nextest_tables.specs.Written.{Name}
use Rattle.nextest_tables.specs.declared.profile_table.ProfileTable.{ProfileTable}
use Rattle.nextest_rules.specs.CompileFaults.{profile_faults}
use Rattle.nextest_rules.specs.Rules.{layer_of}
use Rattle.nextest_rules.specs.View.{profiles_view}
use Rattle.nextest_rules.proofs.Ordering.{in_default, in_others}
use Rattle.nextest_rules.proofs.compile.compile_profiles.Given as goal

-- what was made so far, and what is left
abbrev pub invariant-loop-name : goal.invariant-loop-name
invariant-loop-name g l =
    let engines = readings_view g.F.Filters g.S.Specs l.pcx in
    let faults = λ (p : Name × ProfileText). profile_faults engines p.0 p.1 in
    let made = λ (es : List (Name × ProfileText)). (layer_of engines (source_view l.source) es).profiles in
    let left = by_name profile_view l.name-iterator in
    let all = by_name profile_view l.fn.tables.entries in
    ((done : List (String Global × ProfileTable)) × (l.fn.tables.entries ≡ done ++ l.name-iterator)
    × (map string_bytes (keys_of l.profiles.entries) ≡ map string_bytes (keys_of done)))
    × (map compile_error_view l.errors.default.items ++ in_default faults left ≡ in_default faults all)
    × (map compile_error_view l.errors.others.items ++ in_others faults left ≡ in_others faults all)
    × (profiles_view g.F.Filters.meaning g.S.Specs.spec_meaning l.profiles.entries ++ made left ≡ made all)
