-- What the conditions of a rule say of a test.
use Rattle.std.specs.Prelude.{Bool, true, false, if◌then◌else◌, Option, None, Some}
use Rattle.filter_language.specs.Filtersets.{marks_view}
use Rattle.filter_language.specs.declared.filterset.Filterset.{Filterset}
use Rattle.nextest_engines.specs.Engines.{Test}
use Rattle.filter_engine.specs.Compiling.{names_of}
use Rattle.filter_engine.specs.Engine.{filter_holds}
use Rattle.filter_engine.specs.declared.compiling.FieldMatcher.{FieldMatcher}
use Rattle.rinqebo_report.specs.declared.report.ConditionAnswer.{ConditionAnswer}
use Rattle.rinqebo_report.specs.declared.report.ConditionAnswer.TheVariants as says
use Rattle.platform_language.specs.Expressions.{spec_view}
use Rattle.platform_language.specs.Values.{spec_value}
use Rattle.platform_language.specs.declared.expression.TargetSpec.{TargetSpec}
use Rattle.platform_language.specs.Platforms.Platforms.{platform_view}
use Rattle.platform_language.specs.declared.platforms.Platform.{Platform}
use Rattle.rinqebo_rules.specs.declared.verdict.RuleFacts.{RuleFacts}

-- a value that may be unknown, as a report shows it
abbrev pub reported_answer : Option Bool → ConditionAnswer
reported_answer (Some true) = says.Yes
reported_answer (Some false) = says.No
reported_answer None = says.Unknown

-- the value of a condition that may be absent, as a report shows it
abbrev pub reported_condition : {X : Type 0} → (X → Option Bool) → Option X → ConditionAnswer
reported_condition answer None = says.Absent
reported_condition answer (Some condition) = reported_answer (answer condition)

-- whether a spec that was read is met by a platform, or none where that is unknown
abbrev pub is_met_by : TargetSpec → Platform → Option Bool
is_met_by spec platform = spec_value (platform_view platform) (spec_view spec)

-- whether a filter that was read matches a test, beside a default filter
abbrev pub filter_matches : Filterset FieldMatcher → Test → Filterset FieldMatcher → Bool
filter_matches filter test default =
    filter_holds (marks_view names_of filter) test (marks_view names_of default)

-- A filter is evaluated where the platforms hold.
abbrev pub requested_if : Bool → ConditionAnswer → ConditionAnswer
requested_if true answer = answer
requested_if false answer = says.Unrequested

-- What the filter of a rule says, by whether the rule has one and by what is known of it.
abbrev pub reported_by_facts : Bool → RuleFacts → ConditionAnswer
reported_by_facts has_filter facts =
    requested_if facts.is_on
    (if has_filter then reported_answer (Some facts.holds) else says.Absent)
