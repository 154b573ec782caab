-- What contracts see of the source of a setting.
use Rattle.std.specs.Prelude.{Option, None, Some}
use Rattle.nextest_rules.specs.Rules.{Compiled, OverrideUse, ScriptRuleUse}
use Rattle.nextest_rules.specs.View.{override_rule_view, script_rule_view}
use Rattle.nextest_settings.specs.Queries.{Origin, unwritten, by_profile, by_override, by_script}
use Rattle.nextest_settings.specs.declared.source.SettingSource.{SettingSource}
use Rattle.nextest_settings.specs.declared.source.SettingSource.TheVariants.{Default, Profile, Override, Script}

-- the origin of a source
abbrev pub setting_source_view : {F S E T N P : Type 0} → SettingSource F S E T N P → Origin
setting_source_view Default = unwritten
setting_source_view Profile = by_profile
setting_source_view (Override rule) = by_override (override_rule_view rule.now).writes.id
setting_source_view (Script rule) = by_script

-- what the script rule of a source writes, if it has one
abbrev pub source_use : {F S E T N P : Type 0} → SettingSource F S E T N P → Option ScriptRuleUse
source_use (Script rule) = Some (script_rule_view rule.now).writes
source_use Default = None
source_use Profile = None
source_use (Override rule) = None

-- the override of a source, if it has one
abbrev pub source_override : {F S E T N P : Type 0} → SettingSource F S E T N P
    → Option (Compiled E N (OverrideUse E))
source_override (Override rule) = Some (override_rule_view rule.now)
source_override Default = None
source_override Profile = None
source_override (Script rule) = None

-- a mark is there exactly if an origin is, and is right for it
abbrev pub MarksOrigin : {Source : Type 0} → (Source → Origin → Type 0) → Option Source
    → Option Origin → Type 0
MarksOrigin shows None None = Unit {0}
MarksOrigin shows (Some source) (Some origin) = shows source origin
MarksOrigin shows None (Some origin) = ⊥
MarksOrigin shows (Some source) None = ⊥

-- where an override decides, a mark is there and is right for it
abbrev pub MarksOverride : {Source R : Type 0} → (Source → R → Type 0) → Option R
    → Option Source → Type 0
MarksOverride shows None mark = Unit {0}
MarksOverride shows (Some rule) (Some source) = shows source rule
MarksOverride shows (Some rule) None = ⊥

-- a mark is there exactly if a script rule is, and is right for what the rule writes
abbrev pub MarksScriptRule : {Source : Type 0} → (Source → ScriptRuleUse → Type 0) → Option Source
    → Option ScriptRuleUse → Type 0
MarksScriptRule shows None None = Unit {0}
MarksScriptRule shows (Some source) (Some uses) = shows source uses
MarksScriptRule shows None (Some uses) = ⊥
MarksScriptRule shows (Some source) None = ⊥
