-- What the overrides decide, in a slot for each setting.
use Rattle.std.specs.Prelude.{ℕ, List, [], ◌∷◌, Bool, Option, option_map, map, is_some, ◌&&◌, if◌then◌else◌}
use Rattle.nextest_elements.specs.declared.run_mode.NextestRunMode.{NextestRunMode}
use Rattle.nextest_rules.specs.Rules.{OverrideUse}
use Rattle.nextest_rules.specs.declared.overrides.CompiledOverride.{CompiledOverride}
use Rattle.nextest_settings.specs.declared.platforms.EvaluatedRule.{EvaluatedRule as EvaluatedRule'}
use Rattle.nextest_elements.specs.declared.setting.Setting.{Setting}
use Rattle.nextest_settings.specs.Deciding.{QueryContext, winner}
use Rattle.nextest_settings.specs.Platforms.{EvaluatedRule, is_on}
use Rattle.nextest_elements.specs.Settings.{settings}
use Rattle.nextest_settings.specs.Settings.{is_set}
use Rattle.nextest_settings.specs.View.{meant_override}

-- an override on the platforms of a build, by what its filters mean
abbrev pub Override : Type 0 → Type 0
Override M = EvaluatedRule M (OverrideUse M)

-- what slots hold, by what the filters mean
abbrev pub slots_view : {F S E T N P M : Type 0} → (E → M)
    → List (Option (EvaluatedRule' (CompiledOverride F S E T N P))) → List (Option (Override M))
slots_view meaning slots = map (option_map (meant_override meaning)) slots

-- the rule's number, if its filter is evaluated while nothing is decided
abbrev pub asked_alone : {M W : Type 0} → QueryContext M → Bool → EvaluatedRule M W → ℕ → List ℕ
asked_alone query is_wanted rule number =
    if is_some rule.filter && (is_on rule query.platform && is_wanted) then number ∷ [] else []

-- the first rule for each setting
abbrev pub winners_of : {M : Type 0} → QueryContext M → NextestRunMode → List (Override M)
    → List Setting → List (Option (Override M))
winners_of query mode rules ss =
    map (λ s. winner query (λ w. is_set w.settings mode s) rules) ss

-- what slots are looked for: for each setting, whether an override writes it
abbrev pub wanted_settings : {M : Type 0} → NextestRunMode → List (OverrideUse M → Bool)
wanted_settings mode = map (λ s w. is_set w.settings mode s) settings
