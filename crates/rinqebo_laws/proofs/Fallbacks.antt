-- `--why` and `explain` agree on the origins of the fallback of a setting.
use Rattle.std.proofs.Common.{◌≡◌, ◌∙◌, ℕ, true, List, [], ◌∷◌, Option, None, refl, sym, ap}
use Rattle.nextest_elements.specs.declared.run_mode.NextestRunMode.{NextestRunMode}
use Rattle.nextest_settings.specs.Queries.{fallback_origin}
use Rattle.nextest_elements.specs.Settings.{setting_name}
use Rattle.nextest_elements.specs.declared.setting.Setting.{Setting}
use Rattle.nextest_elements.specs.declared.setting.Setting.TheVariants as at
use Rattle.nextest_tables.specs.Written.{Name}
use Rattle.rinqebo_request.specs.declared.files.layers.Layer.{Layer}
use Rattle.rinqebo_laws.proofs.Ranges.{AreFiles, built_in_alike, profile_alike}
use Rattle.rinqebo_laws.proofs.Texts.{same_alone}
use Rattle.rinqebo_laws.specs.Reasons.{HasOriginsOf, origins_of}
use Rattle.rinqebo_report.specs.declared.origin.Origin.{Origin}
use Rattle.rinqebo_report.specs.declared.origin.Origin.TheVariants as kinds
use Rattle.rinqebo_report.specs.declared.report.Rule.{Rule}
use Rattle.rinqebo_report.specs.declared.report.SettingRow.{SettingRow}
use Rattle.rinqebo_keys.specs.Keys.{key_name, key_table}
use Rattle.rinqebo_origins.specs.AsWritten.{node_alone}
use Rattle.rinqebo_origins.specs.Origins.{PathStep}
use Rattle.rinqebo_origins.specs.ProfileOrigins.{AreProfileOrigins, built_in, is_rule_key, written}
use Rattle.rinqebo_origins.specs.TestOrigins.{AreOriginsBy}

-- what rules alone write is not written by a chain
of_rules : (layers : List Layer) (names : List Name) (table : Option (List ℕ)) (name : List ℕ) (origins : List Origin)
    → is_rule_key table name ≡ true → AreProfileOrigins layers names table name origins
    → origins ≡ kinds.BuiltIn ∷ []
of_rules layers names table name origins rule (built_in none is) = is
of_rules layers names table name origins rule (written no_rule report are some) = absurd cc

-- the origins of the fallback and those of a row
pub fallback_agrees : (layers : List Layer) (files : AreFiles layers) (names : List Name) (s : Setting)
    (mode : NextestRunMode) (fallback : Rule) (row : SettingRow)
    → AreProfileOrigins layers names (key_table s mode) (key_name s) (origins_of fallback)
    → AreOriginsBy (record { layers = layers; chain = names }) None (key_table s mode) (key_name s) (fallback_origin s)
    row.origins.items
    → HasOriginsOf s fallback row
unfolding setting_name
fallback_agrees layers files names at.Priority mode fallback row is are =
    built_in_alike (origins_of fallback) row.origins.items
    (of_rules layers names (key_table at.Priority mode) (key_name at.Priority) (origins_of fallback) refl is) are
fallback_agrees layers files names at.RunWrapper mode fallback row is are =
    (of_rules layers names (key_table at.RunWrapper mode) (key_name at.RunWrapper) (origins_of fallback) refl is, are)
fallback_agrees layers files names s mode fallback row is are =
    profile_alike layers files names (key_table s mode) (key_name s) (origins_of fallback) row.origins.items is are

-- and so what one file alone has for them
pub fallback_node : (layers : List Layer) (steps : List PathStep) (s : Setting) (fallback : Rule) (row : SettingRow)
    → HasOriginsOf s fallback row
    → node_alone layers steps (origins_of fallback) ≡ node_alone layers steps row.origins.items
fallback_node layers steps at.RunWrapper fallback row agree =
    ap (node_alone layers steps) agree.0 ∙ sym (ap (node_alone layers steps) agree.1)
fallback_node layers steps s fallback row agree =
    same_alone layers steps (origins_of fallback) row.origins.items agree.shown
