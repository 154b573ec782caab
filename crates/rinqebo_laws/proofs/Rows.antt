-- Rows of one setting say the same.
use Rattle.std.proofs.Common.{◌≡◌, ◌∙◌, ℕ, Bool, List, Option, None, Contains, IfSome, codes, option_map, string_bytes, refl, sym, subst}
use Rattle.std.specs.List.{AllZip}
use Rattle.nextest_elements.specs.declared.run_mode.NextestRunMode.{NextestRunMode}
use Rattle.nextest_rules.specs.Rules.{RuleId}
use Rattle.nextest_settings.specs.Queries.{Origin as Decider}
use Rattle.nextest_settings.specs.Settings.{ValueOf}
use Rattle.nextest_elements.specs.declared.setting.Setting.{Setting}
use Rattle.nextest_tables.specs.Written.{Name}
use Rattle.rinqebo_request.specs.declared.files.layers.Layer.{Layer}
use Rattle.rinqebo_laws.proofs.Keys.{one_key}
use Rattle.rinqebo_laws.proofs.Lists.{beside_same, left_of, place_of}
use Rattle.rinqebo_laws.proofs.Ranges.{AreFiles, decided_alike, placed_alike}
use Rattle.rinqebo_laws.proofs.Texts.{boolean_texts, same_alone, texts_alike}
use Rattle.rinqebo_laws.specs.Rows.{SaySame}
use Rattle.rinqebo_laws.specs.Shown.{AreShownAlike}
use Rattle.rinqebo_report.specs.declared.report.SettingRow.{SettingRow}
use Rattle.rinqebo_keys.specs.Keys.{key_name, key_table, key_text}
use Rattle.rinqebo_origins.specs.AsWritten.{IsValueAsWritten, node_alone}
use Rattle.rinqebo_origins.specs.Origins.{key_steps}
use Rattle.rinqebo_origins.specs.Reported.{value_view}
use Rattle.rinqebo_origins.specs.RulePlaces.{Place}
use Rattle.rinqebo_rules.specs.Runs.{IsRunsRow}
use Rattle.rinqebo_origins.specs.Settings.{IsSettingReported}
use Rattle.rinqebo_origins.specs.TestOrigins.{Basis}

module _ (layers : List Layer)
    (files : AreFiles layers)
    (chain : List Name) where
  abbrev basis : Basis
  basis = record { layers = layers; chain = chain }

  -- rows of whether a test runs
  pub runs_say_same : (place : Option Place) (runs : Bool) (one other : SettingRow) → IsRunsRow basis place runs one
      → IsRunsRow basis place runs other → SaySame one other
  runs_say_same place runs one other is are = record {
    key = is.key ∙ sym are.key;
    value = record {
      value = is.value_reported ∙ sym are.value_reported;
      texts = boolean_texts one.value runs is.value_reported ∙ sym (boolean_texts other.value runs are.value_reported);
    };
    origins = placed_alike layers files chain place None (codes "default-filter") one.origins.items
        other.origins.items is.origins_reported are.origins_reported;
  }

  module _ (wrapping : Option RuleId) (value : (s : Setting) → Option (ValueOf s)) (origin : Setting → Option Decider)
      (mode : NextestRunMode) where
    abbrev Is : Setting → SettingRow → Type 0
    Is = IsSettingReported basis wrapping value origin mode

    -- rows of one setting
    rows_say_same : (s : Setting) (one other : SettingRow) → Is s one → Is s other → SaySame one other
    rows_say_same s one other is are =
        let steps = key_steps (key_table s mode) (key_name s) in
        let origins : AreShownAlike one.origins.items other.origins.items =
        decided_alike layers files chain wrapping (key_table s mode) (key_name s) (origin s) one.origins.items
        other.origins.items is.origins_reported are.origins_reported in
        let values : option_map value_view one.value ≡ option_map value_view other.value =
        is.value_reported ∙ sym are.value_reported in
        let written : IfSome other.value (IsValueAsWritten (node_alone layers steps one.origins.items)) =
        subst (λ node. IfSome other.value (IsValueAsWritten node))
        (sym (same_alone layers steps one.origins.items other.origins.items origins.shown)) are.value_as_written in
        record {
          key = is.key ∙ sym are.key;
          value = record {
            value = values;
            texts = texts_alike (node_alone layers steps one.origins.items) one.value other.value values
                is.value_as_written written;
          };
          origins = origins;
        }

    -- a row with the key of a setting is a row of that setting
    pub row_of : (s : Setting) (key : List ℕ) (settings : List Setting) (rows : List SettingRow) (row : SettingRow)
        → AllZip Is settings rows → Contains rows row → string_bytes row.key ≡ key → key ≡ key_text s mode → Is s row
    row_of s key settings rows row all has keyed is =
        let place = place_of rows row has in
        let it = left_of Is settings rows place.0 row all place.1 in
        subst (λ t. Is t row) (one_key it.0 s mode (sym it.2.key ∙ keyed ∙ is)) it.2

    -- rows with one key
    pub keyed_say_same : (settings others : List Setting) (xs ys : List SettingRow) → AllZip Is settings xs
        → AllZip Is others ys → (one other : SettingRow) → Contains xs one → Contains ys other
        → string_bytes one.key ≡ string_bytes other.key → SaySame one other
    keyed_say_same settings others xs ys all every one other has there same =
        let place = place_of xs one has in
        let it = left_of Is settings xs place.0 one all place.1 in
        rows_say_same it.0 one other it.2
        (row_of it.0 (string_bytes other.key) others ys other every there refl (sym same ∙ it.2.key))

    -- rows of the same settings
    pub all_say_same : (settings : List Setting) (xs ys : List SettingRow) → AllZip Is settings xs → AllZip Is settings ys
        → AllZip SaySame xs ys
    all_say_same settings xs ys all every =
        beside_same Is Is SaySame (λ s one other is are. rows_say_same s one other is are) settings xs ys all every
