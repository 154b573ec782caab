-- A value that is that of a setting by its kind is reported as that of the setting.
use Rattle.std.proofs.Common.{◌≡◌, ◌∙◌, Option, None, Some, option_map, ap, refl, sym}
use Rattle.nextest_settings.specs.Settings.{ValueOf}
use Rattle.nextest_settings.specs.SettingValues.{by_kind, setting_value_view}
use Rattle.nextest_elements.specs.declared.setting.Setting.{Setting}
use Rattle.nextest_settings.specs.declared.setting_value.SettingValue.{SettingValue}
use Rattle.rinqebo_origins.specs.SettingValues.{reported_value}
use Rattle.rinqebo_origins.specs.Reported.{told, reported_of}

-- f, and then told
through : {X Y Z : Type 0} (f : X → Y) (h : Y → Z) (o : Option X)
    → option_map (λ x. h (f x)) o ≡ option_map h (option_map f o)
through f h None = refl
through f h (Some x) = refl

pub reported_by_kind : (s : Setting) (held : Option SettingValue) (value : Option (ValueOf s))
    → option_map setting_value_view held ≡ option_map (by_kind s) value
    → option_map reported_value held ≡ option_map (reported_of s) value
reported_by_kind s held value same = through setting_value_view told held
    ∙ (ap (option_map told) same ∙ sym (through (by_kind s) told value))
