-- The value of a setting as code holds it, and as a report shows it.
use Rattle.nextest_settings.specs.SettingValues.{setting_value_view}
use Rattle.nextest_settings.specs.declared.setting_value.SettingValue.{SettingValue}
use Rattle.rinqebo_origins.specs.Reported.{ReportedValue, told}

-- a value of a setting, as a report shows it
abbrev pub reported_value : SettingValue → ReportedValue
reported_value value = told (setting_value_view value)
