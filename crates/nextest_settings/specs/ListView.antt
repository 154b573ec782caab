-- What contracts see of the settings of a binary.
use Rattle.std.specs.Prelude.{Option, option_map}
use Rattle.nextest_scripts.specs.ScriptTexts.{WrapperScriptText, wrapper_script_view}
use Rattle.nextest_settings.specs.declared.list_settings.ListSettings.{ListSettings}

-- the script that wraps the binary
abbrev pub list_wrapper_at : {Src : Type 0} → ListSettings Src → Option WrapperScriptText
list_wrapper_at t = option_map (λ w. wrapper_script_view w.now) t.list_wrapper
