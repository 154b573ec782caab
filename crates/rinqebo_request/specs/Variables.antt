-- The variables that the program reads from its process.
use Rattle.std.specs.Prelude.{◌≡◌, ◌==◌, ℕ, List, None, Option, Some, String, codes, if◌then◌else◌, length, option_and_then, option_map, string_bytes}
use Rattle.std.specs.declared.alloc.Global.{Global}
use Rattle.nextest_elements.specs.declared.experimental.ConfigExperimental.{ConfigExperimental}
use Rattle.nextest_elements.specs.declared.experimental.ConfigExperimental.TheVariants as features
use Rattle.rinqebo_request.specs.declared.environment.Environment.{Environment}

-- a text, if it is not empty
abbrev pub some_text : List ℕ → Option (List ℕ)
some_text text = if length text == 0 then None else Some text

-- the text of a variable, if it is set and not empty
abbrev pub text_set : Option (String Global) → Option (List ℕ)
text_set variable = option_and_then some_text (option_map string_bytes variable)

-- the variable that enables a feature
abbrev pub feature_variable : ConfigExperimental → Environment → Option (String Global)
feature_variable features.SetupScripts environment = environment.setup_scripts
feature_variable features.WrapperScripts environment = environment.wrapper_scripts

-- a variable enables a feature: it is `1`
abbrev pub IsSwitchedOn : Environment → ConfigExperimental → Type 0
IsSwitchedOn environment feature =
    text_set (feature_variable feature environment) ≡ Some (codes "1")
