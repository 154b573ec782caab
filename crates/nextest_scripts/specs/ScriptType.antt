-- The kinds of scripts as they are shown.
use Rattle.std.specs.Prelude.{ℕ, List, codes}
use Rattle.nextest_scripts.specs.declared.script_type.ScriptType.{ScriptType}
use Rattle.nextest_scripts.specs.declared.script_type.ScriptType.TheVariants as script
use Rattle.nextest_scripts.specs.declared.script_type.ProfileScriptType.{ProfileScriptType}
use Rattle.nextest_scripts.specs.declared.script_type.ProfileScriptType.TheVariants as profile

-- A script is shown as `setup` or `wrapper`.
abbrev pub script_type_text : ScriptType → List ℕ
script_type_text script.Setup = codes "setup"
script_type_text script.Wrapper = codes "wrapper"

-- A profile's use of a script is shown as `setup`, `list-wrapper` or `run-wrapper`.
abbrev pub profile_script_type_text : ProfileScriptType → List ℕ
profile_script_type_text profile.Setup = codes "setup"
profile_script_type_text profile.ListWrapper = codes "list-wrapper"
profile_script_type_text profile.RunWrapper = codes "run-wrapper"
