-- What contracts see of known names, and of features that are switched on.
use Rattle.std.specs.BTreeSet.{BTreeSet, contains_text}
use Rattle.std.specs.List.{list_any}
use Rattle.std.specs.Prelude.{Bool, true, false}
use Rattle.nextest_elements.specs.declared.experimental.ConfigExperimental.{ConfigExperimental}
use Rattle.nextest_elements.specs.declared.experimental.ConfigExperimental.TheVariants.{SetupScripts, WrapperScripts}
use Rattle.nextest_rules.specs.Definitions.{Features}
use Rattle.nextest_rules.specs.Known.{KnownSets}
use Rattle.nextest_rules.specs.declared.known.KnownNames.{KnownNames}

-- names as the tests of being one of them
abbrev pub known_view : KnownNames → KnownSets
known_view known = record {
  groups = contains_text known.groups;
  setup_scripts = contains_text known.setup_scripts;
  wrapper_scripts = contains_text known.wrapper_scripts;
  profiles = contains_text known.profiles;
}

-- whether two features are one
abbrev pub is_feature : ConfigExperimental → ConfigExperimental → Bool
is_feature SetupScripts SetupScripts = true
is_feature WrapperScripts WrapperScripts = true
is_feature SetupScripts WrapperScripts = false
is_feature WrapperScripts SetupScripts = false

-- a set of features
abbrev pub features_view : BTreeSet ConfigExperimental → Features
features_view set feature = list_any (is_feature feature) set.keys
