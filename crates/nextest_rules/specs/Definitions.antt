-- Which names a source may define, and what its definitions need.
use Rattle.std.specs.Prelude.{◌≡◌, List, [], ◌∷◌, Bool, true, false, not, ◌&&◌, filter}
use Rattle.nextest_tree.specs.Schema.{is_one_of}
use Rattle.nextest_elements.specs.declared.experimental.ConfigExperimental.{ConfigExperimental}
use Rattle.nextest_elements.specs.declared.experimental.ConfigExperimental.TheVariants.{SetupScripts, WrapperScripts}
use Rattle.nextest_elements.specs.Owner.{OwnerClass, owner_class, owner_of_name, is_same_owner}
use Rattle.nextest_tables.specs.FileTexts.{FileText, setup_ids_of}
use Rattle.nextest_tables.specs.Written.{Name}
use Rattle.nextest_sources.specs.Sources.{SourceKind, owner_of_source}

-- A source may define a name exactly if the name's owner is the source's.
abbrev pub MayDefine : SourceKind → Name → Type 0
MayDefine kind name = owner_of_name name ≡ owner_of_source kind

-- whether a source may define a name
abbrev pub may_define : SourceKind → Name → Bool
may_define kind name = is_same_owner (owner_of_name name) (owner_of_source kind)

-- the class of the owner of a source
abbrev pub source_class : SourceKind → OwnerClass
source_class kind = owner_class (owner_of_source kind)

-- the names that a source may not define
abbrev pub forbidden_names : SourceKind → List Name → List Name
forbidden_names kind names = filter (λ name. not (may_define kind name)) names

-- the names that are in both lists
abbrev pub common_names : List Name → List Name → List Name
common_names xs ys = filter (is_one_of ys) xs

-- the features that are switched on
abbrev pub Features : Type 0
Features = ConfigExperimental → Bool

-- whether a list has an item
abbrev pub is_nonempty : {X : Type 0} → List X → Bool
is_nonempty [] = false
is_nonempty (x ∷ xs) = true

-- whether a file needs a feature: for its setup scripts, for its wrapper scripts
abbrev pub needs_feature : FileText → ConfigExperimental → Bool
needs_feature f SetupScripts = is_nonempty (setup_ids_of f)
needs_feature f WrapperScripts = is_nonempty f.wrapper_scripts

-- all features, in order
abbrev pub all_features : List ConfigExperimental
all_features = SetupScripts ∷ WrapperScripts ∷ []

-- the features that a file needs and that are not enabled, in order
abbrev pub features_missing : Features → FileText → List ConfigExperimental
features_missing features f =
    filter (λ feature. needs_feature f feature && not (features feature)) all_features
