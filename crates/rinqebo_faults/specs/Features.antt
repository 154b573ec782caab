-- Features that are not enabled: what needs them, and how to switch them on.
use Rattle.std.specs.Prelude.{ℕ, ◌-◌, ◌==◌, nat_eq, Bool, true, false, List, [], ◌∷◌, ◌++◌, codes, fold, length, map, take, is_some, Option, None, Some, if◌then◌else◌}
use Rattle.std.specs.List.{ends_with}
use Rattle.std.specs.Option.{option_and_then}
use Rattle.nextest_elements.specs.Experimental.{experimental_text}
use Rattle.nextest_elements.specs.declared.experimental.ConfigExperimental.{ConfigExperimental}
use Rattle.nextest_places.specs.Spans.Paths.{PathStep}
use Rattle.nextest_places.specs.Spans.Paths as paths
use Rattle.nextest_tree.specs.Node.{Node, Nodes, no_nodes, member_of}

-- the value at a key of a file, if there is one
abbrev pub value_at : Option Node → List ℕ → Option Node
value_at file key = option_and_then (member_of key) file

-- the kind of scripts that a feature switches on
unfoldable pub kind_of_feature : List ℕ → List ℕ
kind_of_feature feature =
    if ends_with nat_eq feature (codes "-scripts") then take (length feature - 8) feature
    else feature

-- the path of the scripts of a kind, or of all scripts where there are none of the kind
abbrev pub kind_path : Node → List ℕ → List PathStep
kind_path scripts kind =
    if is_some (member_of kind scripts)
    then paths.key (codes "scripts") ∷ paths.key kind ∷ []
    else paths.key (codes "scripts") ∷ []

-- the path of the table whose scripts need a feature: the old one where it is alone
abbrev pub path_in : Option Node → List ℕ → List PathStep
path_in None feature = paths.key (codes "script") ∷ []
path_in (Some scripts) feature = kind_path scripts (kind_of_feature feature)

abbrev pub feature_path : Option Node → List ℕ → List PathStep
feature_path file feature = path_in (value_at file (codes "scripts")) feature

-- the texts of some items
abbrev pub texts_of : Nodes → List (List ℕ)
texts_of no_nodes = []
texts_of (Nodes.node (Node.text s) ns) = s ∷ texts_of ns
texts_of (Nodes.node n ns) = texts_of ns

-- the features that a file lists
abbrev pub listed_features : Option Node → List (List ℕ)
listed_features (Some (Node.array ns)) = texts_of ns
listed_features listed = []

-- a list of TOML, and one name more
unfoldable pub with_quoted : List ℕ → List ℕ → List ℕ
with_quoted list name =
    (if length list == 0 then [] else list ++ codes ", ") ++ (codes "\"" ++ (name ++ codes "\""))

-- names as a list of TOML has them
abbrev pub quoted_list : List (List ℕ) → List ℕ
quoted_list names = fold with_quoted [] names

-- the features that a file lists, and those that it lacks, as a list of TOML has them
unfoldable pub feature_list : Option Node → List ConfigExperimental → List ℕ
feature_list listed missing =
    quoted_list (listed_features listed ++ map experimental_text missing)

-- what a command line passes for a feature
abbrev pub or_pass : List ℕ → List ℕ
or_pass feature = codes ", or pass `--experimental " ++ (feature ++ codes "`")

-- a value is a table
abbrev pub is_table : Option Node → Bool
is_table (Some (Node.table es)) = true
is_table value = false

-- how to switch on a feature: by a key of the table of features, or by their list
abbrev pub by_key_or_list : (in_table : Bool) → Option Node → List ℕ → List ConfigExperimental
    → List ℕ
by_key_or_list true listed feature missing =
    codes "write `experimental." ++ (feature ++ (codes " = true`" ++ or_pass feature))
by_key_or_list false listed feature missing =
    codes "write `experimental = ["
    ++ (feature_list listed missing ++ (codes "]`" ++ or_pass feature))

-- how to switch on a feature where a file lists features so
abbrev pub enabled_by : Option Node → List ℕ → List ConfigExperimental → List ℕ
enabled_by listed feature missing = by_key_or_list (is_table listed) listed feature missing

-- how to switch on a feature, of several that a file lacks
abbrev pub feature_help : Option Node → List ℕ → List ConfigExperimental → List ℕ
feature_help file feature missing =
    enabled_by (value_at file (codes "experimental")) feature missing
