-- Which experimental features a load has: those that are named, and those that the repository's
-- file switches on.
use Rattle.std.specs.BTreeSet.{BTreeSet}
use Rattle.std.specs.List.{list_any}
use Rattle.std.specs.Option.{option_and_then, option_map_or}
use Rattle.std.specs.Prelude.{◌≡◌, ◌↔◌, ◌⊎◌, ℕ, List, Bool, true, false, IsTrue, Option, Some, None, codes}
use Rattle.std.specs.Str.{bytes_eq}
use Rattle.nextest_documents.specs.Text.{tree_of}
use Rattle.nextest_elements.specs.Experimental.{experimental_text}
use Rattle.nextest_elements.specs.declared.experimental.ConfigExperimental.{ConfigExperimental}
use Rattle.nextest_rules.specs.Definitions.{Features}
use Rattle.nextest_rules.specs.KnownView.{features_view, is_feature}
use Rattle.nextest_sources.specs.Sources.{Outcome, text, not_found, not_a_directory, failed}
use Rattle.nextest_tree.specs.Node.{Node, table, array, bool, Nodes, no_nodes, node, as_text, get, member_of}

-- the tree of what was read, if it is a text that is a document
abbrev pub tree_read : Outcome → Option Node
tree_read (text written) = tree_of written
tree_read not_found = None
tree_read not_a_directory = None
tree_read (failed message) = None

-- what is behind `experimental` in a document, if something is
abbrev pub experimental_in : Option Node → Option Node
experimental_in document = option_and_then (member_of (codes "experimental")) document

-- whether a node is this text
abbrev pub is_this_text : List ℕ → Node → Bool
is_this_text name item = option_map_or (λ written. bytes_eq written name) (as_text item) false

-- some item of a list is the text that is this name
abbrev pub IsNamedIn : List ℕ → Nodes → Type 0
IsNamedIn name no_nodes = ⊥
IsNamedIn name (node item items) = (as_text item ≡ Some name) ⊎ IsNamedIn name items

-- What is behind `experimental` switches a name on: it is a list that names it, or a table in
-- which the name is true.
abbrev pub SwitchesOn : Node → List ℕ → Type 0
SwitchesOn (array items) name = IsNamedIn name items
SwitchesOn (table entries) name = get name entries ≡ Some (bool true)
SwitchesOn _ name = ⊥

-- a feature is switched on by its name, where something is written
abbrev pub IsSwitchedOnBy : Option Node → ConfigExperimental → Type 0
IsSwitchedOnBy None feature = ⊥
IsSwitchedOnBy (Some written) feature = SwitchesOn written (experimental_text feature)

-- features are those from before, and exactly those beside them that what is written switches on
abbrev pub AreWith : Option Node → BTreeSet ConfigExperimental → BTreeSet ConfigExperimental
    → Type 0
AreWith written before after = (feature : ConfigExperimental)
    → IsTrue (features_view after feature)
    ↔ (IsTrue (features_view before feature) ⊎ IsSwitchedOnBy written feature)

-- features are those from before, and exactly those of some that are on
abbrev pub AreAdded : (ConfigExperimental → Type 0) → List ConfigExperimental
    → BTreeSet ConfigExperimental → BTreeSet ConfigExperimental → Type 0
AreAdded IsOn some before after = (feature : ConfigExperimental)
    → IsTrue (features_view after feature)
    ↔ (IsTrue (features_view before feature)
    ⊎ (IsTrue (list_any (is_feature feature) some) × IsOn feature))

-- The features of a load: it has one exactly if it is named, or where the repository's file is a
-- document whose `experimental` switches it on.
abbrev pub AreFeaturesBy : Features → Option Node → Features → Type 0
AreFeaturesBy named document features = (feature : ConfigExperimental)
    → IsTrue (features feature)
    ↔ (IsTrue (named feature) ⊎ IsSwitchedOnBy (experimental_in document) feature)
