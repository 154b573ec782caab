-- The tables of profiles and of rules in a tree, and the texts of the conditions of a rule.
use Rattle.std.specs.Option.{option_and_then, option_or}
use Rattle.std.specs.Prelude.{◌&&◌, ℕ, Bool, false, List, None, Option, Some, codes, slice_get}
use Rattle.std.specs.Str.{bytes_eq}
use Rattle.nextest_elements.specs.Owner.{Owner, is_same_owner}
use Rattle.nextest_places.specs.Path.{item_at}
use Rattle.nextest_sources.specs.Sources.{Source, SourceKind, owner_of_source}
use Rattle.nextest_tree.specs.Node.{Node, as_array, as_text, member_of}
use Rattle.rinqebo_request.specs.Files.Layers.{layer_tree}
use Rattle.rinqebo_request.specs.declared.files.layers.Layer.{Layer}

-- whether a kind of file is that of an owner: nobody owns the repository's, and the defaults are no
-- file
abbrev pub is_owned_by : Owner → Option SourceKind → Bool
is_owned_by owner None = false
is_owned_by owner (Some kind) = is_same_owner (owner_of_source kind) owner

-- whether a file is the one of an owner at a path
abbrev pub lies_at : Owner → List ℕ → Option Source → Bool
lies_at owner path None = false
lies_at owner path (Some file) =
    is_owned_by owner (Some file.kind) && bytes_eq file.path path

-- the table of a profile in a tree
abbrev pub profile_node : List ℕ → Node → Option Node
profile_node profile tree =
    option_and_then (member_of profile) (member_of (codes "profile") tree)

-- the rule at a position of a list of a profile
abbrev pub rule_node : List ℕ → List ℕ → ℕ → Node → Option Node
rule_node profile list index tree =
    option_and_then (item_at index)
    (option_and_then as_array (option_and_then (member_of list) (profile_node profile tree)))

-- the same in the tree of the layer at a position
abbrev pub rule_in : List Layer → Option ℕ → List ℕ → List ℕ → ℕ → Option Node
rule_in layers position profile list index =
    option_and_then (rule_node profile list index)
    (option_and_then layer_tree (option_and_then (slice_get layers) position))

-- the text that a table has at a key
abbrev pub text_in : List ℕ → Option Node → Option (List ℕ)
text_in key table = option_and_then as_text (option_and_then (member_of key) table)

-- the text of what the host has to meet for a rule
abbrev pub host_spec : Option Node → Option (List ℕ)
host_spec rule =
    text_in (codes "host") (option_and_then (member_of (codes "platform")) rule)

-- the text of what the platform has to meet for a rule which a binary runs on: that of
-- `platform`, or else that of `platform.target`
abbrev pub target_spec : Option Node → Option (List ℕ)
target_spec rule =
    option_or (text_in (codes "platform") rule)
    (text_in (codes "target") (option_and_then (member_of (codes "platform")) rule))
