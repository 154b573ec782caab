-- What sources write of profiles, and which sources write the same of them.
use Rattle.std.specs.Prelude.{◌≡◌, ◌≢◌, ℕ, List, Option, None, IsSome, option_and_then}
use Rattle.nextest_sources.specs.InputFaults.{Each}
use Rattle.nextest_sources.specs.Inputs.{SourceText}
use Rattle.nextest_tables.specs.Texts.{at_key}
use Rattle.nextest_tables.specs.Written.{Name}
use Rattle.nextest_tree.specs.declared.key.Key.TheVariants as keys
use Rattle.nextest_tree.specs.Key.{key_text}
use Rattle.nextest_tree.specs.Node.{Node, member_of}
use Rattle.nextest_load.specs.Trees.{tree_in}

-- what a tree has of the profile of a name, if it has one
abbrev pub node_of_profile : Name → Node → Option Node
node_of_profile name tree = option_and_then (member_of name) (at_key keys.Profile tree)

-- Two sources agree on profiles of these names: they have one path and kind, each of these profiles
-- is in both trees alike or in neither, and so does all that is outside of profiles.
pub record AgreeOn (names : List Name) (s t : SourceText) : Type 0 where
  pub source : s.source ≡ t.source
  pub profiles : Each
      (λ name. node_of_profile name (tree_in s) ≡ node_of_profile name (tree_in t)) names
  pub elsewhere : (key : List ℕ) → key ≢ key_text keys.Profile
      → member_of key (tree_in s) ≡ member_of key (tree_in t)

-- A source stays apart from profiles of these names: its tree has none of them, and nothing outside
-- of profiles.
pub record StaysApart (names : List Name) (s : SourceText) : Type 0 where
  pub profiles : Each (λ name. node_of_profile name (tree_in s) ≡ None) names
  pub elsewhere : (key : List ℕ) → key ≢ key_text keys.Profile → member_of key (tree_in s) ≡ None

-- A tree writes nothing below a profile but its parent.
abbrev pub WritesOnlyParent : Name → Node → Type 0
WritesOnlyParent name tree = (key : List ℕ)
    → IsSome (option_and_then (member_of key) (node_of_profile name tree))
    → key ≡ key_text keys.Inherits
