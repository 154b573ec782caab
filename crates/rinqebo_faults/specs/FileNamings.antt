-- The names that the rules of the profiles of a file have, and where.
use Rattle.std.specs.Prelude.{◌≡◌, ℕ, ◌+◌, Bool, List, [], ◌∷◌, ◌++◌, flat_map, Option, None, Some, option_map, String}
use Rattle.std.specs.BTreeMap.{BTreeMap, get_by_text}
use Rattle.std.specs.declared.alloc.Global.{Global}
use Rattle.std.specs.List.{find}
use Rattle.std.specs.Option.{option_and_then}
use Rattle.std.specs.Str.{bytes_eq}
use Rattle.nextest_tree.specs.Node.{Node, Nodes, no_nodes, Entries, no_entries, as_array, as_text, member_of}
use Rattle.rinqebo_faults.specs.Given.{profiles_in}
use Rattle.rinqebo_faults.specs.Repairs.{entries_or_none, items_or_none, naming_mark}
use Rattle.rinqebo_faults.specs.declared.namings.Naming.{Naming}
use Rattle.rinqebo_faults.specs.declared.namings.Namings.{Namings}

-- Where a rule of a profile has a name: the position of the rule, the key, and the position in the
-- array at the key, if there is one.
pub record NamePlace : Type 0 where
  pub rule : ℕ
  pub key : List ℕ
  pub item : Option ℕ

-- A name that a rule has: the text by which it is found, and where it is.
pub record RuleName : Type 0 where
  pub mark : List ℕ
  pub place : NamePlace

abbrev pub naming_place : Naming → NamePlace
naming_place naming =
    record { rule = naming.rule; key = naming.key.now; item = naming.item }

-- a name that is found by a text
abbrev pub one_name : List ℕ → NamePlace → List RuleName
one_name mark place = record { mark = mark; place = place } ∷ []

-- the name that a value is, if it is a text
abbrev pub name_at : (profile : List ℕ) → NamePlace → Option (List ℕ) → List RuleName
name_at profile place None = []
name_at profile place (Some name) =
    one_name (naming_mark profile place.key name) place

-- the names that the items of an array are, from a position on
abbrev pub item_names : (profile : List ℕ) → NamePlace → ℕ → Nodes → List RuleName
item_names profile place position no_nodes = []
item_names profile place position (Nodes.node item items) =
    name_at profile (record place { item = Some position }) (as_text item)
    ++ item_names profile place (position + 1) items

-- the names at a key of a rule: the text there, or those in the array there
abbrev pub written_names : (profile : List ℕ) → NamePlace → Option Node → List RuleName
written_names profile place (Some (Node.text name)) = name_at profile place (Some name)
written_names profile place (Some (Node.array items)) = item_names profile place 0 items
written_names profile place written = []

-- the names of a rule at some keys
abbrev pub rule_names : (profile : List ℕ) → (keys : List (List ℕ)) → ℕ → Node → List RuleName
rule_names profile keys position rule =
    flat_map (λ key. written_names profile
    (record { rule = position; key = key; item = None }) (member_of key rule)) keys

-- the names of some rules, from a position on
abbrev pub rules_names : (profile : List ℕ) → (keys : List (List ℕ)) → ℕ → Nodes → List RuleName
rules_names profile keys position no_nodes = []
rules_names profile keys position (Nodes.node rule rules) =
    rule_names profile keys position rule ++ rules_names profile keys (position + 1) rules

-- the names of the rules in a list of a profile
abbrev pub profile_names : (list : List ℕ) → (keys : List (List ℕ)) → (profile : List ℕ) → Node
    → List RuleName
profile_names list keys profile settings =
    rules_names profile keys 0 (items_or_none (option_and_then as_array (member_of list settings)))

-- the same of all profiles
abbrev pub profiles_names : (list : List ℕ) → (keys : List (List ℕ)) → Entries → List RuleName
profiles_names list keys no_entries = []
profiles_names list keys (Entries.entry profile settings profiles) =
    profile_names list keys profile settings ++ profiles_names list keys profiles

-- the names that the rules in a list of each profile of a file have at some keys
abbrev pub file_names : Option Node → (list : List ℕ) → (keys : List (List ℕ)) → List RuleName
file_names file list keys = profiles_names list keys (entries_or_none (profiles_in file))

-- a name is found by a text
abbrev pub has_mark : List ℕ → RuleName → Bool
has_mark mark name = bytes_eq name.mark mark

-- where the first of some names is that is found by a text
abbrev pub first_place : List ℕ → List RuleName → Option NamePlace
first_place mark names = option_map (λ name. name.place) (find (has_mark mark) names)

-- the first of two places, if there is one
abbrev pub or_place : Option NamePlace → Option NamePlace → Option NamePlace
or_place None other = other
or_place (Some first) other = Some first

-- The first namings by texts, with more names behind those that they are of.
abbrev pub Adds : BTreeMap (String Global) Naming → BTreeMap (String Global) Naming
    → List RuleName → Type 0
Adds old new names =
    (mark : List ℕ) → option_map naming_place (get_by_text new mark)
    ≡ or_place (option_map naming_place (get_by_text old mark)) (first_place mark names)

-- Namings are those of a list of names: by each text they have the first one that it finds.
pub record AreNamings (list : List ℕ) (names : List RuleName) (namings : Namings) : Type 0 where
  pub of_list : namings.list.now ≡ list
  pub firsts : (mark : List ℕ)
      → (option_map naming_place (get_by_text namings.firsts mark) ≡ first_place mark names)
