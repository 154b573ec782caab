-- The default filter that counts, among the entries of a configuration.
use Rattle.std.specs.Prelude.{◌≡◌, ◌⊎◌, ◌==◌, ℕ, List, [], ◌∷◌, Bool, true, false, ◌||◌, not, Option, None, Some, length, map, filter, codes, string_bytes, unwrap_or}
use Rattle.std.specs.List.{list_any}
use Rattle.std.specs.Str.{bytes_eq}
use Rattle.nextest_tree.specs.Node.{text}
use Rattle.rinqebo_request.specs.declared.files.layers.Layer.{Layer}
use Rattle.rinqebo_report.specs.declared.report.Entry.{Entry}
use Rattle.rinqebo_origins.specs.LeafValue.{value_node}
use Rattle.rinqebo_origins.specs.Origins.{IsOriginOf, key_steps}
use Rattle.rinqebo_origins.specs.RulePlaces.{Place}
use Rattle.rinqebo_results.specs.ConditionTexts.{default_text}

-- whether an entry is a default filter of a profile
abbrev pub is_default : Entry → Bool
is_default entry = bytes_eq (string_bytes entry.key) (codes "default-filter")

-- whether keys select the default filter: there are no keys, or one is its key
abbrev pub asks_for_default : List (List ℕ) → Bool
asks_for_default keys =
    (length keys == 0) || list_any (λ name. bytes_eq name (codes "default-filter")) keys

-- an entry, which is hidden if it is a default filter
abbrev pub hide : Entry → Entry
hide entry = record {
  key = entry.key;
  value = entry.value;
  origin = entry.origin;
  is_hidden = entry.is_hidden || is_default entry;
}

-- entries whose default filters are overridden: these are hidden where the report lists hidden
-- entries, and else they are left out
abbrev pub overridden : Bool → List Entry → List Entry
overridden true entries = map hide entries
overridden false entries = filter (λ entry. not (is_default entry)) entries

-- An entry is the default filter of the override at a place, with the text that its file has.
pub record IsDefaultEntry (layers : List Layer) (place : Place) (entry : Entry) : Type 0 where
  pub key : string_bytes entry.key ≡ codes "default-filter"
  pub origin : IsOriginOf layers place (key_steps None (codes "default-filter")) entry.origin
  pub value : value_node entry.value ≡ text (unwrap_or (default_text layers entry.origin) [])
  pub shown : entry.is_hidden ≡ false

-- Entries are the default filter of the override at a place, and then others, whose default filters
-- are overridden.
pub record IsOverridden (layers : List Layer) (place : Place) (with_hidden : Bool)
    (counted told : List Entry) : Type 0 where
  pub entry : Entry
  pub is_entry : IsDefaultEntry layers place entry
  pub are : told ≡ entry ∷ overridden with_hidden counted

-- Entries have the default filter that counts: that of the override at a place, if there is one and
-- keys select it, and else that of the chain of profiles.
abbrev pub IsInForce : List Layer → Option Place → List (List ℕ) → Bool → List Entry → List Entry
    → Type 0
IsInForce layers None keys with_hidden counted told = told ≡ counted
IsInForce layers (Some place) keys with_hidden counted told =
    ((asks_for_default keys ≡ true) × IsOverridden layers place with_hidden counted told)
    ⊎ ((asks_for_default keys ≡ false) × (told ≡ counted))
