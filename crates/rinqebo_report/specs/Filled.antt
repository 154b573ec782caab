-- Members that are left out where they are empty.
use Rattle.std.specs.Prelude.{ℕ, List, [], ◌∷◌, Bool, true, false}
use Rattle.serde_json.specs.Data.{Data, null, boolean, number, string, array, object, no_items, item, Members, put}

-- whether a value is null, an empty text or an empty list
abbrev pub is_empty_data : Data → Bool
is_empty_data null = true
is_empty_data (boolean b) = false
is_empty_data (number n) = false
is_empty_data (string []) = true
is_empty_data (string (c ∷ cs)) = false
is_empty_data (array no_items) = true
is_empty_data (array (item d ds)) = false
is_empty_data (object ms) = false

-- members, with a value at a key, unless it is left out
abbrev pub put_unless : Bool → List ℕ → Data → Members → Members
put_unless true key value members = members
put_unless false key value members = put key value members

-- members, with a value at a key, unless that is null, an empty text or an empty list
abbrev pub put_filled : List ℕ → Data → Members → Members
put_filled key value members = put_unless (is_empty_data value) key value members
