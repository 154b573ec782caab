-- Items of a text: the parts of its keys, and its values.
use Rattle.std.specs.Prelude.{◌≡◌, ◌<◌, ◌≤◌, ℕ, suc, List, [], ◌∷◌, length, map, Option, Some, None, IfSome, option_map, String}
use Rattle.std.specs.Str.{IsUtf8}
use Rattle.std.specs.declared.alloc.Global.{Global}
use Rattle.toml.specs.Data.{Data, string, integer, float, boolean, datetime, array, table}
use Rattle.toml.specs.Parse.{parse_value}
use Rattle.nextest_places.specs.declared.spans.item.Item.{Item}
use Rattle.nextest_places.specs.declared.spans.item.Role.{Role}
use Rattle.nextest_places.specs.declared.spans.item.Role.TheVariants as role
use Rattle.nextest_places.specs.declared.spans.item.ValueKind.{ValueKind}
use Rattle.nextest_places.specs.declared.spans.item.ValueKind.TheVariants as kind
use Rattle.nextest_places.specs.declared.spans.token.Container.{Container}
use Rattle.nextest_places.specs.declared.spans.token.Span.{Span}
use Rattle.nextest_places.specs.declared.spans.token.Token.{Token}
use Rattle.nextest_places.specs.declared.spans.token.TokenKind.{TokenKind}
use Rattle.nextest_places.specs.declared.spans.token.TokenKind.TheVariants as token
use Rattle.nextest_places.specs.Spans.Tokens.{IsNamed, text_at}

-- ---- what an item is

-- a part of a key, with the name that it reads as, or a value, with what its first byte opens
pub data Sort : Type 0 where
  key_part : Option (String Global) → Sort
  value : Option Container → Sort

abbrev pub role_sort : Role → Sort
role_sort (role.Key name of element) = key_part name
role_sort (role.Value position container) = value container

-- what begins at a token, if an item does
abbrev pub kind_sort : TokenKind → Option Sort
kind_sort (token.Key name) = Some (key_part name)
kind_sort (token.Dotted name) = Some (key_part name)
kind_sort (token.Open c) = Some (value (Some c))
kind_sort token.String = Some (value None)
kind_sort token.Word = Some (value None)
kind_sort _ = None

-- the kind of a value
abbrev pub data_kind : Data → ValueKind
data_kind (string s) = kind.String
data_kind (integer z) = kind.Integer
data_kind (float x) = kind.Float
data_kind (boolean b) = kind.Boolean
data_kind (datetime dt) = kind.Datetime
data_kind (array ds) = kind.Array
data_kind (table ms) = kind.Table

-- the kind of the value that a text is, if it is one
abbrev pub read_kind : List ℕ → Option ValueKind
read_kind text = option_map data_kind (parse_value text)

-- the kind of what bytes of this sort read as; a part of a key has none
abbrev pub kind_by_sort : List ℕ → Sort → Option ValueKind
kind_by_sort bytes (key_part name) = None
kind_by_sort bytes (value container) = read_kind bytes

-- a part of a key reads as the name that it has
abbrev pub IsNamedSort : List ℕ → Sort → Type 0
IsNamedSort bytes (key_part name) = IsNamed bytes name
IsNamedSort bytes (value container) = Unit {0}

-- ---- where items are

-- what begins at a byte, and where it ends; of a list or a table the end is left open
abbrev pub end_by_sort : Sort → Span → Option ℕ
end_by_sort (value (Some container)) span = None
end_by_sort _ span = Some span.end

abbrev pub Mark : Type 0
Mark = Sort × ℕ × Option ℕ

abbrev pub mark : Sort → Span → Mark
mark sort span = (sort, span.start, end_by_sort sort span)

abbrev pub item_mark : Item → Mark
item_mark item = mark (role_sort item.role) item.span

abbrev pub marks_by_sort : Option Sort → Span → List Mark
marks_by_sort None span = []
marks_by_sort (Some sort) span = mark sort span ∷ []

abbrev pub token_marks : Token → List Mark
token_marks token = marks_by_sort (kind_sort token.kind) token.span

-- some whole characters of the text
pub record IsSpan (text : List ℕ) (span : Span) : Type 0 where
  pub some : span.start < span.end
  pub within : span.end ≤ length text
  pub utf8 : IsUtf8 (text_at text span)

-- the item at an index is some whole characters of the text and in an earlier item or at the root;
-- a part of a key reads as its name by TOML's grammar, and a value as a value of its kind
pub record IsItem (text : List ℕ) (index : ℕ) (item : Item) : Type 0 where
  pub earlier : IfSome item.parent (λ i. i < index)
  pub span : IsSpan text item.span
  pub named : IsNamedSort (text_at text item.span) (role_sort item.role)
  pub kind : item.kind ≡ kind_by_sort (text_at text item.span) (role_sort item.role)

-- the items from an index on are so
abbrev pub EachIs : List ℕ → ℕ → List Item → Type 0
EachIs text index [] = Unit {0}
EachIs text index (item ∷ items) = IsItem text index item × EachIs text (suc index) items

-- ---- how items are made

-- the items begin where they began, and are right if they were
pub record KeepsItems (text : List ℕ) (old new : List Item) : Type 0 where
  pub marks : map item_mark new ≡ map item_mark old
  pub each : EachIs text 0 old → EachIs text 0 new

-- the text has these bytes from one place to another, which are some whole characters
pub record IsTextAt (text : List ℕ) (start end : ℕ) (own : List ℕ) : Type 0 where
  pub span : IsSpan text (record { start = start; end = end })
  pub is : own ≡ text_at text (record { start = start; end = end })
