-- How the items of a text are inside one another.
use Rattle.std.specs.Prelude.{◌≡◌, ◌<◌, ◌≤◌, ◌-◌, ◌⊎◌, Bool, true, false, ℕ, suc, List, [], ◌∷◌, ◌++◌, length, map, slice_get, Option, Some, None}
use Rattle.std.specs.List.{AllByRecursion, flat_map}
use Rattle.std.specs.Option.{option_or}
use Rattle.nextest_places.specs.declared.spans.item.Item.{Item}
use Rattle.nextest_places.specs.declared.spans.item.KeyKind.{KeyKind}
use Rattle.nextest_places.specs.declared.spans.item.KeyKind.TheVariants.{Pair}
use Rattle.nextest_places.specs.declared.spans.item.Role.{Role}
use Rattle.nextest_places.specs.declared.spans.item.Role.TheVariants as role
use Rattle.nextest_places.specs.declared.spans.token.Container.{Container}
use Rattle.nextest_places.specs.declared.spans.token.Container.TheVariants as container
use Rattle.nextest_places.specs.declared.spans.token.Token.{Token}
use Rattle.nextest_places.specs.declared.spans.token.TokenKind.{TokenKind}
use Rattle.nextest_places.specs.declared.spans.token.TokenKind.TheVariants as kinds
use Rattle.nextest_places.specs.Spans.Items.{EachIs, item_mark, role_sort, token_marks, value}
use Rattle.nextest_places.specs.Spans.Tokens.{AreTokens}

-- how many items begin at some tokens
abbrev pub item_count : List Token → ℕ
item_count tokens = length (flat_map token_marks tokens)

-- ---- what is open at a byte

-- A list or a table is open at a byte if it begins before the byte and does not end before it. One
-- that is never closed takes its opening bracket alone.
pub record IsOpenAt (item : Item) (byte : ℕ) (container : Container) : Type 0 where
  pub holds : role_sort item.role ≡ value (Some container)
  pub begun : item.span.start < byte
  pub goes_on : (byte < item.span.end) ⊎ (item.span.end ≡ suc item.span.start)

-- none of the items from one index up to another is open at a byte
abbrev pub NoneOpen : List Item → ℕ → ℕ → ℕ → Type 0
NoneOpen items low high byte = (i : ℕ) (item : Item) (c : Container) → low ≤ i → i < high
    → slice_get items i ≡ Some item → ¬ IsOpenAt item byte c

-- The last of the first items that is open at a byte. Since lists and tables lie in one another, it
-- is the innermost.
abbrev pub IsInnermost : List Item → ℕ → ℕ → Option (ℕ × Container) → Type 0
IsInnermost items count byte None = NoneOpen items 0 count byte
IsInnermost items count byte (Some held) =
    (item : Item) × (held.0 < count) × (slice_get items held.0 ≡ Some item)
    × IsOpenAt item byte held.1 × NoneOpen items (suc held.0) count byte

-- ---- sections

abbrev pub is_pair : KeyKind → Bool
is_pair Pair = true
is_pair _ = false

-- a part of a header's key
abbrev pub is_heading : Role → Bool
is_heading (role.Key name Pair element) = false
is_heading (role.Key name _ element) = true
is_heading (role.Value position container) = false

abbrev pub is_header : TokenKind → Bool
is_header kinds.TableHeader = true
is_header kinds.ElementHeader = true
is_header _ = false

-- the last header among some tokens begins behind so many items
pub record IsHeader (tokens : List Token) (low : ℕ) : Type 0 where
  pub front : List Token
  pub header : Token
  pub behind : List Token
  pub whole : tokens ≡ front ++ header ∷ behind
  pub is : is_header header.kind ≡ true
  pub last : AllByRecursion (λ t. is_header t.kind ≡ false) behind
  pub count : low ≡ item_count front

-- where the last header begins, or the text if there is none
abbrev pub IsBegun : List Token → ℕ → Type 0
IsBegun tokens low =
    (AllByRecursion (λ t. is_header t.kind ≡ false) tokens × (low ≡ 0)) ⊎ IsHeader tokens low

-- none of the items from one index up to another is a part of a header's key
abbrev pub NoneHeads : List Item → ℕ → ℕ → Type 0
NoneHeads items low high = (i : ℕ) (item : Item) → low ≤ i → i < high
    → slice_get items i ≡ Some item → is_heading item.role ≡ false

-- the last part of a header's key from one item up to another
abbrev pub IsLastHeading : List Item → ℕ → ℕ → Option ℕ → Type 0
IsLastHeading items low count None = NoneHeads items low count
IsLastHeading items low count (Some i) =
    (item : Item) × (low ≤ i) × (i < count) × (slice_get items i ≡ Some item)
    × (is_heading item.role ≡ true) × NoneHeads items (suc i) count

-- the last part of the last header's key before an item
abbrev pub IsSection : List Item → List Token → ℕ → Option ℕ → Type 0
IsSection items tokens count section =
    (low : ℕ) × IsBegun tokens low × IsLastHeading items low count section

-- ---- parents

abbrev pub is_part : TokenKind → Bool
is_part (kinds.Key name) = true
is_part (kinds.Dotted name) = true
is_part _ = false

abbrev pub last_before : Bool → ℕ → Option ℕ
last_before true count = Some (count - 1)
last_before false count = None

-- the last of some tokens is a part of a key; of none it is as given
abbrev pub last_part : Bool → List Token → Bool
last_part is [] = is
last_part is (token ∷ tokens) = last_part (is_part token.kind) tokens

abbrev pub ends_in_part : List Token → Bool
ends_in_part tokens = last_part false tokens

-- the item of the last of some tokens, if it is a part of a key
abbrev pub part_before : List Token → Option ℕ
part_before tokens = last_before (ends_in_part tokens) (item_count tokens)

abbrev pub list_by : Container → ℕ → Option ℕ
list_by container.List i = Some i
list_by container.Table i = None

-- the innermost that is open, if it is a list
abbrev pub list_of : Option (ℕ × Container) → Option ℕ
list_of None = None
list_of (Some held) = list_by held.1 held.0

abbrev pub held_in : Option (ℕ × Container) → Option ℕ → Option ℕ
held_in None section = section
held_in (Some held) section = Some held.0

-- what the first part of a key is inside: at the root for a header, and else in the innermost that
-- is open, or in the section where none is
abbrev pub first_in : Bool → Option (ℕ × Container) → Option ℕ → Option ℕ
first_in true held section = None
first_in false held section = held_in held section

-- What an item is inside: a part behind a dot in the part before the dot, and a value in the list
-- that is the innermost, or else in the part right before it.
abbrev pub parent_of : TokenKind → Bool → Option ℕ → Option (ℕ × Container) → Option ℕ
    → Option ℕ
parent_of (kinds.Key name) heading before held section = first_in heading held section
parent_of (kinds.Dotted name) heading before held section =
    option_or before (first_in heading held section)
parent_of _ heading before held section =
    option_or (list_of held) (option_or before (held_in held section))

-- the item that begins at a token has the parent that it should have
pub record IsRightChild (items : List Item) (front : List Token) (token : Token) : Type 0 where
  pub item : Item
  pub held : Option (ℕ × Container)
  pub section : Option ℕ
  pub at : slice_get items (item_count front) ≡ Some item
  pub innermost : IsInnermost items (item_count front) token.span.start held
  pub heading : IsSection items front (item_count front) section
  pub parent : item.parent
      ≡ parent_of token.kind (is_heading item.role) (part_before front) held section

-- the innermost that is open ends with a token
pub record IsRightEnd (items : List Item) (front : List Token) (token : Token) (c : Container)
    : Type 0 where
  pub index : ℕ
  pub item : Item
  pub at : slice_get items index ≡ Some item
  pub innermost : IsInnermost items (item_count front) token.span.start (Some (index, c))
  pub end : item.span.end ≡ token.span.end

abbrev pub IsPlaced : TokenKind → List Item → List Token → Token → Type 0
IsPlaced kinds.TableHeader items front token = Unit {0}
IsPlaced kinds.ElementHeader items front token = Unit {0}
IsPlaced (kinds.Close c) items front token = IsRightEnd items front token c
IsPlaced kinds.Other items front token = Unit {0}
IsPlaced _ items front token = IsRightChild items front token

-- each of some tokens begins an item in the right place, or closes the innermost that is open
abbrev pub ArePlaced : List Item → List Token → Type 0
ArePlaced items tokens = (front behind : List Token) (token : Token)
    → tokens ≡ front ++ token ∷ behind → IsPlaced token.kind items front token

-- one of the tokens closes such a list or table at a byte
pub record Closes (tokens : List Token) (c : Container) (end : ℕ) : Type 0 where
  pub front : List Token
  pub token : Token
  pub behind : List Token
  pub whole : tokens ≡ front ++ token ∷ behind
  pub kind : token.kind ≡ kinds.Close c
  pub ends : token.span.end ≡ end

-- each list or table is its opening bracket alone, or a token closes it
abbrev pub AreClosed : List Item → List Token → Type 0
AreClosed items tokens = (i : ℕ) (item : Item) (c : Container) → slice_get items i ≡ Some item
    → role_sort item.role ≡ value (Some c)
    → (item.span.end ≡ suc item.span.start) ⊎ Closes tokens c item.span.end

-- ---- the items of a text

-- The text is some tokens with nothing but gaps between them. An item begins at each token of a
-- key's part or a value, in order, and each item is right. Each is inside the innermost list or
-- table that is open, or in the part of a key before it; and each that is closed is so where it is
-- the innermost.
pub record AreItems (text : List ℕ) (items : List Item) : Type 0 where
  pub tokens : List Token
  pub are : AreTokens text 0 tokens (length text)
  pub marks : map item_mark items ≡ flat_map token_marks tokens
  pub each : EachIs text 0 items
  pub placed : ArePlaced items tokens
  pub closed : AreClosed items tokens
