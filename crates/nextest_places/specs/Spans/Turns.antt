-- What a token does to what was read.
use Rattle.std.specs.Prelude.{◌≡◌, ◌<◌, ◌-◌, Bool, false, ℕ, List, [], ◌∷◌, ◌++◌, if◌then◌else◌, map, slice_get, Option, Some, None, IfSome, String}
use Rattle.std.specs.Str.{IsCharBoundary}
use Rattle.std.specs.List.{slice_set}
use Rattle.std.specs.declared.alloc.Global.{Global}
use Rattle.nextest_places.specs.declared.spans.item.Item.{Item}
use Rattle.nextest_places.specs.declared.spans.item.Role.{Role}
use Rattle.nextest_places.specs.declared.spans.reader.Holder.{Holder}
use Rattle.nextest_places.specs.declared.spans.reader.Reader.{Reader}
use Rattle.nextest_places.specs.declared.spans.reader.Turn.{Turn}
use Rattle.nextest_places.specs.declared.spans.reader.Turn.TheVariants.{Nothing, Begins, Closes}
use Rattle.nextest_places.specs.declared.spans.token.Container.{Container}
use Rattle.nextest_places.specs.declared.spans.token.TokenKind.{TokenKind}
use Rattle.nextest_places.specs.declared.spans.token.TokenKind.TheVariants as kinds
use Rattle.nextest_places.specs.Spans.Items.{key_part, role_sort, value}
use Rattle.nextest_places.specs.Spans.Nesting.{last_of}
use Rattle.nextest_places.specs.Spans.Tree.{is_heading, is_pair, parent_of}

abbrev pub holder_pair : Holder → ℕ × Container
holder_pair holder = (holder.item, holder.container)

-- the lists and tables that are not closed, from the outermost
abbrev pub holders : Reader → List (ℕ × Container)
holders reader = map holder_pair reader.held.items

-- the index, if it is below another
abbrev pub IsKept : ℕ → Option ℕ → Option ℕ → Type 0
IsKept index wanted kept = IfSome kept (λ i. i < index)
    × (IfSome wanted (λ i. i < index) → kept ≡ wanted)

-- what is read of sections is the same, and no part of a key is before what follows
abbrev pub IsBehind : Reader → Reader → Type 0
IsBehind old new =
    (new.key ≡ None) × (new.section ≡ old.section) × (new.kind ≡ old.kind)

-- a header begins
abbrev pub IsHeaderTurn : Reader → Reader → Turn → Type 0
IsHeaderTurn old new Nothing = (new.key ≡ None) × (new.section ≡ None)
    × (is_pair new.kind ≡ false) × (holders new ≡ holders old)
IsHeaderTurn old new _ = ⊥

-- a part of a key begins an item
pub record IsPart (old new : Reader) (index : ℕ) (heading : Bool) (wanted : Option ℕ)
    (name : Option (String Global)) (parent : Option ℕ) (role : Role) : Type 0 where
  pub sort : role_sort role ≡ key_part name
  pub heads : is_pair old.kind ≡ false → is_heading role ≡ heading
  pub stands : IsKept index wanted parent
  pub key : new.key ≡ Some index
  pub section : new.section ≡ (if heading then Some index else old.section)
  pub kind : new.kind ≡ old.kind
  pub held : holders new ≡ holders old

abbrev pub IsPartTurn : Reader → Reader → ℕ → Bool → Option ℕ → Option (String Global) → Turn
    → Type 0
IsPartTurn old new index heading wanted name (Begins parent role) =
    IsPart old new index heading wanted name parent role
IsPartTurn old new index heading wanted name _ = ⊥

-- a value begins an item, and these are open behind it
pub record IsValue (old new : Reader) (index : ℕ) (wanted : Option ℕ)
    (container : Option Container) (held : List (ℕ × Container)) (parent : Option ℕ) (role : Role)
    : Type 0 where
  pub sort : role_sort role ≡ value container
  pub stands : IsKept index wanted parent
  pub behind : IsBehind old new
  pub opens : holders new ≡ held

abbrev pub IsValueTurn : Reader → Reader → ℕ → Option ℕ → Option Container
    → List (ℕ × Container) → Turn → Type 0
IsValueTurn old new index wanted container held (Begins parent role) =
    IsValue old new index wanted container held parent role
IsValueTurn old new index wanted container held _ = ⊥

-- the innermost that is open is closed, if one is
abbrev pub IsCloseTurn : Reader → Reader → Turn → Type 0
IsCloseTurn old new (Begins parent role) = ⊥
IsCloseTurn old new Nothing = IsBehind old new × (holders old ≡ []) × (holders new ≡ [])
IsCloseTurn old new (Closes i) = IsBehind old new
    × (c : Container) × (holders old ≡ holders new ++ (i, c) ∷ [])

-- nothing changes
abbrev pub IsOtherTurn : Reader → Reader → Turn → Type 0
IsOtherTurn old new Nothing = IsBehind old new × (holders new ≡ holders old)
IsOtherTurn old new _ = ⊥

-- what an item at a token is inside
abbrev pub wanted_for : TokenKind → Bool → Reader → Option ℕ
wanted_for kind heading reader =
    parent_of kind heading reader.key (last_of (holders reader)) reader.section

-- what a token of this kind does with so many items before it, in a header or not
abbrev pub IsTurn : Reader → Reader → ℕ → Bool → TokenKind → Turn → Type 0
IsTurn old new index heading kinds.TableHeader turn = IsHeaderTurn old new turn
IsTurn old new index heading kinds.ElementHeader turn = IsHeaderTurn old new turn
IsTurn old new index heading (kinds.Key name) turn =
    IsPartTurn old new index heading (wanted_for (kinds.Key name) heading old) name turn
IsTurn old new index heading (kinds.Dotted name) turn =
    IsPartTurn old new index heading (wanted_for (kinds.Dotted name) heading old) name turn
IsTurn old new index heading (kinds.Open c) turn =
    IsValueTurn old new index (wanted_for (kinds.Open c) heading old) (Some c)
    (holders old ++ (index, c) ∷ []) turn
IsTurn old new index heading (kinds.Close c) turn = IsCloseTurn old new turn
IsTurn old new index heading kinds.String turn =
    IsValueTurn old new index (wanted_for kinds.String heading old) None (holders old) turn
IsTurn old new index heading kinds.Word turn =
    IsValueTurn old new index (wanted_for kinds.Word heading old) None (holders old) turn
IsTurn old new index heading kinds.Other turn = IsOtherTurn old new turn

-- an item ends at a byte
pub record IsEnded (end : ℕ) (item ended : Item) : Type 0 where
  pub parent : ended.parent ≡ item.parent
  pub role : ended.role ≡ item.role
  pub span : ended.span ≡ record { start = item.span.start; end = end }

-- the item at an index ends at a byte, if it is a list or a table with whole characters up to it
abbrev pub Ends : List ℕ → ℕ → ℕ → List Item → List Item → Type 0
Ends text index end old new = (item : Item) (c : Container) → slice_get old index ≡ Some item
    → role_sort item.role ≡ value (Some c) → item.span.start < end
    → IsCharBoundary text item.span.start → IsCharBoundary text end
    → (ended : Item) × IsEnded end item ended × (new ≡ slice_set old index ended)
