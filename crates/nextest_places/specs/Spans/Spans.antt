-- Where the value at a path is written in a text.
use Rattle.std.specs.Prelude.{◌≡◌, ◌≤◌, ◌+◌, Bool, true, false, ℕ, List, [], ◌∷◌, map, slice_get, Option, Some, IfSome, option_and_then, option_map}
use Rattle.std.specs.Str.{IsCharBoundary}
use Rattle.toml.specs.Data.{Data, at, get, table}
use Rattle.toml.specs.Parse.{parse_document}
use Rattle.nextest_places.specs.Place.{IsPlaceOfPath}
use Rattle.nextest_places.specs.declared.place.Lines.{Lines}
use Rattle.nextest_places.specs.declared.step.Step.{Step}
use Rattle.nextest_places.specs.declared.step.Step.TheVariants as steps
use Rattle.nextest_places.specs.Spans.Nodes.{ReadsAs, joined, nodes_of}
use Rattle.nextest_places.specs.Spans.Tree.{AreItems}
use Rattle.nextest_places.specs.declared.spans.item.Item.{Item}
use Rattle.nextest_places.specs.declared.spans.item.Role.{Role}
use Rattle.nextest_places.specs.declared.spans.item.Role.TheVariants as role
use Rattle.nextest_places.specs.declared.spans.token.Span.{Span}
use Rattle.nextest_places.specs.Spans.Positions.{position_of}
use Rattle.nextest_places.specs.declared.spans.position.ColumnUnit.TheVariants.{Char}
use Rattle.nextest_places.specs.Spans.Paths.{IsAtPath, path_step}
use Rattle.nextest_places.specs.declared.spans.path_spans.PathSpan.{PathSpan}

-- the line of a byte, from 1
abbrev pub line_of : List ℕ → ℕ → ℕ
line_of text byte = (position_of Char text byte).line + 1

-- some whole characters of a text lie on some of its lines
pub record IsOnLines (text : List ℕ) (lines : Lines) (span : Span) : Type 0 where
  pub start : IsCharBoundary text span.start
  pub end : IsCharBoundary text span.end
  pub first : lines.first ≤ line_of text span.start
  pub last : line_of text span.end ≤ lines.last

-- what a step leads to
abbrev pub data_into : Step → Data → Option Data
data_into (steps.Key k) node = get k.now node
data_into (steps.Position i) node = at i node

-- the value at a path of a document
abbrev pub data_at : List Step → Data → Option Data
data_at [] node = Some node
data_at (step ∷ path) node = option_and_then (data_at path) (data_into step node)

-- the text is this document
abbrev pub IsDocumentOf : List ℕ → Data → Type 0
IsDocumentOf text root = option_map table (parse_document text) ≡ Some root

-- the text is a document, and this is the value at the path
pub record StandsAt (path : List Step) (text : List ℕ) (node : Data) : Type 0 where
  pub root : Data
  pub is : IsDocumentOf text root
  pub at : data_at path root ≡ Some node

abbrev pub is_key : Role → Bool
is_key (role.Key name kind element) = true
is_key (role.Value position container) = false

-- one of the items is at the path, in these lines of the text
pub record IsSpanOf (text : List ℕ) (items : List Item) (path : List Step)
    (lines : Lines) (span : Span) (item : Item) : Type 0 where
  pub index : ℕ
  pub among : slice_get items index ≡ Some item
  pub leads : IsAtPath items item (map path_step path)
  pub span_is : span ≡ item.span
  pub on_lines : IsOnLines text lines span

-- a part of a key at the path
pub record IsKeyOf (text : List ℕ) (items : List Item) (path : List Step)
    (lines : Lines) (span : Span) : Type 0 where
  pub item : Item
  pub is : IsSpanOf text items path lines span item
  pub sort : is_key item.role ≡ true

-- a value at the path, whose bytes read as a node
pub record IsValueOf (text : List ℕ) (items : List Item) (path : List Step)
    (lines : Lines) (node : Data) (span : Span) : Type 0 where
  pub item : Item
  pub is : IsSpanOf text items path lines span item
  pub sort : is_key item.role ≡ false
  pub reads : ReadsAs text item node

-- The lines are those that define the value at the path. On them lie the key and the value, of
-- which the bytes of the value read as the value there.
pub record IsPathSpan (path : List Step) (text : List ℕ) (found : PathSpan) : Type 0 where
  pub place : IsPlaceOfPath path text found.lines
  pub items : List Item
  pub are : AreItems text items
  pub key : IfSome found.key (IsKeyOf text items path found.lines)
  pub value : IfSome found.value (λ span.
      (node : Data) × StandsAt path text node × IsValueOf text items path found.lines node span)

-- there is a node, and an item is a value whose bytes read as it
abbrev pub ReadsAsNode : List ℕ → Item → Option Data → Type 0
ReadsAsNode text item found =
    (node : Data) × (found ≡ Some node) × (is_key item.role ≡ false) × ReadsAs text item node

-- the text is a document, in which an item leads to a node that its bytes read as
pub record IsReadable (text : List ℕ) (items : List Item) (index : ℕ) (item : Item) : Type 0 where
  pub root : Data
  pub node : Data
  pub is : IsDocumentOf text root
  pub leads : slice_get (nodes_of root items) index ≡ Some (Some node)
  pub sort : is_key item.role ≡ false
  pub reads : ReadsAs text item node

-- each item that is marked is a value whose bytes read as its node
abbrev pub AreMarked : List ℕ → List Item → List (Option Data) → List Bool → Type 0
AreMarked text items nodes marks = (i : ℕ) (item : Item) → slice_get marks i ≡ Some true
    → slice_get items i ≡ Some item → ReadsAsNode text item (joined (slice_get nodes i))

-- an item is marked only if its bytes read as the value there in the document that the text is
abbrev pub AreReadable : List ℕ → List Item → List Bool → Type 0
AreReadable text items marks = (i : ℕ) (item : Item) → slice_get marks i ≡ Some true
    → slice_get items i ≡ Some item → IsReadable text items i item

-- nothing is marked: the marks are right for any items of any text
abbrev pub IsUnmarked : List Bool → Type 0
IsUnmarked marks = (text : List ℕ) (items : List Item) → AreReadable text items marks

-- a marked item is at the path, in these lines of the text
pub record IsMarkedAt (text : List ℕ) (items : List Item) (marks : List Bool) (path : List Step)
    (lines : Lines) (span : Span) : Type 0 where
  pub index : ℕ
  pub item : Item
  pub marked : slice_get marks index ≡ Some true
  pub among : slice_get items index ≡ Some item
  pub leads : IsAtPath items item (map path_step path)
  pub span_is : span ≡ item.span
  pub on_lines : IsOnLines text lines span

-- what is kept of a text
pub record IsKept (text lines : List ℕ) (items : List Item) (marks : List Bool) (places : List ℕ)
    : Type 0 where
  pub are : AreItems text items
  pub readable : AreReadable text items marks
  pub same_lines : lines ≡ text
  pub same : places ≡ text
