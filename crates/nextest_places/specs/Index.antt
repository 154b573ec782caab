-- What an index of a text knows of it.
use Rattle.std.specs.Prelude.{◌≡◌, ℕ, suc, ◌==◌, ◌<◌, ◌≤◌, true, false, if◌then◌else◌, List, [], ◌∷◌, length, Option, Some, None, unwrap_or}
use Rattle.nextest_tree.specs.View.{tree_view}
use Rattle.nextest_documents.specs.Text.{tree_of}
use Rattle.nextest_places.specs.Lines.{first_lines, line_count}
use Rattle.nextest_places.specs.Search.{IsDocument, IsLongest, NoDocumentBetween}
use Rattle.nextest_places.specs.declared.entry.Entry.{Entry}
use Rattle.nextest_places.specs.declared.fronts.Front.{Front}
use Rattle.nextest_places.specs.declared.index.Index.{Index}
use Rattle.nextest_places.specs.declared.place.Lines.{Lines}
use Rattle.nextest_places.specs.declared.place.Longest.{Longest}
use Rattle.nextest_places.specs.declared.step.Step.{Step}
use Rattle.nextest_places.specs.Entries.{Outcome, found, waits, scan}
use Rattle.nextest_places.specs.Marks.{fresh}
use Rattle.nextest_places.specs.Path.{has_path}
use Rattle.nextest_places.specs.Place.{IsPlaceOfPath, is_there_by, text_has}

-- The outcome is right of a path and the first `low` lines of a text: what is found is its place,
-- and where nothing is found the path is not there by these lines.
abbrev pub IsRight : List Step → List ℕ → ℕ → Outcome → Type 0
IsRight path text low (found lines) = IsPlaceOfPath path text lines
IsRight path text low (waits ms) = is_there_by path text low ≡ false

-- The entries say of each path of the text, but the root's, where it is brought by the first `low`
-- lines, and whether it is.
pub record IsWalked (text : List ℕ) (entries : List Entry) (low : ℕ) : Type 0 where
  pub within : low ≤ line_count text
  pub front : IsDocument text low
  pub right : (path : List Step) → (length path == 0) ≡ false → text_has path text ≡ true
      → IsRight path text low (scan entries (waits (fresh path)))

-- The documents that some fronts of a text are follow one another from `low` lines up to `high`,
-- and no front between two of them is a document.
abbrev pub LeadsTo : List ℕ → ℕ → List Front → ℕ → Type 0
LeadsTo text low [] high = low ≡ high
LeadsTo text low (front ∷ fronts) high =
    (front.lines.first ≡ suc low) × (low < front.lines.last)
    × NoDocumentBetween text low front.lines.last
    × (tree_of (first_lines front.lines.last text) ≡ Some (tree_view front.document))
    × LeadsTo text front.lines.last fronts high

-- The fronts are all documents behind `low` lines of a text but the text itself, and `rest` are the
-- lines behind them, if there are some.
pub record LeadToEnd (text : List ℕ) (low : ℕ) (fronts : List Front) (rest : Lines) : Type 0 where
  pub high : ℕ
  pub leads : LeadsTo text low fronts high
  pub none : NoDocumentBetween text high rest.last
  pub first : high < rest.last → rest.first ≡ suc high
  pub within : high ≤ rest.last
  pub whole : rest.last ≡ line_count text

-- the lines of the first front that has a path
abbrev pub first_with : List Step → List Front → Option Lines
first_with path [] = None
first_with path (front ∷ fronts) =
    if has_path path (tree_view front.document) then Some front.lines else first_with path fronts

-- the lines behind the entries that define the value at a path
abbrev pub lines_behind : List Front → Lines → List Step → Lines
lines_behind fronts rest path = unwrap_or (first_with path fronts) rest

-- what the entries find, or else some lines
abbrev pub found_or : Outcome → Lines → Lines
found_or (found lines) behind = lines
found_or (waits ms) behind = behind

-- the lines that an index has for a path
abbrev pub lines_in : Index → List Step → Lines
lines_in index path =
    found_or (scan index.entries (waits (fresh path)))
    (lines_behind index.fronts.items index.rest path)

-- The index is that of a text that is a document.
pub record IsIndex (text : List ℕ) (index : Index) : Type 0 where
  pub low : ℕ
  pub walked : IsWalked text index.entries low
  pub fronts : LeadToEnd text low index.fronts.items index.rest

-- What is known of a text is its longest front that is a document, with an index of it, and whether
-- it is the whole text.
pub record IsKnown (text : List ℕ) (longest : Longest) : Type 0 where
  pub count : ℕ
  pub is : IsLongest text count (tree_view longest.document)
  pub index : IsIndex (first_lines count text) longest.index
  pub whole : longest.is_whole ≡ true → count ≡ line_count text
  pub part : longest.is_whole ≡ false → count < line_count text
