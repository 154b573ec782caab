-- The text of a document with edits.
use Rattle.std.specs.Prelude.{ℕ, suc, ◌==◌, List, [], ◌++◌, codes, decimal, flat_map, length, Option, None, Some, option_map, if◌then◌else◌}
use Rattle.std.specs.Fmt.{signed_decimal}
use Rattle.std.specs.Option.{option_to_list}
use Rattle.nextest_places.specs.Spans.Paths as paths
use Rattle.nextest_tree.specs.Node.{Node, Nodes, Entries}
use Rattle.rinqebo_report.specs.Joined.{joined}
use Rattle.rinqebo_report.specs.TomlText.{quoted}
use Rattle.rinqebo_faults.specs.Edits.{EditsView, mark_below}

-- a value that is neither a table nor an array: a text in quotes, a number in decimal, a truth
-- value as its word, and a value that no reader knows as `0.0`
abbrev pub scalar_text : Node → List ℕ
scalar_text (Node.text given) = quoted given
scalar_text (Node.int number) = signed_decimal number
scalar_text (Node.bool flag) = if flag then codes "true" else codes "false"
scalar_text _ = codes "0.0"

-- what is read of a value: its replacement, or the value as it is written
abbrev pub replaced_text : Option (List ℕ) → (written : List ℕ) → List ℕ
replaced_text (Some replacement) written = replacement
replaced_text None written = written

-- what is read of the value at a mark, unless it is left out
abbrev pub text_at : EditsView → (mark written : List ℕ) → Option (List ℕ)
text_at edits mark written =
    if edits.removed mark then None else Some (replaced_text (edits.replaced mark) written)

-- a key of a table with what is there
abbrev pub entry_text : (key value : List ℕ) → List ℕ
entry_text key value = quoted key ++ (codes " = " ++ value)

-- an item of an array
abbrev pub item_text : List ℕ → List ℕ
item_text value = value ++ codes ", "

-- texts with a separator between each two
abbrev pub separated : (separator : List ℕ) → List (List ℕ) → List ℕ
separated separator texts = joined separator (λ part. part) texts

-- the entries of a table, and behind them what is added
abbrev pub table_text : (separator : List ℕ) → List (List ℕ) → Option (List ℕ) → List ℕ
table_text separator entries more = separated separator (entries ++ option_to_list more)

abbrev mutual
  -- a value as it is written, with the edits below its mark
  pub written_text : EditsView → (mark : List ℕ) → Node → List ℕ
  written_text edits mark (Node.table es) =
      codes "{ " ++ (table_text (codes ", ") (entry_texts edits mark es) (edits.added mark)
      ++ codes " }")
  written_text edits mark (Node.array ns) =
      codes "[" ++ (flat_map item_text (item_texts edits mark 0 ns) ++ codes "]")
  written_text edits mark n = scalar_text n

  -- the items of an array that are not left out, from a position on
  pub item_texts : EditsView → (mark : List ℕ) → (position : ℕ) → Nodes → List (List ℕ)
  item_texts edits mark position Nodes.no_nodes = []
  item_texts edits mark position (Nodes.node n ns) =
      let below = mark_below mark (paths.position position) in
      option_to_list (text_at edits below (written_text edits below n))
      ++ item_texts edits mark (suc position) ns

  -- the entries of a table that are not left out
  pub entry_texts : EditsView → (mark : List ℕ) → Entries → List (List ℕ)
  entry_texts edits mark Entries.no_entries = []
  entry_texts edits mark (Entries.entry k n es) =
      let below = mark_below mark (paths.key k) in
      option_to_list (option_map (entry_text k) (text_at edits below (written_text edits below n)))
      ++ entry_texts edits mark es

-- a value with the edits at its mark and below
abbrev pub edited_text : EditsView → (mark : List ℕ) → Node → List ℕ
edited_text edits mark n = replaced_text (edits.replaced mark) (written_text edits mark n)

-- the document of the source at a place among the layers, with edits: what is no table is empty
abbrev pub edited_document_text : EditsView → (place : ℕ) → Node → List ℕ
edited_document_text edits place (Node.table es) =
    let mark = decimal place in
    table_text (codes "\n") (entry_texts edits mark es) (edits.added mark)
edited_document_text edits place _ = []

-- a text that more goes behind: a separator is between them, if the text has something
abbrev pub before_more : (separator text : List ℕ) → List ℕ
before_more separator text = if length text == 0 then text else text ++ separator

-- a text with a part behind it, if there is one
abbrev pub with_part : (separator text : List ℕ) → Option (List ℕ) → List ℕ
with_part separator text None = text
with_part separator text (Some part) = before_more separator text ++ part
