-- The longest front of a text, which may be the whole text, and what is known of it.
use Rattle.std.proofs.Common.{◌≡◌, ◌∙◌, ℕ, suc, ◌<◌, ◌==◌, Bool, true, false, List, [], Some, None, ap, arith, refl, sym}
use Rattle.std.proofs.lemmas.Bool.{true≢false}
use Rattle.toml.proofs.OnLiterals.{toml_on_literals}
use Rattle.nextest_tree.specs.Node.{Node, table, no_entries}
use Rattle.nextest_tree.specs.View.{tree_view}
use Rattle.nextest_documents.specs.Text.{tree_of}
use Rattle.nextest_places.specs.Index.{IsIndex, IsKnown}
use Rattle.nextest_places.specs.Lines.{first_lines, line_count}
use Rattle.nextest_places.specs.Search.{IsLongest, NoDocumentBetween}
use Rattle.nextest_places.specs.declared.place.Longest.{Longest}
use Rattle.nextest_places.proofs.Sections.{all_lines}

no_lines : tree_of [] ≡ Some (table no_entries)
unfolding toml_on_literals
no_lines = refl

-- no lines, where no more are a document
pub longest_of_none : (text : List ℕ) → NoDocumentBetween text 0 (suc (line_count text))
    → IsLongest text 0 (table no_entries)
longest_of_none text none = record { within = omega arith; is = no_lines; longest = none }

all : (text : List ℕ) → first_lines (line_count text) text ≡ text
all text = all_lines text 0 (line_count text) (omega arith)

-- the whole text, if it is a document
pub longest_whole : (text : List ℕ) (n : Node) → tree_of text ≡ Some n → IsLongest text (line_count text) n
longest_whole text n is = record {
  within = omega arith;
  is = ap tree_of (all text) ∙ is;
  longest = λ k more less. absurd (omega (arith, more, less));
}

pub known_whole : (text : List ℕ) (longest : Longest) → longest.is_whole ≡ true
    → tree_of text ≡ Some (tree_view longest.document) → IsIndex text longest.index → IsKnown text longest
known_whole text longest whole is index = record {
  count = line_count text;
  is = longest_whole text (tree_view longest.document) is;
  index = rw (all text) index;
  whole = λ h. refl;
  part = λ h. absurd (true≢false (sym whole ∙ h));
}

-- the document that the text is
pub whole_known : (text : List ℕ) (longest : Longest) → IsKnown text longest → longest.is_whole ≡ true
    → tree_of text ≡ Some (tree_view longest.document)
whole_known text longest known whole =
    ap tree_of (sym (ap (λ n. first_lines n text) (known.whole whole) ∙ all text)) ∙ known.is.is

-- it is none
pub part_known : (text : List ℕ) (longest : Longest) → IsKnown text longest → longest.is_whole ≡ false
    → tree_of text ≡ None
part_known text longest known part =
    ap tree_of (sym (all text)) ∙ known.is.longest (line_count text) (known.part part) (omega arith)
