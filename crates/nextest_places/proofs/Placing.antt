-- The place of a path, between two numbers of lines.
use Rattle.std.proofs.Common.{◌≡◌, ℕ, zero, suc, ◌+◌, ◌<◌, ◌≤◌, true, false, ◌==◌, List, [], ◌∷◌, Some, None, refl, sym, ap, ◌∙◌, inl, inr, ◌⊎◌, arith, add-one}
use Rattle.std.proofs.lemmas.Bool.{cases_Bool, true≢false}
use Rattle.std.specs.Option.{option_map_or}
use Rattle.nextest_tree.specs.Node.{Node}
use Rattle.nextest_documents.specs.Text.{tree_of}
use Rattle.nextest_places.specs.Lines.{first_lines, line_count}
use Rattle.nextest_places.specs.Search.{IsDocument, IsLongest, NoDocumentBetween}
use Rattle.nextest_places.proofs.Sections.{all_lines, some_of}
use Rattle.nextest_places.specs.declared.step.Step.{Step}
use Rattle.nextest_places.specs.Path.{has_path}
use Rattle.nextest_places.specs.Place.{HasNoPlace, IsPlaceOfPath, is_there_by}
use Rattle.nextest_places.proofs.Keeping.{there_later}

pub cases_le : (m n : ℕ) → (m ≤ n) ⊎ (n < m)
cases_le zero n = inl (omega arith)
cases_le (suc m) zero = inr (omega arith)
cases_le (suc m) (suc n) = elim (cases_le m n) [ inl h ↦ inl (omega arith) | inr h ↦ inr (omega arith) ]

module _ (path : List Step) (text : List ℕ) where
  -- of lines that are a document
  pub told : (n : ℕ) (document : Node) → tree_of (first_lines n text) ≡ Some document
      → is_there_by path text n ≡ has_path path document
  told n document is = rw is refl

  untold : (n : ℕ) → tree_of (first_lines n text) ≡ None → is_there_by path text n ≡ false
  untold n none = rw none refl

  -- a path that is not there by the lines of a document is not there by fewer lines
  not_before : (low : ℕ) (document : Node) → tree_of (first_lines low text) ≡ Some document
      → has_path path document ≡ false → (n : ℕ) → n ≤ low → is_there_by path text n ≡ false
  not_before low document is missing n h =
      elim (cases_Bool (is_there_by path text n)) [
        | inl there ↦ absurd (true≢false (sym (there_later path text document n low h there is) ∙ missing))
        | inr none ↦ none
      ]

  -- two numbers of lines are those of the place where the path is there by the second one and not by
  -- the first, which is a document, and none is between them
  pub place_is : (low high : ℕ) → low < high → IsDocument text low → is_there_by path text low ≡ false
      → is_there_by path text high ≡ true → NoDocumentBetween text low high
      → IsPlaceOfPath path text (record { first = low + 1; last = high })
  place_is low high order front missing there none =
      let (document, is) = some_of (tree_of (first_lines low text)) front in
      let lacks = sym (told low document is) ∙ missing in
      record {
        there = there;
        least = λ n h. elim (cases_le n low) [
          | inl before ↦ not_before low document is lacks n before
          | inr after ↦ untold n (none n after h)
        ];
        shorter = low;
        below = order;
        document = front;
        longest = none;
        first = add-one low;
      }

  -- more lines than there are
  beyond : (n : ℕ) → line_count text ≤ n → is_there_by path text n ≡ is_there_by path text (line_count text)
  beyond n h = ap (λ t. option_map_or (has_path path) (tree_of t) false)
      (all_lines text 0 n h ∙ sym (all_lines text 0 (line_count text) (omega arith)))

  by_count : ((n : ℕ) → n ≤ line_count text → is_there_by path text n ≡ false) → (n : ℕ)
      → is_there_by path text n ≡ false
  by_count none n = elim (cases_le n (line_count text)) [
    | inl h ↦ none n h
    | inr h ↦ beyond n (omega arith) ∙ none (line_count text) (omega arith)
  ]

  module _ (n : ℕ) (document : Node) (found : IsLongest text n document) where
    -- the longest document lacks the path
    pub lacking : has_path path document ≡ false → HasNoPlace path text
    lacking lacks = inr (by_count (λ m within. elim (cases_le m n) [
      | inl before ↦ not_before n document found.is lacks m before
      | inr after ↦ untold m (found.longest m after (omega arith))
    ]))
