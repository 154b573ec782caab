-- The places that an index of a text tells.
use Rattle.std.proofs.Common.{◌≡◌, ℕ, zero, suc, ◌+◌, ◌<◌, ◌≤◌, true, false, ◌==◌, List, [], ◌∷◌, ◌++◌, length, Option, Some, None, MatchOption, unwrap_or, refl, sym, ap, ◌∙◌, subst, inl, inr, arith, add-one}
use Rattle.std.proofs.lemmas.Bool.{cases_Bool, cases_lt, true≢false}
use Rattle.nextest_tree.specs.View.{tree_view}
use Rattle.nextest_documents.specs.Text.{tree_of}
use Rattle.nextest_places.specs.Lines.{first_lines, line_count}
use Rattle.nextest_places.specs.Search.{IsDocument, NoDocumentBetween}
use Rattle.nextest_places.proofs.Sections.{all_lines}
use Rattle.nextest_places.specs.declared.fronts.Front.{Front}
use Rattle.nextest_places.specs.declared.index.Index.{Index}
use Rattle.nextest_places.specs.declared.place.Lines.{Lines}
use Rattle.nextest_places.specs.declared.place.Longest.{Longest}
use Rattle.nextest_places.specs.declared.step.Step.{Step}
use Rattle.nextest_places.specs.Entries.{Outcome, found, scan, waits}
use Rattle.nextest_places.specs.Index.{IsIndex, IsKnown, IsRight, LeadToEnd, LeadsTo, first_with, found_or, lines_behind, lines_in}
use Rattle.nextest_places.specs.Marks.{fresh}
use Rattle.nextest_places.specs.Path.{has_path}
use Rattle.nextest_places.specs.Place.{IsPlaceOfPath, is_there_by, text_has}
use Rattle.nextest_places.proofs.Placing.{cases_le, place_is, told}

-- lines of some lines
lines_of_lines : (k n : ℕ) (text : List ℕ) → k ≤ n → first_lines k (first_lines n text) ≡ first_lines k text
lines_of_lines zero n text h = refl
lines_of_lines (suc k) zero text h = absurd (omega (arith, h))
lines_of_lines (suc k) (suc n) [] h = refl
lines_of_lines (suc k) (suc n) (c ∷ cs) h =
    elim (cases_Bool (c == 10)) [
      | inl lf ↦ rw lf (ap (λ t. c ∷ t) (lines_of_lines k n cs (omega (arith, h))))
      | inr other ↦ rw other (ap (λ t. c ∷ t) (lines_of_lines (suc k) (suc n) cs h))
    ]

-- one more front
pub leads_more : (text : List ℕ) (low : ℕ) (fronts : List Front) (high : ℕ) (front : Front)
    → LeadsTo text low fronts high → front.lines.first ≡ suc high → high < front.lines.last
    → NoDocumentBetween text high front.lines.last
    → tree_of (first_lines front.lines.last text) ≡ Some (tree_view front.document)
    → LeadsTo text low (fronts ++ front ∷ []) front.lines.last
leads_more text low [] high front is first less none document =
    rw is (first, less, none, document, refl)
leads_more text low (f ∷ fronts) high front (a, b, c, d, leads) first less none document =
    (a, b, c, d, leads_more text f.lines.last fronts high front leads first less none document)

pub none_further : (text : List ℕ) (low high : ℕ) → NoDocumentBetween text low high
    → tree_of (first_lines high text) ≡ None
    → NoDocumentBetween text low (high + 1)
none_further text low high none here n more less =
    elim (cases_lt n high) [
      | inl before ↦ none n more before
      | inr last ↦ let same : n ≡ high = omega (arith, last, less) in rw same here
    ]

pub none_yet : (text : List ℕ) (low : ℕ) → NoDocumentBetween text low (low + 1)
none_yet text low n more less = absurd (omega (arith, more, less))

module _ (path : List Step) (text : List ℕ) where
  -- a front that defines the value at the path
  front_brings : (low : ℕ) (lines : Lines) → lines.first ≡ suc low → low < lines.last → IsDocument text low
      → is_there_by path text low ≡ false → is_there_by path text lines.last ≡ true
      → NoDocumentBetween text low lines.last → IsPlaceOfPath path text lines
  front_brings low lines first less document missing there none =
      let is : low + 1 ≡ lines.first = add-one low ∙ sym first in
      subst (λ n. IsPlaceOfPath path text (record { first = n; last = lines.last })) is
      (place_is path text low lines.last less document missing there none)

  by_fronts : (low : ℕ) (fronts : List Front) (high : ℕ) → LeadsTo text low fronts high → IsDocument text low
      → is_there_by path text low ≡ false
      → MatchOption (first_with path fronts) (IsDocument text high × (is_there_by path text high ≡ false))
      (IsPlaceOfPath path text)
  by_fronts low [] high leads document missing = rw (← leads) (document, missing)
  by_fronts low (front ∷ fronts) high (first, less, none, is, leads) document missing =
      let here = told path text front.lines.last (tree_view front.document) is in
      elim (cases_Bool (has_path path (tree_view front.document))) [
        | inl has ↦ rw has (front_brings low front.lines first less document missing (here ∙ has) none)
        | inr lacks ↦ rw lacks (by_fronts front.lines.last fronts high leads (rw is refl) (here ∙ lacks))
      ]

  -- there are lines behind lines by which the path is not there
  some_left : (high last : ℕ) → high ≤ last → is_there_by path text high ≡ false
      → is_there_by path text last ≡ true → high < last
  some_left high last within missing there =
      elim (cases_le last high) [
        | inl none ↦
            let same : high ≡ last = omega (arith, none, within) in
            absurd (true≢false (sym there ∙ ap (is_there_by path text) (sym same) ∙ missing))
        | inr more ↦ more
      ]

  in_rest : (o : Option Lines) (high : ℕ) (rest : Lines) → (high < rest.last → rest.first ≡ suc high) → high ≤ rest.last
      → NoDocumentBetween text high rest.last → is_there_by path text rest.last ≡ true
      → MatchOption o (IsDocument text high × (is_there_by path text high ≡ false)) (IsPlaceOfPath path text)
      → IsPlaceOfPath path text (unwrap_or o rest)
  in_rest None high rest first within none there (document, missing) =
      let less = some_left high rest.last within missing there in
      front_brings high rest (first less) less document missing there none
  in_rest (Some lines) high rest first within none there place = place

  pub behind_entries : (low : ℕ) (fronts : List Front) (rest : Lines) → LeadToEnd text low fronts rest
      → IsDocument text low → is_there_by path text low ≡ false → text_has path text ≡ true
      → IsPlaceOfPath path text (lines_behind fronts rest path)
  behind_entries low fronts rest are document missing has =
      let whole : is_there_by path text rest.last ≡ true =
      ap (is_there_by path text) are.whole
      ∙ ap (text_has path) (all_lines text 0 (line_count text) (omega arith)) ∙ has in
      in_rest (first_with path fronts) are.high rest are.first are.within are.none whole
      (by_fronts low fronts are.high are.leads document missing)

  by_outcome : (low : ℕ) (fronts : List Front) (rest : Lines) (o : Outcome) → LeadToEnd text low fronts rest
      → IsDocument text low → IsRight path text low o → text_has path text ≡ true
      → IsPlaceOfPath path text (found_or o (lines_behind fronts rest path))
  by_outcome low fronts rest (found lines) are document right has = right
  by_outcome low fronts rest (waits ms) are document right has = behind_entries low fronts rest are document right has

  -- the place of a path of a text that is a document
  pub index_place : (length path == 0) ≡ false → (index : Index) → IsIndex text index → text_has path text ≡ true
      → IsPlaceOfPath path text (lines_in index path)
  index_place some index is has =
      by_outcome is.low index.fronts.items index.rest (scan index.entries (waits (fresh path))) is.fronts
      is.walked.front (is.walked.right path some has) has

-- a place in a front of a text is one in the text
whole_place : (path : List Step) (text : List ℕ) (n : ℕ) (place : Lines) → text_has path (first_lines n text) ≡ true
    → IsPlaceOfPath path (first_lines n text) place → IsPlaceOfPath path text place
whole_place path text n place has is =
    elim (cases_le place.last n) [
      | inr beyond ↦
          let same : first_lines n (first_lines n text) ≡ first_lines n text = lines_of_lines n n text (omega arith) in
          absurd (true≢false (sym (ap (text_has path) same ∙ has) ∙ is.least n beyond))
      | inl within ↦
          let below = is.below in
          let keeps : (k : ℕ) → k ≤ place.last → first_lines k (first_lines n text) ≡ first_lines k text =
          λ k h. lines_of_lines k n text (omega (arith, h, within)) in
          record {
            there = ap (text_has path) (sym (keeps place.last (omega arith))) ∙ is.there;
            least = λ m less. ap (text_has path) (sym (keeps m (omega (arith, less)))) ∙ is.least m less;
            shorter = is.shorter;
            below = is.below;
            document = rw (keeps is.shorter (omega (arith, below))) at is.document;
            longest = λ m more less. ap tree_of (sym (keeps m (omega (arith, less)))) ∙ is.longest m more less;
            first = is.first;
          }
    ]

-- the place of a path of the longest front
pub known_place : (path : List Step) → (length path == 0) ≡ false → (text : List ℕ) (longest : Longest)
    → IsKnown text longest → has_path path (tree_view longest.document) ≡ true
    → IsPlaceOfPath path text (lines_in longest.index path)
known_place path some text longest is has =
    let whole : text_has path (first_lines is.count text) ≡ true = rw is.is.is has in
    whole_place path text is.count (lines_in longest.index path) whole
    (index_place path (first_lines is.count text) some longest.index is.index whole)
