-- The places of the ids of a table.
use Rattle.std.proofs.Common.{◌≡◌, ◌⊎◌, ℕ, true, List, [], ◌∷◌, ◌++◌, map, String, Global, string_bytes, Bor, Option, Some, None, IsSome, is_some, sym, ap, ◌∙◌, inl, inr}
use Rattle.std.proofs.lemmas.Bool.{true≢false}
use Rattle.std.proofs.lemmas.List.{append_assoc, map-append}
use Rattle.std.specs.List.{AllByRecursion}
use Rattle.nextest_documents.specs.Shown.{Path}
use Rattle.nextest_places.specs.declared.entry.Entry.{Entry}
use Rattle.nextest_places.specs.declared.fronts.Front.{Front}
use Rattle.nextest_places.specs.declared.id_lines.IdLines.{IdLines}
use Rattle.nextest_places.specs.declared.order.PlacedId.{PlacedId}
use Rattle.nextest_places.specs.declared.place.Lines.{Lines}
use Rattle.nextest_places.specs.declared.step.Step.{Step}
use Rattle.nextest_places.specs.declared.step.Step.TheVariants.{Key}
use Rattle.nextest_places.specs.Entries.{scan, waits}
use Rattle.nextest_places.specs.Ids.{AreStepsOf, lines_for, outcome_by, placed_id}
use Rattle.nextest_places.specs.Index.{IsRight, IsWalked, LeadToEnd, lines_behind}
use Rattle.nextest_places.specs.Marks.{fresh}
use Rattle.nextest_places.specs.Order.{IsPlace}
use Rattle.nextest_places.specs.Place.{text_has}
use Rattle.nextest_places.specs.Standing.{stands_in}
use Rattle.nextest_places.proofs.Indexed.{behind_entries}
use Rattle.nextest_places.proofs.KeyPaths.{id_place, not_root, stands_is}

-- entries bring all ids that are left, or the fronts behind them are known
abbrev pub AreKnown : List ℕ → ℕ → IdLines → List Front → Lines → List (String Global) → Type 0
AreKnown text low found fronts rest ids =
    AllByRecursion (λ id. IsSome (lines_for found (string_bytes id))) ids ⊎ LeadToEnd text low fronts rest

pub known_rest : (text : List ℕ) (low : ℕ) (found : IdLines) (fronts : List Front) (rest : Lines) (id : String Global)
    (ids : List (String Global)) → AreKnown text low found fronts rest (id ∷ ids)
    → AreKnown text low found fronts rest ids
known_rest text low found fronts rest id ids (inl all) = inl all.1
known_rest text low found fronts rest id ids (inr lead) = inr lead

-- ids that are in the text, and facts of each of them in turn
pub stand_rest : (path : Path) (text : List ℕ) (id : String Global) (ids : List (String Global))
    → AllByRecursion (λ id. stands_in path text id ≡ true) (map string_bytes (id ∷ ids))
    → AllByRecursion (λ id. stands_in path text id ≡ true) (map string_bytes ids)
stand_rest path text id ids h = h.1

pub placed_more : (path : Path) (text : List ℕ) (ps : List PlacedId) (p : PlacedId)
    → AllByRecursion (λ p. IsPlace path text (placed_id p) p.last) ps → IsPlace path text (placed_id p) p.last
    → AllByRecursion (λ p. IsPlace path text (placed_id p) p.last) (ps ++ p ∷ [])
placed_more path text [] p all is = (is, tt)
placed_more path text (q ∷ ps) p all is = (all.0, placed_more path text ps p all.1 is)

-- one more id with its place
pub placed_next : (path : Path) (text : List ℕ) (ids : List (List ℕ)) (low : ℕ) (found : IdLines) (fronts : List Front)
    (rest : Lines) (ps : List PlacedId) (p : PlacedId) (left : List (String Global))
    → map placed_id ps ++ map string_bytes (p.id ∷ left) ≡ ids
    → AllByRecursion (λ p. IsPlace path text (placed_id p) p.last) ps
    → AllByRecursion (λ id. stands_in path text id ≡ true) (map string_bytes (p.id ∷ left))
    → AreKnown text low found fronts rest (p.id ∷ left) → IsPlace path text (placed_id p) p.last
    → (map placed_id (ps ++ p ∷ []) ++ map string_bytes left ≡ ids)
    × AllByRecursion (λ p. IsPlace path text (placed_id p) p.last) (ps ++ p ∷ [])
    × AllByRecursion (λ id. stands_in path text id ≡ true) (map string_bytes left)
    × AreKnown text low found fronts rest left
placed_next path text ids low found fronts rest ps p left all placed stand known is = (
  ap (λ l. l ++ map string_bytes left) (map-append placed_id ps (p ∷ []))
      ∙ append_assoc (map placed_id ps) (placed_id p ∷ []) (map string_bytes left) ∙ all,
  placed_more path text ps p placed is,
  stand_rest path text p.id left stand,
  known_rest text low found fronts rest p.id left known,
)

module _ (path : Path) (text : List ℕ) (table : List Step) (are : AreStepsOf path table) (entries : List Entry)
    (low : ℕ) (walked : IsWalked text entries low) (found : IdLines)
    (lines_are : (id : Bor (List ℕ)) → scan entries (waits (fresh (table ++ Key id ∷ [])))
    ≡ outcome_by (lines_for found id.now) (fresh (table ++ Key id ∷ []))) where
  id_right : (id : Bor (List ℕ)) (o : Option Lines) → o ≡ lines_for found id.now → stands_in path text id.now ≡ true
      → IsRight (table ++ Key id ∷ []) text low (outcome_by o (fresh (table ++ Key id ∷ [])))
  id_right id o is stands =
      let has : text_has (table ++ Key id ∷ []) text ≡ true = sym (stands_is path table are id text) ∙ stands in
      rw (lines_are id, ← is) at (walked.right (table ++ Key id ∷ []) (not_root table id) has)

  -- an id that an entry brings
  pub own_place : (id : Bor (List ℕ)) (lines : Lines) → Some lines ≡ lines_for found id.now
      → stands_in path text id.now ≡ true → IsPlace path text id.now lines.last
  own_place id lines is stands = id_place path table are id text lines (id_right id (Some lines) is stands)

  -- an id that none brings
  pub place_behind : (id : Bor (List ℕ)) (s : String Global) (ids : List (String Global)) (fronts : List Front)
      (rest : Lines) → id.now ≡ string_bytes s → AreKnown text low found fronts rest (s ∷ ids)
      → None ≡ lines_for found id.now → stands_in path text id.now ≡ true
      → IsPlace path text id.now (lines_behind fronts rest (table ++ Key id ∷ [])).last
  place_behind id s ids fronts rest same (inl all) none stands =
      absurd (true≢false (sym all.0 ∙ ap (λ t. is_some (lines_for found t)) (sym same) ∙ ap is_some (sym none)))
  place_behind id s ids fronts rest same (inr lead) none stands =
      let has : text_has (table ++ Key id ∷ []) text ≡ true = sym (stands_is path table are id text) ∙ stands in
      id_place path table are id text _
      (behind_entries (table ++ Key id ∷ []) text low fronts rest lead walked.front (id_right id None none stands) has)
