-- What expressions bring of the ids of a table.
use Rattle.std.proofs.Common.{◌≡◌, ℕ, ◌+◌, ◌<◌, ◌≤◌, true, false, cond, List, [], ◌∷◌, ◌++◌, length, get_or, drop, String, Global, string_bytes, Bor, Option, Some, None, is_some, refl, sym, ap, ◌∙◌, inl, inr}
use Rattle.std.proofs.lemmas.Bool.{cases_Bool, false≢true}
use Rattle.std.proofs.lemmas.List.{drop_all, drop_more, drop-map}
use Rattle.std.proofs.lemmas.Slice.Eq.{bytes_eq-Decides}
use Rattle.std.specs.Option.{option_or}
use Rattle.std.specs.Str.{bytes_eq}
use Rattle.toml_parser.specs.Reading.{path_view}
use Rattle.nextest_places.specs.declared.entry.Aim.{Aim}
use Rattle.nextest_places.specs.declared.entry.Aim.TheVariants.{Elsewhere, Brings}
use Rattle.nextest_places.specs.declared.entry.Entry.{Entry}
use Rattle.nextest_places.specs.declared.entry.Kind.{Kind}
use Rattle.nextest_places.specs.declared.entry.Kind.TheVariants.{Pair, Table, Element}
use Rattle.nextest_places.specs.declared.place.Lines.{Lines}
use Rattle.nextest_places.specs.declared.step.Step.{Step}
use Rattle.nextest_places.specs.declared.step.Step.TheVariants.{Key, Position}
use Rattle.nextest_places.specs.Entries.{aim_along, aim_at_key, outcome_behind, outcome_of, scan}
use Rattle.nextest_places.specs.Ids.{AreKeys, outcome_by}
use Rattle.nextest_places.specs.Marks.{Mark, fresh, missing, seen, turn}
use Rattle.nextest_places.proofs.Aiming.{turn_brings, turn_elsewhere}
use Rattle.nextest_places.proofs.Found.{scan_stays}

-- what an expression has to do with a path and one more key, by what it has to do with the path and
-- the parts of its key behind it
abbrev aim_on : Kind → List ℕ → Aim → List (List ℕ) → Aim
aim_on kind id Elsewhere parts = Elsewhere
aim_on kind id Brings [] = aim_at_key kind
aim_on kind id Brings (part ∷ parts) = cond (bytes_eq id part) Brings Elsewhere

aim_next : (kind : Kind) (parts : List (List ℕ)) (table : List Step) → AreKeys table
    → (id : Bor (List ℕ)) → aim_along kind parts (table ++ Key id ∷ [])
    ≡ aim_on kind id.now (aim_along kind parts table) (drop (length table) parts)
aim_next kind [] [] h id = refl
aim_next kind (p ∷ ps) [] h id = refl
aim_next Pair [] (Key k ∷ table) h id = refl
aim_next Table [] (Key k ∷ table) h id = refl
aim_next Element [] (Key k ∷ table) h id = refl
aim_next kind (p ∷ ps) (Key k ∷ table) h id =
    elim (cases_Bool (bytes_eq k.now p)) [
      | inl same ↦ rw same (aim_next kind ps table h id)
      | inr other ↦ rw other refl
    ]
aim_next kind [] (Position i ∷ table) h id = absurd h
aim_next kind (p ∷ ps) (Position i ∷ table) h id = absurd h

module _ (kind : Kind) (parts : List (String Global)) (table : List Step) (keys : AreKeys table) (id : Bor (List ℕ)) where
  aim_is : (a : Aim) → a ≡ aim_along kind (path_view parts) table
      → aim_along kind (path_view parts) (table ++ Key id ∷ [])
      ≡ aim_on kind id.now a (path_view (drop (length table) parts))
  aim_is a is =
      aim_next kind (path_view parts) table keys id
      ∙ ap (aim_on kind id.now (aim_along kind (path_view parts) table))
      (drop-map string_bytes (length table) parts)
      ∙ ap (λ b. aim_on kind id.now b (path_view (drop (length table) parts))) (sym is)

  pub brings_none : Elsewhere ≡ aim_along kind (path_view parts) table
      → aim_along kind (path_view parts) (table ++ Key id ∷ []) ≡ Elsewhere
  brings_none is = aim_is Elsewhere is

  pub brings_one : (s : String Global) → Brings ≡ aim_along kind (path_view parts) table
      → length table < length parts → s ≡ get_or parts (length table) s
      → aim_along kind (path_view parts) (table ++ Key id ∷ [])
      ≡ cond (bytes_eq id.now (string_bytes s)) Brings Elsewhere
  brings_one s is there part =
      let this : get_or parts (length table) s ≡ s = sym part in
      aim_is Brings is ∙ rw (drop_more parts (length table) s there, this) refl

  pub brings_rest : Brings ≡ aim_along kind (path_view parts) table → length parts ≤ length table
      → aim_along kind (path_view parts) (table ++ Key id ∷ []) ≡ aim_at_key kind
  brings_rest is none = aim_is Brings is ∙ rw (drop_all (length table) parts none) refl

pub keys_more : (table : List Step) → AreKeys table → (id : Bor (List ℕ)) → AreKeys (table ++ Key id ∷ [])
keys_more [] keys id = tt
keys_more (Key k ∷ table) keys id = keys_more table keys id
keys_more (Position i ∷ table) keys id = absurd keys

-- an entry behind what was found of a path
module _ (entry : Entry) (path : List Step) where
  passed : (o : Option Lines) → turn entry.kind (path_view entry.parts.items) (fresh path) ≡ missing (fresh path)
      → outcome_behind entry (outcome_by o (fresh path)) ≡ outcome_by o (fresh path)
  passed None is = ap (outcome_of entry.lines (fresh path)) is
  passed (Some lines) is = refl

  met : (o : Option Lines) → turn entry.kind (path_view entry.parts.items) (fresh path) ≡ seen
      → outcome_behind entry (outcome_by o (fresh path)) ≡ outcome_by (option_or o (Some entry.lines)) (fresh path)
  met None is = ap (outcome_of entry.lines (fresh path)) is
  met (Some lines) is = refl

  pub passes : (o : Option Lines) → AreKeys path → aim_along entry.kind (path_view entry.parts.items) path ≡ Elsewhere
      → outcome_behind entry (outcome_by o (fresh path)) ≡ outcome_by o (fresh path)
  passes o keys is = passed o (turn_elsewhere entry.kind (path_view entry.parts.items) path keys is)

  pub meets : (o : Option Lines) → aim_along entry.kind (path_view entry.parts.items) path ≡ Brings
      → outcome_behind entry (outcome_by o (fresh path)) ≡ outcome_by (option_or o (Some entry.lines)) (fresh path)
  meets o is = met o (turn_brings entry.kind (path_view entry.parts.items) path is)

-- entries behind what is found
pub scan_over : (entries : List Entry) (o : Option Lines) (lines : Lines) (ms : List Mark)
    → scan entries (outcome_by (option_or o (Some lines)) ms) ≡ outcome_by (option_or o (Some lines)) ms
scan_over entries None lines ms = scan_stays entries lines
scan_over entries (Some old) lines ms = scan_stays entries old

some_stays : (o : Option Lines) (lines : Lines) → is_some o ≡ true → option_or o (Some lines) ≡ o
some_stays None lines h = absurd (false≢true h)
some_stays (Some old) lines h = refl

pub apart : (j k : List ℕ) → bytes_eq j k ≡ false → bytes_eq k j ≡ false
apart j k other =
    elim (cases_Bool (bytes_eq k j)) [
      | inl same ↦ absurd (false≢true (sym other ∙ (bytes_eq-Decides j k).1 (sym ((bytes_eq-Decides k j).0 same))))
      | inr still ↦ still
    ]

-- what is kept of an id behind an entry that brings the id k
module _ (entry : Entry) (path : List Step) (keys : AreKeys path) (id k : List ℕ) (o : Option Lines)
    (aim : aim_along entry.kind (path_view entry.parts.items) path ≡ cond (bytes_eq id k) Brings Elsewhere) where
  pub now_kept : (new : Option Lines) → (id ≡ k → o ≡ None) → new ≡ cond (bytes_eq k id) (Some entry.lines) o
      → outcome_behind entry (outcome_by o (fresh path)) ≡ outcome_by new (fresh path)
  now_kept new none is =
      elim (cases_Bool (bytes_eq id k)) [
        | inl same ↦
            let equal : id ≡ k = (bytes_eq-Decides id k).0 same in
            let back : bytes_eq k id ≡ true = (bytes_eq-Decides k id).1 (sym equal) in
            let lines : new ≡ Some entry.lines = is ∙ rw back refl in
            meets entry path o (aim ∙ rw same refl)
            ∙ ap (λ n. outcome_by n (fresh path)) (ap (λ p. option_or p (Some entry.lines)) (none equal) ∙ sym lines)
        | inr other ↦
            let lines : new ≡ o = is ∙ rw (apart id k other) refl in
            passes entry path o keys (aim ∙ rw other refl) ∙ ap (λ n. outcome_by n (fresh path)) (sym lines)
      ]

  pub still_kept : (id ≡ k → is_some o ≡ true)
      → outcome_behind entry (outcome_by o (fresh path)) ≡ outcome_by o (fresh path)
  still_kept some =
      elim (cases_Bool (bytes_eq id k)) [
        | inl same ↦
            meets entry path o (aim ∙ rw same refl)
            ∙ ap (λ n. outcome_by n (fresh path)) (some_stays o entry.lines (some ((bytes_eq-Decides id k).0 same)))
        | inr other ↦ passes entry path o keys (aim ∙ rw other refl)
      ]

module _ (entries : List Entry) (i : ℕ) (entry : Entry) (here : i < length entries)
    (is : entry ≡ get_or entries i entry) (o new : Option Lines) (ms : List Mark)
    (turned : outcome_behind entry (outcome_by o ms) ≡ outcome_by new ms) where
  pub next_entry : scan (drop (i + 1) entries) (outcome_by new ms) ≡ scan (drop i entries) (outcome_by o ms)
  next_entry =
      let this : get_or entries i entry ≡ entry = sym is in
      rw (drop_more entries i entry here, this) (ap (scan (drop (i + 1) entries)) (sym turned))

-- behind the last entry
pub last_entry : (entries : List Entry) (i : ℕ) (o : Option Lines) (ms : List Mark) → length entries ≤ i
    → scan (drop i entries) (outcome_by o ms) ≡ outcome_by (option_or o None) ms
last_entry entries i None ms over = rw (drop_all i entries over) refl
last_entry entries i (Some lines) ms over = rw (drop_all i entries over) refl
