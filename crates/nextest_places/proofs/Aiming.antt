-- What an expression does to a path of keys, by what the code finds of its key and the path.
use Rattle.std.proofs.Common.{◌≡◌, ℕ, ◌+◌, ◌<◌, ◌≤◌, true, false, List, [], ◌∷◌, length, get_or, drop, String, Global, string_bytes, Bor, refl, sym, ap, inl, inr}
use Rattle.std.proofs.lemmas.Bool.{cases_Bool}
use Rattle.std.proofs.lemmas.List.{drop_all, drop_more}
use Rattle.std.specs.Str.{bytes_eq}
use Rattle.toml_parser.specs.Reading.{path_view}
use Rattle.nextest_places.specs.declared.entry.Aim.TheVariants.{Elsewhere, Brings}
use Rattle.nextest_places.specs.declared.entry.Kind.{Kind}
use Rattle.nextest_places.specs.declared.entry.Kind.TheVariants.{Pair, Table, Element}
use Rattle.nextest_places.specs.declared.step.Step.{Step}
use Rattle.nextest_places.specs.declared.step.Step.TheVariants.{Key, Position}
use Rattle.nextest_places.specs.Entries.{aim_along, aim_at_key}
use Rattle.nextest_places.specs.Ids.{AreKeys}
use Rattle.nextest_places.specs.Marks.{by_key, seen, missing, under, fresh, turn}

pub turn_brings : (kind : Kind) (parts : List (List ℕ)) (path : List Step) → aim_along kind parts path ≡ Brings
    → turn kind parts (fresh path) ≡ seen
turn_brings kind [] [] is = refl
turn_brings kind (part ∷ parts) [] is = refl
turn_brings Pair [] (Key k ∷ path) is = refl
turn_brings Table [] (Key k ∷ path) is = absurd (cc)
turn_brings Element [] (Key k ∷ path) is = absurd (cc)
turn_brings kind (part ∷ parts) (Key k ∷ path) is =
    elim (cases_Bool (bytes_eq k.now part)) [
      | inl same ↦ rw same (ap (under (by_key k.now)) (turn_brings kind parts path (rw same at is)))
      | inr other ↦ let none : Elsewhere ≡ Brings = rw other at is in absurd (cc)
    ]
turn_brings kind [] (Position i ∷ path) is = absurd (cc)
turn_brings kind (part ∷ parts) (Position i ∷ path) is = absurd (cc)

pub turn_elsewhere : (kind : Kind) (parts : List (List ℕ)) (path : List Step) → AreKeys path
    → aim_along kind parts path ≡ Elsewhere → turn kind parts (fresh path) ≡ missing (fresh path)
turn_elsewhere kind [] [] keys is = absurd (cc)
turn_elsewhere kind (part ∷ parts) [] keys is = absurd (cc)
turn_elsewhere Pair [] (Key k ∷ path) keys is = absurd (cc)
turn_elsewhere Table [] (Key k ∷ path) keys is = refl
turn_elsewhere Element [] (Key k ∷ path) keys is = refl
turn_elsewhere kind (part ∷ parts) (Key k ∷ path) keys is =
    elim (cases_Bool (bytes_eq k.now part)) [
      | inl same ↦ rw same (ap (under (by_key k.now)) (turn_elsewhere kind parts path keys (rw same at is)))
      | inr other ↦ rw other refl
    ]
turn_elsewhere kind [] (Position i ∷ path) keys is = absurd keys
turn_elsewhere kind (part ∷ parts) (Position i ∷ path) keys is = absurd keys

-- the next step of a path, and the next part of a key
position_elsewhere : (kind : Kind) (parts : List (List ℕ)) (i : ℕ) (path : List Step)
    → aim_along kind parts (Position i ∷ path) ≡ Elsewhere
position_elsewhere kind [] i path = refl
position_elsewhere kind (part ∷ parts) i path = refl

module _ (kind : Kind) (parts : List (String Global)) (at : ℕ) (path : List Step) (d : Step) (more : at < length path)
  where
    pub at_part : (k : Bor (List ℕ)) (s : String Global) → get_or path at d ≡ Key k → at < length parts
        → s ≡ get_or parts at s → bytes_eq k.now (string_bytes s) ≡ true
        → aim_along kind (path_view (drop (at + 1) parts)) (drop (at + 1) path)
        ≡ aim_along kind (path_view (drop at parts)) (drop at path)
    at_part k s is there part same =
        let this : get_or parts at s ≡ s = sym part in
        rw (drop_more path at d more, is, drop_more parts at s there, this, same) refl

    pub at_other : (k : Bor (List ℕ)) (s : String Global) → get_or path at d ≡ Key k → at < length parts
        → s ≡ get_or parts at s → bytes_eq k.now (string_bytes s) ≡ false
        → aim_along kind (path_view (drop at parts)) (drop at path) ≡ Elsewhere
    at_other k s is there part other =
        let this : get_or parts at s ≡ s = sym part in
        rw (drop_more path at d more, is, drop_more parts at s there, this, other) refl

    pub at_no_part : (k : Bor (List ℕ)) → get_or path at d ≡ Key k → length parts ≤ at
        → aim_along kind (path_view (drop at parts)) (drop at path) ≡ aim_at_key kind
    at_no_part k is none = rw (drop_more path at d more, is, drop_all at parts none) refl

    pub at_position : (i : ℕ) → get_or path at d ≡ Position i
        → aim_along kind (path_view (drop at parts)) (drop at path) ≡ Elsewhere
    at_position i is =
        rw (drop_more path at d more, is) (position_elsewhere kind (path_view (drop at parts)) i (drop (at + 1) path))
