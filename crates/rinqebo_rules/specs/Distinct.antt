-- Rules that are distinct.
use Rattle.std.specs.Prelude.{◌≡◌, ◌<◌, ℕ, List, Option, None, Some, slice_get}
use Rattle.rinqebo_origins.specs.RulePlaces.{Place, place_view}
use Rattle.rinqebo_origins.specs.declared.rule_places.RulePlace.{RulePlace}

-- no two elements of a list are the same
abbrev pub AreDistinct : {X : Type 0} → List X → Type 0
AreDistinct {X} xs = (m n : ℕ) (x : X) → slice_get xs m ≡ Some x → slice_get xs n ≡ Some x → m ≡ n

-- two rules are of one profile in one file
abbrev pub IsOfOneList : Place → Place → Type 0
IsOfOneList place other = (place.source ≡ other.source) × (place.profile ≡ other.profile)

-- a rule is of one profile and file with the last one, and comes behind it
abbrev pub IsBehind : Option RulePlace → RulePlace → Type 0
IsBehind None place = ⊥
IsBehind (Some last) place =
    (last.index < place.index) × IsOfOneList (place_view place) (place_view last)

-- a rule is of one profile and file with none of these
abbrev pub IsOfNone : List Place → Place → Type 0
IsOfNone firsts place = (n : ℕ) (first : Place) → slice_get firsts n ≡ Some first
    → IsOfOneList place first → ⊥
