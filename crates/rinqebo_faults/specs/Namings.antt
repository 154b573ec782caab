-- Where the rules of profiles name groups and scripts.
use Rattle.std.specs.Prelude.{◌≡◌, ◌<◌, ◌≤◌, ℕ, nat_lt, List, [], ◌∷◌, ◌++◌, fold, slice_get, Option, None, Some, if◌then◌else◌}
use Rattle.std.specs.BTreeMap.{get_by_text}
use Rattle.nextest_places.specs.Spans.Paths.{PathStep}
use Rattle.nextest_places.specs.Spans.Paths as paths
use Rattle.rinqebo_faults.specs.declared.namings.Naming.{Naming}
use Rattle.rinqebo_faults.specs.declared.namings.Namings.{Namings}
use Rattle.rinqebo_faults.specs.Paths.{profile_path}
use Rattle.rinqebo_faults.specs.Repairs.{naming_mark}

-- the naming that comes first: that of the lower rule, or else the earlier one
abbrev pub earlier : Option Naming → Option Naming → Option Naming
earlier None other = other
earlier (Some first) None = Some first
earlier (Some first) (Some other) =
    if nat_lt other.rule first.rule then Some other else Some first

-- the naming of a name at a key
abbrev pub naming_of : Namings → (profile key name : List ℕ) → Option Naming
naming_of namings profile key name = get_by_text namings.firsts (naming_mark profile key name)

-- the first rule of a profile that has a name at one of some keys
abbrev pub first_naming : Namings → (profile : List ℕ) → (keys : List (List ℕ)) → (name : List ℕ)
    → Option Naming
first_naming namings profile keys name =
    fold (λ first key. earlier first (naming_of namings profile key name)) None keys

-- the position of a name in an array, if it is in one
abbrev pub item_step : Option ℕ → List PathStep
item_step None = []
item_step (Some place) = paths.position place ∷ []

-- the steps from the list of a profile to a name
abbrev pub naming_steps : Option Naming → List PathStep
naming_steps None = []
naming_steps (Some naming) =
    paths.position naming.rule ∷ paths.key naming.key.now ∷ item_step naming.item

-- the path at which the first rule of a profile has a name at one of some keys, or else that of the
-- list
abbrev pub naming_path : Namings → (profile : List ℕ) → (keys : List (List ℕ)) → (name : List ℕ)
    → List PathStep
naming_path namings profile keys name =
    profile_path profile namings.list.now ++ naming_steps (first_naming namings profile keys name)

-- The naming of a name at one of some keys whose rule no other one's is lower than: at a key whose
-- place among the keys is this, and at no earlier key is a naming with the same rule.
pub record IsFirstAt (namings : Namings) (profile : List ℕ) (keys : List (List ℕ)) (name : List ℕ)
    (first : Naming) : Type 0 where
  pub place : ℕ
  pub key : List ℕ
  pub is : slice_get keys place ≡ Some key
  pub there : naming_of namings profile key name ≡ Some first
  pub none_lower : (at : ℕ) (other : List ℕ) (naming : Naming) → slice_get keys at ≡ Some other
      → naming_of namings profile other name ≡ Some naming → first.rule ≤ naming.rule
  pub none_before : (at : ℕ) (other : List ℕ) (naming : Naming) → at < place
      → slice_get keys at ≡ Some other → naming_of namings profile other name ≡ Some naming
      → first.rule < naming.rule

-- The first naming of a name at one of some keys, or none where there is none at any of them.
abbrev pub IsFirstNaming : Namings → (profile : List ℕ) → (keys : List (List ℕ)) → (name : List ℕ)
    → Option Naming → Type 0
IsFirstNaming namings profile keys name None =
    (at : ℕ) (key : List ℕ) → slice_get keys at ≡ Some key
    → naming_of namings profile key name ≡ None
IsFirstNaming namings profile keys name (Some first) = IsFirstAt namings profile keys name first
