-- The sections of layers whose leaves are reported: the tables of profiles, and the tables beside
-- them.
use Rattle.std.specs.Prelude.{ℕ, ◌==◌, ◌&&◌, ◌||◌, List, [], ◌∷◌, ◌++◌, Bool, false, not, length, take, codes, if◌then◌else◌}
use Rattle.std.specs.Ordering.{nat_cmp}
use Rattle.std.specs.declared.cmp.Ordering.{Ordering}
use Rattle.std.specs.declared.cmp.Ordering.TheVariants.{Less, Equal, Greater}
use Rattle.std.specs.Str.{bytes_eq}
use Rattle.nextest_documents.specs.Shown.{Path}
use Rattle.nextest_documents.specs.Grounds.{profile_path}
use Rattle.nextest_documents.specs.Layers.{keys_view}
use Rattle.nextest_documents.specs.declared.section.Section.{Section}
use Rattle.nextest_documents.specs.declared.section.Section.TheVariants.{Profile, Beside}

-- the table of a profile, with the profiles of the chain that are nearer, or the tables beside them
pub data Region : Type 0 where
  of_profile : List (List ℕ) → List ℕ → Region
  beside : Region

abbrev pub section_view : Section → Region
section_view (Profile nearer name) = of_profile (keys_view nearer.now) name.now
section_view Beside = beside

-- where a region is in a layer
abbrev pub base_path : Region → Path
base_path (of_profile nearer name) = profile_path name
base_path beside = []

-- the profiles that are nearer than a region
abbrev pub nearer_than : Region → List (List ℕ)
nearer_than (of_profile nearer name) = nearer
nearer_than beside = []

-- the profiles of a chain that are behind some others, in order, and then the tables beside them
abbrev pub regions_behind : List (List ℕ) → List (List ℕ) → List Region
regions_behind nearer [] = beside ∷ []
regions_behind nearer (name ∷ names) =
    of_profile nearer name ∷ regions_behind (nearer ++ name ∷ []) names

-- the regions of a chain: the nearest profile first, the tables beside the profiles last
abbrev pub regions : List (List ℕ) → List Region
regions chain = regions_behind [] chain

-- nearer profiles are before others, and all of them before the tables beside them
abbrev pub region_cmp : Region → Region → Ordering
region_cmp (of_profile nearer name) (of_profile others other) =
    nat_cmp (length nearer) (length others)
region_cmp (of_profile nearer name) beside = Less
region_cmp beside (of_profile others other) = Greater
region_cmp beside beside = Equal

-- the lists of rules of a profile
abbrev pub is_rules : List ℕ → Bool
is_rules key = bytes_eq key (codes "overrides") || bytes_eq key (codes "scripts")

-- the tables beside the profiles that are reported
abbrev pub is_beside : List ℕ → Bool
is_beside key = bytes_eq key (codes "scripts") || bytes_eq key (codes "store")
    || bytes_eq key (codes "test-groups")

-- A leaf of a region is reported by its first key: rules are not, and the parent of a profile is
-- reported of the nearest one alone.
abbrev pub is_told : Region → Path → Bool
is_told region [] = false
is_told (of_profile nearer name) (key ∷ keys) =
    not (is_rules key) && ((length nearer == 0) || not (bytes_eq key (codes "inherits")))
is_told beside (key ∷ keys) = is_beside key

-- the tables of a profile whose members are values by themselves
abbrev pub is_group : List ℕ → Bool
is_group key = bytes_eq key (codes "junit") || bytes_eq key (codes "bench")

-- how many keys lead to the value that a leaf of a profile is of
abbrev pub value_length : Path → ℕ
value_length [] = 0
value_length (key ∷ keys) = if is_group key then 2 else 1

-- the path of the value that a leaf of a profile is of
abbrev pub value_path : Path → Path
value_path p = take (value_length p) p
