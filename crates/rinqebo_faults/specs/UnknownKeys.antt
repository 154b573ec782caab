-- What to do about keys that their tables do not know.
use Rattle.std.specs.Prelude.{◌≡◌, ◌⊎◌, ℕ, ◌-◌, ◌==◌, Bool, false, ◌&&◌, List, [], ◌∷◌, ◌++◌, codes, filter_map, find, length, map, take, Option, None, Some, option_map, if◌then◌else◌}
use Rattle.std.specs.Borrow.{Bor}
use Rattle.std.specs.Option.{option_and_then}
use Rattle.nextest_places.specs.declared.step.Step.{Step}
use Rattle.nextest_shape.specs.FileForm.{file_form}
use Rattle.nextest_shape.specs.Form.{Form}
use Rattle.nextest_shape.specs.Keys.{keys_at}
use Rattle.nextest_tree.specs.Schema.{is_one_of}
use Rattle.rinqebo_report.specs.declared.finding.HelpPlace.{HelpPlace}
use Rattle.rinqebo_report.specs.declared.finding.HelpPlace.TheVariants as places
use Rattle.rinqebo_faults.specs.Headers.{header_of}
use Rattle.rinqebo_faults.specs.Hints.{hint_text, IsNear, name_by_front, texts}
use Rattle.rinqebo_faults.specs.Shapes.{form_at, key_of}
use Rattle.rinqebo_faults.specs.Spellings.{are_tables}
use Rattle.rinqebo_faults.specs.Tables.{has_key, key_at, known_keys, part_text}

-- the keys that the table knows to which these parts of a path lead
abbrev pub keys_below : List (List ℕ) → List (List ℕ)
keys_below parts = keys_at file_form parts

-- the parts of the path of any override of a profile
abbrev pub override_parts : List ℕ → List (List ℕ)
override_parts profile = codes "profile" ∷ profile ∷ codes "overrides" ∷ codes "0" ∷ []

-- the keys of the header of a profile
abbrev pub profile_keys : List ℕ → List (List ℕ)
profile_keys profile = codes "profile" ∷ profile ∷ []

-- where to write a key of overrides of a profile
unfoldable pub in_override : List ℕ → List ℕ
in_override profile =
    codes "write it in `[[" ++ (header_of (profile_keys profile) ++ codes ".overrides]]`")

-- where a key of overrides of a profile belongs
abbrev pub overrides_help : (profile key : List ℕ) → List ℕ
overrides_help profile key =
    codes "`" ++ (key ++ (codes "` is a setting of overrides: " ++ in_override profile))

-- any override of a profile knows a key
unfoldable pub override_knows : (profile key : List ℕ) → Bool
override_knows profile key = is_one_of (keys_below (override_parts profile)) key

-- where a key belongs that is one of overrides
unfoldable pub in_overrides : (profile key : List ℕ) → Option (List ℕ)
in_overrides profile key =
    if override_knows profile key then Some (overrides_help profile key) else None

-- where a key belongs that is one of profiles
unfoldable pub in_profile : (profile key : List ℕ) → Option (List ℕ)
in_profile profile key =
    if is_one_of (keys_below (profile_keys profile)) key
    then Some (codes "`" ++ (key ++ (codes "` is a setting of profiles: write it in `["
    ++ (header_of (profile_keys profile) ++ codes "]`"))))
    else None

-- where a key belongs that is one of a table at a part of another one
abbrev pub part_help : List Step → (key part : List ℕ) → List ℕ
part_help table key part =
    codes "`" ++ (key ++ (codes "` is a key of `" ++ (part ++ (codes "`: write `"
    ++ (header_of (filter_map key_of table ++ part ∷ []) ++ (codes "." ++ (key ++ codes "`")))))))

-- a part of a table knows a key, in a file of a form
unfoldable pub part_knows : Form → List Step → (key part : List ℕ) → Bool
part_knows file table key part =
    is_one_of (keys_at file (map part_text table ++ part ∷ [])) key

-- where a key of a table belongs that is one of a table in it: the first that knows it
unfoldable pub in_part : List Step → List ℕ → Option (List ℕ)
in_part table key =
    option_map (part_help table key) (find (part_knows file_form table key) (known_keys table))

-- the first that there is
abbrev pub or_else : Option (List ℕ) → Option (List ℕ) → Option (List ℕ)
or_else (Some help) other = Some help
or_else None other = other

-- the name of the profile that has a path
unfoldable pub profile_of : List Step → Option (List ℕ)
profile_of path = if has_key path 0 (codes "profile") then key_at path 1 else None

-- where a key of a table of a profile belongs that another table of the profile knows
abbrev pub beside_in : List Step → (key profile : List ℕ) → Option (List ℕ)
beside_in table key profile =
    if length table == 2 then in_overrides profile key else in_profile profile key

unfoldable pub place_in_profile : List Step → List ℕ → Option (List ℕ)
place_in_profile table key = option_and_then (beside_in table key) (profile_of table)

-- where a key of a file belongs that is one of profiles
unfoldable pub place_in_default : List Step → List ℕ → Option (List ℕ)
place_in_default table key = if length table == 0 then in_profile (codes "default") key else None

-- a table of scripts has the kinds of scripts
abbrev pub script_help : List ℕ → List ℕ
script_help key =
    codes "write `[scripts.setup." ++ (key ++ (codes "]` or `[scripts.wrapper." ++ (key ++ codes "]`")))

-- where a key belongs that its table does not know, and another one does
unfoldable pub place_elsewhere : List Step → List ℕ → Option (List ℕ)
place_elsewhere table key =
    if length table == 1 && has_key table 0 (codes "scripts") then Some (script_help key)
    else or_else (place_in_default table key)
    (or_else (place_in_profile table key) (in_part table key))

-- a form is that of arrays of tables, if there is one
abbrev pub is_list_form : Option Form → Bool
is_list_form None = false
is_list_form (Some form) = are_tables form

-- the values of a key of a table are arrays of tables
unfoldable pub is_list : List Step → List ℕ → Bool
is_list table key = is_list_form (form_at (map key_of table ++ Some key ∷ []) file_form)

-- the hint that a key of a table is meant: by its header, where it is that of an array of tables
unfoldable pub key_hint : List Step → List ℕ → List ℕ
key_hint table key =
    if is_list table key
    then codes "did you mean `[[" ++ (header_of (filter_map key_of table ++ key ∷ []) ++ codes "]]`?")
    else hint_text key

-- what another table knows, or else the hint of a key, if there is one
abbrev pub help_or : Option (List ℕ) → Option (List ℕ) → List Step → Option (List ℕ) × HelpPlace
help_or (Some help) near table = (Some help, places.Below)
help_or None near table = (option_map (key_hint table) near, places.Beside)

-- what to do about a key that its table does not know, where no key of the table is near: what
-- another table knows, or else a key with the same front
abbrev pub far_help : List Step → List ℕ → Option (List ℕ) × HelpPlace
far_help table key = help_or (place_elsewhere table key) (name_by_front key (known_keys table)) table

-- What to do about a key that its table does not know, and where pages show it: a near key of the
-- table is meant, if there is one.
pub record IsKeyHelp (table : List Step) (key : List ℕ) (help : Option (List ℕ))
    (place : HelpPlace) : Type 0 where
  pub known : List (Bor (List ℕ))
  pub are : texts known ≡ known_keys table
  pub says : ((near : List ℕ) × IsNear key known (Some near)
      × (help ≡ Some (key_hint table near)) × (place ≡ places.Beside))
      ⊎ (IsNear key known None × (far_help table key ≡ (help, place)))

-- nothing helps about what is no key
abbrev pub IsHelpFor : List Step → Option (List ℕ) → Option (List ℕ) → HelpPlace → Type 0
IsHelpFor table None help place = (help ≡ None) × (place ≡ places.Below)
IsHelpFor table (Some key) help place = IsKeyHelp table key help place

-- What to do about the key at the end of a path, which its table does not know.
abbrev pub IsUnknownKeyHelp : List Step → Option (List ℕ) → HelpPlace → Type 0
IsUnknownKeyHelp path help place =
    IsHelpFor (take (length path - 1) path) (key_at path (length path - 1)) help place
