-- What tables and values are called, and the keys that tables have.
use Rattle.std.specs.Prelude.{◌≡◌, ℕ, ◌-◌, ◌==◌, Bool, false, not, ◌&&◌, ◌||◌, List, [], ◌∷◌, ◌++◌, codes, filter, length, map, slice_get, take, Option, None, Some, MatchOption, option_map, All, ◌<◌, if◌then◌else◌}
use Rattle.std.specs.Borrow.{Bor}
use Rattle.std.specs.Option.{option_and_then}
use Rattle.std.specs.Str.{bytes_eq}
use Rattle.nextest_places.specs.declared.step.Step.{Step}
use Rattle.nextest_places.specs.declared.step.Step.TheVariants as steps
use Rattle.nextest_shape.specs.FileForm.{file_form}
use Rattle.nextest_shape.specs.Keys.{keys_at}
use Rattle.nextest_tree.specs.Node.{Node, Entries, keys}
use Rattle.nextest_tree.specs.Schema.{first, is_one_of}
use Rattle.rinqebo_report.specs.Hints.{distance, reach, IsNearest}
use Rattle.rinqebo_faults.specs.Shapes.{key_of}
use Rattle.rinqebo_faults.specs.Words.{backquoted, quoted}

-- the key of the step at a place of a path, if it is one to a key
unfoldable pub key_at : List Step → ℕ → Option (List ℕ)
key_at path place = option_and_then key_of (slice_get path place)

-- a key is this one
abbrev pub is_key : Option (List ℕ) → List ℕ → Bool
is_key None key = false
is_key (Some own) key = bytes_eq own key

-- the step at a place of a path is one to this key
unfoldable pub has_key : List Step → ℕ → List ℕ → Bool
has_key path place key = is_key (key_at path place) key

-- what a table of a section of files is called
unfoldable pub name_in_section : List Step → Option (List ℕ)
name_in_section path =
    if has_key path 0 (codes "profile") then Some (codes "a profile")
    else if has_key path 0 (codes "test-groups") then Some (codes "a test group")
    else if has_key path 0 (codes "script") then Some (codes "a setup script")
    else None

-- what a table of the scripts of files is called
unfoldable pub name_in_scripts : List Step → Option (List ℕ)
name_in_scripts path =
    if not (has_key path 0 (codes "scripts")) then None
    else if has_key path 1 (codes "setup") then Some (codes "a setup script")
    else if has_key path 1 (codes "wrapper") then Some (codes "a wrapper script")
    else None

-- what a table of a list of a profile is called
unfoldable pub name_in_profile : List Step → Option (List ℕ)
name_in_profile path =
    if not (has_key path 0 (codes "profile")) then None
    else if has_key path 2 (codes "overrides") then Some (codes "an override")
    else if has_key path 2 (codes "scripts") then Some (codes "a script rule")
    else None

-- what the table at a path is called, if files have tables of a name there
unfoldable pub table_name : List Step → Option (List ℕ)
table_name path =
    if length path == 0 then Some (codes "a configuration file")
    else if length path == 2 then name_in_section path
    else if length path == 3 then name_in_scripts path
    else if length path == 4 then name_in_profile path
    else None

-- what an item of the list at a key is called
abbrev pub item_called : Option (List ℕ) → List ℕ
item_called None = codes "an item"
item_called (Some key) = codes "an item of `" ++ (key ++ codes "`")

-- what the value at the last step of a path is called, given the key before that step
abbrev pub step_called : Option Step → Option (List ℕ) → List ℕ
step_called None list = codes "the file"
step_called (Some (steps.Key key)) list = backquoted key.now
step_called (Some (steps.Position place)) list = item_called list

-- what the value at a path is called by the last key of the path
unfoldable pub called_by_key : List Step → List ℕ
called_by_key path =
    step_called (slice_get path (length path - 1)) (key_at path (length path - 2))

-- what the value at a path is called, which may have the name of such tables
abbrev pub called_so : Option (List ℕ) → List Step → List ℕ
called_so (Some name) path = name
called_so None path = called_by_key path

-- what the value at a path is called: by the name of such tables, or else by its key
unfoldable pub called : List Step → List ℕ
called path = called_so (table_name path) path

-- a step as the shape of a file has it: any position is that of all items of a list
abbrev pub part_text : Step → List ℕ
part_text (steps.Key key) = key.now
part_text (steps.Position place) = codes "0"

-- the keys that the table at a path knows
unfoldable pub known_keys : List Step → List (List ℕ)
known_keys path = keys_at file_form (map part_text path)

-- the note that lists the keys of a table
abbrev pub known_note : List ℕ → List (List ℕ) → List ℕ
known_note table known =
    codes "keys of " ++ (table ++ (codes ": " ++ quoted (codes ", ") known))

-- the note that lists the keys of a table, if it has some
abbrev pub note_of : List ℕ → List (List ℕ) → Option (List ℕ)
note_of table [] = None
note_of table (key ∷ known) = Some (known_note table (key ∷ known))

-- the note that lists the keys which the table at a path knows, if it knows some
unfoldable pub keys_note : List Step → Option (List ℕ)
keys_note path = note_of (called path) (known_keys path)

-- the keys of a table that it does not know
abbrev pub strays_in : List Step → Entries → List (List ℕ)
strays_in path members = filter (λ key. not (is_one_of (known_keys path) key)) (keys members)

-- A key is the one of some texts that is nearest to a key, if one is near.
abbrev pub IsNearestAmong : List (Bor (List ℕ)) → List ℕ → Option (Bor (List ℕ)) → Type 0
IsNearestAmong known name found =
    MatchOption found (All (λ other. reach name < distance name other.now) known)
    (λ nearest. IsNearest name known nearest.now)

-- A key is the one that a table does not know and that is nearest to a key which it lacks, if one
-- is near.
pub record IsStrayIn (path : List Step) (members : Entries) (missing : List ℕ)
    (found : Option (Bor (List ℕ))) : Type 0 where
  pub strays : List (Bor (List ℕ))
  pub are : map (λ key. key.now) strays ≡ strays_in path members
  pub nearest : IsNearestAmong strays missing found

-- what is no table has no key
abbrev pub IsStray : List Step → Option Entries → List ℕ → Option (Bor (List ℕ)) → Type 0
IsStray path None missing found = found ≡ None
IsStray path (Some members) missing found = IsStrayIn path members missing found

-- what is wrong with a key that its table does not know, where the path ends with a key
abbrev pub unknown_key : Option (List ℕ) → List Step → List ℕ
unknown_key None table = codes "this key is not known"
unknown_key (Some key) table =
    codes "`" ++ (key ++ (codes "` is not a key of " ++ called table))

-- what is wrong with the key at the end of a path, which its table does not know
unfoldable pub unknown_key_text : List Step → List ℕ
unknown_key_text path =
    unknown_key (key_at path (length path - 1)) (take (length path - 1) path)

-- how a script of a kind is written that is meant by a key
abbrev pub script_line : (kind key : List ℕ) → List ℕ
script_line kind key =
    codes "write `[scripts." ++ (kind ++ (codes "." ++ (key ++ codes "]`")))

-- the keys of a table; nothing else has some
abbrev pub member_keys : Option Node → List (List ℕ)
member_keys (Some (Node.table members)) = keys members
member_keys _ = []

-- a path is that of `script.setup` or `script.wrapper`
unfoldable pub is_script_kind : List Step → Bool
is_script_kind path =
    length path == 2 && (has_key path 0 (codes "script")
    && (has_key path 1 (codes "setup") || has_key path 1 (codes "wrapper")))

-- how the script is written that is meant by the first key of a table at `script.setup` or
-- `script.wrapper`
unfoldable pub script_header : List Step → Option Node → Option (List ℕ)
script_header path node =
    if is_script_kind path
    then option_and_then (λ kind. option_map (script_line kind) (first (member_keys node)))
    (key_at path 1) else None
