-- What files are read without where a value is refused.
use Rattle.std.specs.Prelude.{ℕ, ◌+◌, ◌-◌, ◌==◌, nat_lt, Bool, false, not, ◌&&◌, ◌||◌, List, [], ◌∷◌, ◌++◌, codes, is_some, length, map, take, Option, None, Some, string_bytes, if◌then◌else◌}
use Rattle.std.specs.Option.{option_and_then}
use Rattle.std.specs.Str.{bytes_eq}
use Rattle.nextest_places.specs.Spans.Paths.{path_step}
use Rattle.nextest_places.specs.declared.step.Step.{Step}
use Rattle.nextest_tree.specs.declared.fault.ElementCause.{ElementCause}
use Rattle.nextest_tree.specs.declared.fault.ElementCause.TheVariants as causes
use Rattle.rinqebo_faults.specs.Edits.{Edit, add, mark_of, omit_groups, omit_rule, omit_scripts, remove, replace}
use Rattle.rinqebo_faults.specs.Paths.{shown_path}
use Rattle.rinqebo_faults.specs.Tables.{has_key, is_script_kind, key_at}

-- a sound group, script and rule, and no settings
abbrev pub sound_group : List ℕ
sound_group = codes "{ max-threads = 1 }"

abbrev pub sound_script : List ℕ
sound_script = codes "{ command = \"true\" }"

unfoldable pub sound_rule : List ℕ
sound_rule = codes "{ platform = \"cfg(unix)\" }"

abbrev pub no_settings : List ℕ
no_settings = codes "{}"

-- a key is one of two
unfoldable pub is_either : List ℕ → (one other : List ℕ) → Bool
is_either key one other = bytes_eq key one || bytes_eq key other

-- a value that a key takes which tables have to have
unfoldable pub sound_value : List ℕ → Option (List ℕ)
sound_value key =
    if is_either key (codes "max-threads") (codes "count") then Some (codes "1")
    else if is_either key (codes "command") (codes "command-line") then Some (codes "\"true\"")
    else if bytes_eq key (codes "backoff") then Some (codes "\"fixed\"")
    else if is_either key (codes "period") (codes "delay") then Some (codes "\"1s\"")
    else if is_either key (codes "filter") (codes "default-filter") then Some (codes "\"all()\"")
    else if bytes_eq key (codes "platform") then Some (codes "\"cfg(unix)\"")
    else None

-- a key that tables have to have, with a value that it takes
unfoldable pub sound_entry : List ℕ → Option (List ℕ)
sound_entry key =
    if bytes_eq key (codes "max-threads") then Some (codes "max-threads = 1")
    else if bytes_eq key (codes "command") then Some (codes "command = \"true\"")
    else if bytes_eq key (codes "command-line") then Some (codes "command-line = \"true\"")
    else if bytes_eq key (codes "backoff") then Some (codes "backoff = \"fixed\"")
    else if bytes_eq key (codes "count") then Some (codes "count = 1")
    else if bytes_eq key (codes "period") then Some (codes "period = \"1s\"")
    else if bytes_eq key (codes "delay") then Some (codes "delay = \"1s\"")
    else None

-- the value at a path is left out
abbrev pub removal : ℕ → List Step → Edit
removal place path = remove (mark_of place (map path_step path))

-- another value is read in place of the one at a path
abbrev pub replacement : ℕ → List Step → List ℕ → Edit
replacement place path text = replace (mark_of place (map path_step path)) text

-- a sound value is read in place of the one at a path, if its key has one; else it is left out
abbrev pub sound_edit : ℕ → List Step → Option (List ℕ) → Edit
sound_edit place path None = removal place path
sound_edit place path (Some text) = replacement place path text

-- a value is read in place of one that its table has to have, or the one at the path is left out:
-- the path is cut before a place, if it reaches that
unfoldable pub needed_edit : ℕ → List Step → ℕ → Edit
needed_edit place path end =
    if nat_lt (length path) end then removal place path
    else sound_edit place (take end path)
    (option_and_then sound_value (key_at (take end path) (length (take end path) - 1)))

-- the last key of a path is this text
unfoldable pub ends_with_key : List Step → List ℕ → Bool
ends_with_key path text = not (length path == 0) && has_key path (length path - 1) text

-- the last key of a path is a name that is refused
abbrev pub is_bad_name : ElementCause → List Step → Bool
is_bad_name (causes.BadValue given expected) path = ends_with_key path (string_bytes given)
is_bad_name cause path = false

-- a group or a script is left out, or a sound one is read in its place
unfoldable pub table_edit : ℕ → ElementCause → List Step → List ℕ → Edit
table_edit place cause path sound =
    if is_bad_name cause path then removal place path else replacement place path sound

-- a value of a script whose path has so many steps
unfoldable pub script_edits : ℕ → ElementCause → List Step → ℕ → List Edit
script_edits place cause path steps =
    if nat_lt (length path) steps then omit_scripts ∷ removal place path ∷ []
    else if length path == steps then table_edit place cause path sound_script ∷ []
    else if has_key path steps (codes "command") then needed_edit place path (steps + 1) ∷ []
    else needed_edit place path (length path) ∷ []

-- a value of a group, or of all
unfoldable pub group_edits : ℕ → ElementCause → List Step → List Edit
group_edits place cause path =
    if length path == 1 then omit_groups ∷ removal place path ∷ []
    else if length path == 2 then table_edit place cause path sound_group ∷ []
    else needed_edit place path (length path) ∷ []

-- a key of a rule is one of its conditions
unfoldable pub is_condition : List Step → Bool
is_condition path =
    has_key path 4 (codes "filter") || (has_key path 4 (codes "default-filter")
    || has_key path 4 (codes "platform"))

-- a path is one into the rules of a profile
unfoldable pub is_in_rules : List Step → Bool
is_in_rules path = has_key path 2 (codes "overrides") || has_key path 2 (codes "scripts")

-- a value of the rules of a profile
unfoldable pub rules_edits : ℕ → List Step → List Edit
rules_edits place path =
    if length path == 4 then replacement place path sound_rule ∷ []
    else if is_condition path then needed_edit place path 5 ∷ []
    else needed_edit place path (length path) ∷ []

-- a value of a profile
unfoldable pub profile_edits : ℕ → List Step → List Edit
profile_edits place path =
    if length path == 2 then replacement place path no_settings ∷ []
    else if is_in_rules path then rules_edits place path
    else needed_edit place path (length path) ∷ []

-- a value that is refused is left out, or a sound one is read in its place
unfoldable pub value_edits : ℕ → ElementCause → List Step → List Edit
value_edits place cause path =
    if has_key path 0 (codes "test-groups") then group_edits place cause path
    else if has_key path 0 (codes "scripts") then script_edits place cause path 3
    else if has_key path 0 (codes "script") then script_edits place cause path 2
    else if has_key path 0 (codes "profile") then profile_edits place path
    else needed_edit place path (length path) ∷ []

-- a key is added that a table lacks, or the table is left out
abbrev pub missing_edit : ℕ → List Step → Option (List ℕ) → Edit
missing_edit place path None = removal place path
missing_edit place path (Some entry) =
    if is_script_kind path then removal place path
    else add (mark_of place (map path_step path)) entry

-- the path of the script rules that a path is in: it has three steps, where the path has so many
unfoldable pub rules_path : List Step → List Step
rules_path path = if nat_lt (length path) 3 then path else take 3 path

-- the script rules of a profile are noted, if a value of them is refused
unfoldable pub rules_note : List Step → List Edit
rules_note path =
    if has_key path 0 (codes "profile") && (is_some (key_at path 1)
    && has_key path 2 (codes "scripts"))
    then omit_rule (shown_path (rules_path path)) ∷ [] else []

-- an element that is refused for a cause is left out, or a sound one is read in its place
abbrev pub cause_edits : ℕ → ElementCause → List Step → List Edit
cause_edits place (causes.Missing key) path =
    missing_edit place path (sound_entry (string_bytes key)) ∷ []
cause_edits place causes.UnknownField path = removal place path ∷ []
cause_edits place cause path = value_edits place cause path

-- an element of a source that is refused is left out
abbrev pub element_edits : ℕ → ElementCause → List Step → List Edit
element_edits place cause path = rules_note path ++ cause_edits place cause path

-- how many steps lead to the setting that a path is in
unfoldable pub setting_steps : List Step → ℕ
setting_steps path =
    if has_key path 0 (codes "profile") && is_in_rules path then 5
    else if has_key path 0 (codes "profile") || has_key path 0 (codes "scripts") then 3
    else if has_key path 0 (codes "script") || has_key path 0 (codes "test-groups") then 2
    else 1

-- the setting that a path is in is left out, or what is at the path, if that is shorter
unfoldable pub setting_edit : ℕ → List Step → Edit
setting_edit place path =
    if nat_lt (length path) (setting_steps path) then removal place path
    else removal place (take (setting_steps path) path)
