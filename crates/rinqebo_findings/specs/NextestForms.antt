-- What nextest refuses in files and a load does not look at, and the findings that report it.
use Rattle.std.specs.Prelude.{◌≡◌, ℕ, ◌+◌, ◌^◌, ◌==◌, nat_lt, Bool, not, ◌&&◌, ◌||◌, List, [], ◌∷◌, ◌++◌, codes, flat_map, length, map, slice_index, Option, None, Some, if◌then◌else◌}
use Rattle.std.specs.Int.{is_negative}
use Rattle.std.specs.List.{enumerate_from, list_all, slice_split}
use Rattle.std.specs.Option.{option_and_then}
use Rattle.std.specs.Str.{bytes_eq}
use Rattle.std.specs.Str.Parse.{digits_value}
use Rattle.nextest_places.specs.Spans.Paths.{path_step, PathStep}
use Rattle.nextest_places.specs.Spans.Paths as paths
use Rattle.nextest_places.specs.declared.step.Step.{Step}
use Rattle.nextest_tree.specs.Node.{array, bool, Entries, get, int, keys, member_of, no_nodes, Node, node, Nodes, table, text}
use Rattle.nextest_tree.specs.Schema.{each_entry, is_one_of}
use Rattle.rinqebo_faults.specs.Paths.{profile_path}
use Rattle.rinqebo_faults.specs.Words.{is_number}
use Rattle.rinqebo_report.specs.declared.codes.code.Code.{Code}
use Rattle.rinqebo_report.specs.declared.codes.code.Code.TheVariants.{InvalidValue, MissingKey, OutOfRange, UnknownKey, WrongKind}
use Rattle.rinqebo_report.specs.declared.finding.Finding.{Finding}
use Rattle.rinqebo_request.specs.Files.Layers.{layer_tree}
use Rattle.rinqebo_request.specs.declared.files.layers.Layer.{Layer}
use Rattle.rinqebo_request.specs.declared.files.places.SpanPart.{SpanPart}
use Rattle.rinqebo_request.specs.declared.files.places.SpanPart.TheVariants as parts
use Rattle.rinqebo_findings.specs.Each.{AreOfEach}
use Rattle.rinqebo_findings.specs.Subjects.{IsErrorAt}
use Rattle.rinqebo_findings.specs.Warnings.{WarnsOf}

-- What is wrong with a file: a value or a key that is refused, with the code of its kind, or an
-- unknown key, at a path. No contract says what its finding says.
pub data FormFault : Type 0 where
  refused : SpanPart → Code → List PathStep → FormFault
  unknown : List PathStep → FormFault

-- A finding is an error of a code at a path, and at the place of its value or its key.
pub record IsFormError (layers : List Layer) (source : Option ℕ) (part : SpanPart) (code : Code)
    (path : List PathStep) (finding : Finding) : Type 0 where
  pub steps : List Step
  pub are : map path_step steps ≡ path
  pub is : IsErrorAt layers source code part steps finding

-- a finding is that of a fault in a source: an error, or the warning of an unknown key
abbrev pub IsFormFinding : List Layer → Option ℕ → FormFault → Finding → Type 0
IsFormFinding layers source (refused part code path) finding =
    IsFormError layers source part code path finding
IsFormFinding layers source (unknown path) finding = WarnsOf layers source UnknownKey path finding

-- The findings of faults are added, one of each, in their order, and nothing else.
pub record AddsForms (layers : List Layer) (source : Option ℕ) (faults : List FormFault)
    (old new : List Finding) : Type 0 where
  pub more : List Finding
  pub whole : new ≡ old ++ more
  pub are : AreOfEach (IsFormFinding layers source) faults more

-- ---- values

-- the value at a path is refused
abbrev pub refused_value : Code → List PathStep → List FormFault
refused_value code path = refused parts.Value code path ∷ []

-- it is of a kind that it may not have
abbrev pub wrong_kind : List PathStep → List FormFault
wrong_kind path = refused_value WrongKind path

-- a value has to be a text that passes a test
abbrev pub text_faults : (List ℕ → Bool) → List PathStep → Node → List FormFault
text_faults test path (text given) = if test given then [] else refused_value InvalidValue path
text_faults test path given = wrong_kind path

-- a value has to be a text
abbrev pub any_text_faults : List PathStep → Node → List FormFault
any_text_faults path (text given) = []
any_text_faults path given = wrong_kind path

-- a value has to be a boolean
abbrev pub boolean_faults : List PathStep → Node → List FormFault
boolean_faults path (bool given) = []
boolean_faults path given = wrong_kind path

-- a value, if there is one
abbrev pub if_given : (Node → List FormFault) → Option Node → List FormFault
if_given faults None = []
if_given faults (Some given) = faults given

-- the items of an array, with their positions from one on
abbrev pub each_position : (ℕ → Node → List FormFault) → ℕ → Nodes → List FormFault
each_position faults position no_nodes = []
each_position faults position (node given items) =
    faults position given ++ each_position faults (position + 1) items

-- ---- keys

-- the path of a key of the table at a path, and of an item of the array at one
abbrev pub key_in : List PathStep → List ℕ → List PathStep
key_in path key = path ++ paths.key key ∷ []

abbrev pub item_in : List PathStep → ℕ → List PathStep
item_in path position = path ++ paths.position position ∷ []

-- a key of a table has to be one of some keys
abbrev pub unknown_key : List PathStep → List ℕ → List FormFault
unknown_key path key = unknown (key_in path key) ∷ []

abbrev pub key_faults : (known : List (List ℕ)) → List PathStep → List ℕ → List FormFault
key_faults known path key = if is_one_of known key then [] else unknown_key path key

-- the keys of a table have to be among some keys
abbrev pub unknown_keys : (known : List (List ℕ)) → List PathStep → Entries → List FormFault
unknown_keys known path entries = flat_map (key_faults known path) (keys entries)

-- the value at a key of a table, if there is one
abbrev pub faults_at :
    (List PathStep → Node → List FormFault) → List PathStep → List ℕ → Entries → List FormFault
faults_at faults path key entries = if_given (faults (key_in path key)) (get key entries)

-- the value at a key that a table has to have
abbrev pub or_missing :
    (List PathStep → Node → List FormFault) → List PathStep → List ℕ → Option Node →
    List FormFault
or_missing faults path key None = refused_value MissingKey path
or_missing faults path key (Some given) = faults (key_in path key) given

abbrev pub needed_at :
    (List PathStep → Node → List FormFault) → List PathStep → List ℕ → Entries → List FormFault
needed_at faults path key entries = or_missing faults path key (get key entries)

-- ---- versions

-- a number has a zero in front of other digits
abbrev pub has_leading_zero : List ℕ → Bool
has_leading_zero digits = slice_index digits 0 == 48 && nat_lt 1 (length digits)

-- a text is a number of a version: digits without such a zero, of a number below 2 ^ 64
unfoldable pub is_version_number : List ℕ → Bool
is_version_number digits =
    is_number digits && (not (has_leading_zero digits) && nat_lt (digits_value 10 digits) (2 ^ 64))

-- parts of a text are two or three
abbrev pub are_two_or_three : List (List ℕ) → Bool
are_two_or_three parts = length parts == 2 || length parts == 3

-- numbers of a version have dots between them
abbrev pub version_parts : List ℕ → List (List ℕ)
version_parts version = slice_split (λ byte. byte == 46) version

-- a text is a version: two or three numbers with dots between them
unfoldable pub is_version : List ℕ → Bool
is_version version =
    are_two_or_three (version_parts version)
    && list_all is_version_number (version_parts version)

-- the version that a file needs: a version, or a table of a required and of a recommended one
abbrev pub version_path : List PathStep
version_path = paths.key (codes "nextest-version") ∷ []

abbrev pub version_keys : List (List ℕ)
version_keys = codes "required" ∷ codes "recommended" ∷ []

abbrev pub version_faults : Node → List FormFault
version_faults (table versions) =
    unknown_keys version_keys version_path versions
    ++ (faults_at (text_faults is_version) version_path (codes "required") versions
    ++ faults_at (text_faults is_version) version_path (codes "recommended") versions)
version_faults given = text_faults is_version version_path given

-- ---- features

-- the features that nextest knows
abbrev pub features : List (List ℕ)
features = codes "setup-scripts" ∷ codes "wrapper-scripts" ∷ codes "benchmarks" ∷ []

abbrev pub is_feature : List ℕ → Bool
is_feature name = is_one_of features name

abbrev pub features_path : List PathStep
features_path = paths.key (codes "experimental") ∷ []

-- there is no feature of the name at a path
abbrev pub no_feature : List PathStep → List FormFault
no_feature path = refused parts.Key InvalidValue path ∷ []

-- an item of an array of features has to be the name of one
abbrev pub listed_faults : ℕ → Node → List FormFault
listed_faults position (text name) =
    if is_feature name then [] else no_feature (item_in features_path position)
listed_faults position given = wrong_kind (item_in features_path position)

-- a key of a table of features has to be the name of one, with a boolean
abbrev pub switch_faults : (name : List ℕ) → Node → List FormFault
switch_faults name given =
    if is_feature name then boolean_faults (key_in features_path name) given
    else no_feature (key_in features_path name)

-- the features of a file are an array of names, or a table
abbrev pub features_faults : Node → List FormFault
features_faults (array items) = each_position listed_faults 0 items
features_faults (table switches) = each_entry switch_faults switches
features_faults given = wrong_kind features_path

-- ---- archives, and how running tests are ended

abbrev pub archive_path : (profile : List ℕ) → List PathStep
archive_path profile = profile_path profile (codes "archive")

abbrev pub include_path : (profile : List ℕ) → List PathStep
include_path profile = key_in (archive_path profile) (codes "include")

-- the keys of an entry of what an archive includes
abbrev pub include_keys : List (List ℕ)
include_keys =
    codes "path" ∷ codes "relative-to" ∷ codes "depth" ∷ codes "on-missing" ∷ []

-- the words for what a path is relative to, and for what an archive does about one that is missing
abbrev pub include_roots : List (List ℕ)
include_roots = codes "target" ∷ []

abbrev pub on_missing_words : List (List ℕ)
on_missing_words = codes "ignore" ∷ codes "warn" ∷ codes "error" ∷ []

-- a depth is a number of at least 0, or `infinite`
abbrev pub depth_faults : List PathStep → Node → List FormFault
depth_faults path (int depth) =
    if is_negative depth then refused_value OutOfRange path else []
depth_faults path given = text_faults (bytes_eq (codes "infinite")) path given

-- an entry of what an archive includes is a table, with a path that is relative to something
abbrev pub entry_faults : List PathStep → Node → List FormFault
entry_faults path (table members) =
    unknown_keys include_keys path members
    ++ (needed_at any_text_faults path (codes "path") members
    ++ (needed_at (text_faults (is_one_of include_roots)) path (codes "relative-to") members
    ++ (faults_at depth_faults path (codes "depth") members
    ++ faults_at (text_faults (is_one_of on_missing_words)) path (codes "on-missing") members)))
entry_faults path given = wrong_kind path

-- what an archive includes is an array of such entries
abbrev pub include_faults : (profile : List ℕ) → Node → List FormFault
include_faults profile (array entries) =
    each_position (λ position. entry_faults (item_in (include_path profile) position)) 0 entries
include_faults profile given = wrong_kind (include_path profile)

-- the archive of a profile is a table, which may say what it includes
abbrev pub archive_faults : (profile : List ℕ) → Node → List FormFault
archive_faults profile (table archive) =
    unknown_keys (codes "include" ∷ []) (archive_path profile) archive
    ++ if_given (include_faults profile) (get (codes "include") archive)
archive_faults profile given = wrong_kind (archive_path profile)

-- the words for how running tests are ended
abbrev pub terminate_words : List (List ℕ)
terminate_words = codes "wait" ∷ codes "immediate" ∷ []

abbrev pub terminate_path : (profile : List ℕ) → List PathStep
terminate_path profile = key_in (profile_path profile (codes "fail-fast")) (codes "terminate")

abbrev pub terminate_faults : (profile : List ℕ) → Node → List FormFault
terminate_faults profile given =
    text_faults (is_one_of terminate_words) (terminate_path profile) given

-- a profile: its archive, and how it ends running tests
abbrev pub profile_faults : (name : List ℕ) → Node → List FormFault
profile_faults name profile =
    if_given (archive_faults name) (member_of (codes "archive") profile)
    ++ if_given (terminate_faults name)
    (option_and_then (member_of (codes "terminate")) (member_of (codes "fail-fast") profile))

-- ---- files

-- the profiles of a file, if they are a table
abbrev pub profiles_faults : Node → List FormFault
profiles_faults (table profiles) = each_entry profile_faults profiles
profiles_faults given = []

-- the version that a file needs, the features that it switches on, and its profiles
abbrev pub form_faults : Node → List FormFault
form_faults file =
    if_given version_faults (member_of (codes "nextest-version") file)
    ++ (if_given features_faults (member_of (codes "experimental") file)
    ++ if_given profiles_faults (member_of (codes "profile") file))

-- the faults of the document of a layer, if it is one, with the position of the layer
abbrev pub layer_faults : ℕ × Layer → List (ℕ × FormFault)
layer_faults placed =
    map (λ fault. (placed.0, fault)) (if_given form_faults (layer_tree placed.1))

-- Findings report what nextest refuses in the files of layers: one for each fault of each file, in
-- the order of layers.
abbrev pub ReportForms : List Layer → List Finding → Type 0
ReportForms layers findings =
    AreOfEach (λ placed. IsFormFinding layers (Some placed.0) placed.1)
    (flat_map layer_faults (enumerate_from 0 layers)) findings
