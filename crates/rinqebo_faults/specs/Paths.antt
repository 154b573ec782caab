-- Paths as findings show them.
use Rattle.std.specs.Prelude.{ℕ, Bool, List, [], ◌∷◌, ◌++◌, codes, is_some, Option, None, Some, if◌then◌else◌}
use Rattle.std.specs.Option.{option_and_then}
use Rattle.nextest_shape.specs.Faults.Found.{step_text}
use Rattle.nextest_places.specs.declared.step.Step.{Step}
use Rattle.nextest_places.specs.Spans.Paths.{PathStep}
use Rattle.nextest_places.specs.Spans.Paths as paths
use Rattle.nextest_sources.specs.declared.error.compile.ConfigCompileSection.{ConfigCompileSection}
use Rattle.nextest_sources.specs.declared.error.compile.ConfigCompileSection.TheVariants as sections
use Rattle.nextest_tree.specs.Node.{Node, member_of}

-- steps with a dot before each
abbrev pub dotted : List Step → List ℕ
dotted [] = []
dotted (step ∷ path) = codes "." ++ (step_text step ++ dotted path)

-- a path as findings show it: its keys and positions with dots between them
abbrev pub shown_path : List Step → List ℕ
shown_path [] = []
shown_path (step ∷ path) = step_text step ++ dotted path

-- the path of a key of a profile
abbrev pub profile_path : (profile key : List ℕ) → List PathStep
profile_path profile key =
    paths.key (codes "profile") ∷ paths.key profile ∷ paths.key key ∷ []

-- the path of a section of a profile
abbrev pub section_path : List ℕ → ConfigCompileSection → List PathStep
section_path profile sections.DefaultFilter = profile_path profile (codes "default-filter")
section_path profile (sections.Override index) =
    profile_path profile (codes "overrides") ++ paths.position index ∷ []
section_path profile (sections.Script index) =
    profile_path profile (codes "scripts") ++ paths.position index ∷ []

-- a file has a script of a kind
unfoldable pub has_script : Node → (kind name : List ℕ) → Bool
has_script file kind name =
    is_some (option_and_then (member_of name)
    (option_and_then (member_of kind) (member_of (codes "scripts") file)))

-- the kind of the scripts of a file among which one has a name, unless it is one of the old table
abbrev pub script_kind : Option Node → List ℕ → Option (List ℕ)
script_kind None name = None
script_kind (Some file) name =
    if has_script file (codes "setup") name then Some (codes "setup")
    else if has_script file (codes "wrapper") name then Some (codes "wrapper")
    else None

-- the path of the script of a name among those of a kind, or in the old table
abbrev pub path_in_kind : Option (List ℕ) → List ℕ → List PathStep
path_in_kind None name = paths.key (codes "script") ∷ paths.key name ∷ []
path_in_kind (Some kind) name =
    paths.key (codes "scripts") ∷ paths.key kind ∷ paths.key name ∷ []

-- the path of the script of a name in a file
abbrev pub script_path : Option Node → List ℕ → List PathStep
script_path file name = path_in_kind (script_kind file name) name
