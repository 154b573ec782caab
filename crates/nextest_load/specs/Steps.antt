-- The steps of a load, in order: the tools, the inputs from the lowest, the merged tree.
use Rattle.std.specs.Prelude.{ℕ, List, [], ◌∷◌, ◌++◌, map, Option, None, Some, option_map, flat_map}
use Rattle.std.specs.Cmp.Lexicographic.{slice_cmp}
use Rattle.std.specs.Ordering.{nat_cmp, match_ordering}
use Rattle.nextest_documents.specs.Text.{tree_of}
use Rattle.nextest_engines.specs.Readings.{Readings}
use Rattle.nextest_rules.specs.Definitions.{Features}
use Rattle.nextest_rules.specs.Known.{known_names, known_to, sets_of}
use Rattle.nextest_rules.specs.Steps.{warn_if_some, definition_steps, parent_cause, rule_steps}
use Rattle.nextest_sources.specs.Causes.{NameSet, LoadCause, no_document, bad_element}
use Rattle.nextest_sources.specs.InputFaults.{outcome_cause, tool_steps}
use Rattle.nextest_sources.specs.Inputs.{LoadInputs, Input, SourceText, inputs_of, source_texts_of, sources_in, repository_of}
use Rattle.nextest_sources.specs.Sources.{Source}
use Rattle.nextest_sources.specs.Steps.{LoadStep, check}
use Rattle.nextest_sources.specs.Warnings.{unknown_keys}
use Rattle.nextest_tables.specs.FileTexts.{FileText, file_text}
use Rattle.nextest_tables.specs.Tables.{a_file}
use Rattle.nextest_tree.specs.Node.{Node}
use Rattle.nextest_tree.specs.Schema.{first, faults, unknown, is_one_of}
use Rattle.nextest_load.specs.Trees.{own_tree, own_file, merged_tree}

-- a text among texts that ascend by their bytes, once
abbrev pub insert_text : List ℕ → List (List ℕ) → List (List ℕ)
insert_text t [] = t ∷ []
insert_text t (u ∷ us) =
    match_ordering (slice_cmp nat_cmp t u) (t ∷ u ∷ us) (u ∷ us) (u ∷ insert_text t us)

-- texts in the order of their bytes, each once
abbrev pub in_byte_order : List (List ℕ) → List (List ℕ)
in_byte_order [] = []
in_byte_order (t ∷ ts) = insert_text t (in_byte_order ts)

-- a text that is not a document
abbrev pub document_cause : Option Node → Option LoadCause
document_cause None = Some no_document
document_cause (Some n) = None

-- the first fault of a tree's elements
abbrev pub element_cause : Node → Option LoadCause
element_cause n = option_map bad_element (first (faults a_file [] n))

-- the warning of keys that no schema knows, if there are any
abbrev pub unknown_steps : Source → Node → List LoadStep
unknown_steps source n = warn_if_some (unknown_keys source) (in_byte_order (unknown a_file [] n))

-- the steps of the tree of a source: its elements, its unknown keys
abbrev pub own_steps : Source → Node → List LoadStep
own_steps source n = check source (element_cause n) ∷ unknown_steps source n

-- the names of the profiles of files
abbrev pub profiles_in : List FileText → NameSet
profiles_in files = is_one_of (known_names files).profiles

-- The steps of a file over the files below it, in order: its elements and unknown keys, what it
-- defines, its rules.
abbrev pub file_steps : {M K P : Type 0} → Readings M K P → Features → List FileText → Source
    → Node → List LoadStep
file_steps engines features below source n =
    own_steps source n
    ++ (definition_steps features source (file_text n)
    ++ rule_steps engines (profiles_in below) (sets_of (known_to below (file_text n))) source
    (file_text n))

-- the names of the profiles of sources
abbrev pub lower_profiles : List SourceText → NameSet
lower_profiles below = profiles_in (map own_file below)

-- The steps of a source over those below it, in order: it is a document, and its file over the
-- defaults.
abbrev pub source_steps : {M K P : Type 0} → Readings M K P → Features → List SourceText
    → SourceText → List LoadStep
source_steps engines features below s =
    check s.source (document_cause (tree_of s.text))
    ∷ file_steps engines features (map own_file below) s.source (own_tree s)

-- the steps of an input over the sources below it: its outcome, and then its text, if it gave one
abbrev pub one_input_steps : {M K P : Type 0} → Readings M K P → Features → List SourceText → Input
    → List LoadStep
one_input_steps engines features below i =
    check i.source (outcome_cause i.source.kind i.outcome)
    ∷ flat_map (source_steps engines features below) (source_texts_of i)

-- the steps of inputs over the sources below them, the lowest first
abbrev pub input_steps : {M K P : Type 0} → Readings M K P → Features → List SourceText
    → List Input → List LoadStep
input_steps engines features below [] = []
input_steps engines features below (i ∷ above) =
    one_input_steps engines features below i
    ++ input_steps engines features (below ++ source_texts_of i) above

-- no profile of a lower file
abbrev pub no_profiles : NameSet
no_profiles = is_one_of []

-- the steps of a tree that sources were merged to, at the repository's source
abbrev pub tree_steps : Source → Node → List LoadStep
tree_steps repository n =
    check repository (element_cause n)
    ∷ check repository (parent_cause no_profiles (file_text n).profiles)
    ∷ []

-- the steps of the merged tree
abbrev pub merged_steps : Source → List SourceText → List LoadStep
merged_steps repository ss = tree_steps repository (merged_tree ss)

-- The steps of a load: the tools, the inputs from the lowest, the merged tree.
abbrev pub load_steps : {M K P : Type 0} → Readings M K P → Features → LoadInputs → List LoadStep
load_steps engines features files =
    tool_steps [] files.tools
    ++ (input_steps engines features [] (inputs_of files)
    ++ merged_steps (repository_of files) (sources_in files))
