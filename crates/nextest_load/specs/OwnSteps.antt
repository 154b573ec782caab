-- Which steps of a source depend on no other file.
use Rattle.std.specs.Prelude.{◌≡◌, List, ◌∷◌, ◌++◌, map}
use Rattle.nextest_documents.specs.Text.{tree_of}
use Rattle.nextest_engines.specs.Readings.{Readings}
use Rattle.nextest_inheritance.specs.Names.{default_first}
use Rattle.nextest_rules.specs.Definitions.{Features}
use Rattle.nextest_rules.specs.Known.{known_to, sets_of}
use Rattle.nextest_rules.specs.Rules.{layer_of}
use Rattle.nextest_rules.specs.Steps.{compile_cause, definition_steps, name_steps, parent_cause}
use Rattle.nextest_sources.specs.Inputs.{SourceText}
use Rattle.nextest_sources.specs.Steps.{LoadStep, check}
use Rattle.nextest_load.specs.Steps.{document_cause, lower_profiles, own_steps, source_steps}
use Rattle.nextest_load.specs.Trees.{own_file, own_tree}

-- the first steps of a source: it is a document, its elements and unknown keys, what it defines
abbrev pub first_steps : Features → SourceText → List LoadStep
first_steps features s =
    check s.source (document_cause (tree_of s.text))
    ∷ (own_steps s.source (own_tree s) ++ definition_steps features s.source (own_file s))

-- the step of a source's rules and default filters: they compile
abbrev pub compile_step : {M K P : Type 0} → Readings M K P → SourceText → LoadStep
compile_step engines s = check s.source (compile_cause engines (own_file s).profiles)

-- the step of a source's parents, which lower files may define
abbrev pub parent_step : List SourceText → SourceText → LoadStep
parent_step below s = check s.source (parent_cause (lower_profiles below) (own_file s).profiles)

-- the steps of the groups and scripts that a source's rules name, which lower files may define
abbrev pub named_steps : {M K P : Type 0} → Readings M K P → List SourceText → SourceText
    → List LoadStep
named_steps engines below s =
    name_steps engines.leaves (sets_of (known_to (map own_file below) (own_file s))) s.source
    (default_first (layer_of engines s.source (own_file s).profiles).profiles)

-- Over any lower files, a source's first steps and that of compiling are the same: the lower files
-- matter to its parents, and to what its rules name, alone.
abbrev pub KeepOwnSteps : {M K P : Type 0} → Readings M K P → Type 0
KeepOwnSteps engines = (features : Features) (below : List SourceText) (s : SourceText)
    → source_steps engines features below s
    ≡ first_steps features s
    ++ (parent_step below s ∷ compile_step engines s ∷ named_steps engines below s)
