-- What is required of the files of a load, before their texts: one file a tool, and which
-- files may be missing.
use Rattle.std.specs.Prelude.{◌≡◌, ℕ, IsTrue, List, [], ◌∷◌, ◌++◌, Option, None, Some, option_map, find, if◌then◌else◌}
use Rattle.std.specs.Str.{bytes_eq}
use Rattle.nextest_sources.specs.Causes.{LoadCause, duplicate_tool, no_text, LoadFault, at_source}
use Rattle.nextest_sources.specs.Inputs.{tool_source}
use Rattle.nextest_sources.specs.Sources.{Source, SourceKind, may_be_missing, Outcome, text, not_found, not_a_directory, failed, ToolFile}
use Rattle.nextest_sources.specs.Steps.{LoadStep, check}

-- a fact of each element of a list
abbrev pub Each : {X : Type 0} → (X → Type 0) → List X → Type 0
Each P [] = Unit {0}
Each P (x ∷ xs) = P x × Each P xs

-- a file is read; or it is missing, and it may be
abbrev pub IsReadOrMissing : SourceKind → Outcome → Type 0
IsReadOrMissing kind (text t) = Unit {0}
IsReadOrMissing kind not_found = IsTrue (may_be_missing kind)
IsReadOrMissing kind not_a_directory = IsTrue (may_be_missing kind)
IsReadOrMissing kind (failed message) = ⊥

-- no tool has two files
abbrev pub HaveOneFileEach : List ToolFile → Type 0
HaveOneFileEach files = (before between after : List ToolFile) (t u : ToolFile)
    → files ≡ before ++ t ∷ between ++ u ∷ after → t.tool ≡ u.tool → ⊥

-- The fault is that of a tool's second file, by the first argument that has an earlier one of its
-- tool, and it names the first file of that tool.
pub record IsFirstDuplicate (files : List ToolFile) (fault : LoadFault) : Type 0 where
  pub before : List ToolFile
  pub first : ToolFile
  pub between : List ToolFile
  pub second : ToolFile
  pub after : List ToolFile
  pub splits : files ≡ before ++ first ∷ between ++ second ∷ after
  pub same : first.tool ≡ second.tool
  -- there is no earlier file of the tool
  pub earliest : Each (λ t. t.tool ≡ second.tool → ⊥) before
  -- and no earlier argument has an earlier one of its tool
  pub least : HaveOneFileEach (before ++ first ∷ between)
  pub tells : fault ≡ at_source (tool_source second) (duplicate_tool second.tool first.file.path)

-- a file that is missing is refused, unless it may be missing
abbrev pub missing_cause : SourceKind → Outcome → Option LoadCause
missing_cause kind o = if may_be_missing kind then None else Some (no_text o)

-- why the outcome of a file is refused
abbrev pub outcome_cause : SourceKind → Outcome → Option LoadCause
outcome_cause kind (text t) = None
outcome_cause kind not_found = missing_cause kind not_found
outcome_cause kind not_a_directory = missing_cause kind not_a_directory
outcome_cause kind (failed message) = Some (no_text (failed message))

-- a fault of a source, if there is a cause
abbrev pub fault_at_source : Source → Option LoadCause → Option LoadFault
fault_at_source source cause = option_map (at_source source) cause

-- the path of the first file of a tool among some
abbrev pub first_path : List ℕ → List ToolFile → Option (List ℕ)
first_path tool files = option_map (λ t. t.file.path) (find (λ t. bytes_eq t.tool tool) files)

-- why a tool's file is refused: one of the files before it is of the same tool
abbrev pub second_cause : (before : List ToolFile) → ToolFile → Option LoadCause
second_cause before t = option_map (duplicate_tool t.tool) (first_path t.tool before)

-- The steps of tools' files over those before them: each is looked at for an earlier one of its
-- tool.
abbrev pub tool_steps : (before : List ToolFile) → List ToolFile → List LoadStep
tool_steps before [] = []
tool_steps before (t ∷ files) =
    check (tool_source t) (second_cause before t) ∷ tool_steps (before ++ t ∷ []) files
