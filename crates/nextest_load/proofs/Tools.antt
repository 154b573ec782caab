-- The steps of tools' files, and parts of a load that meet a fault.
use Rattle.std.proofs.Common.{◌≡◌, List, [], ◌∷◌, ◌++◌, Option, None, Some, Result, Ok, Err, IsErrAnd, refl, sym, ap, ◌∙◌, append-nil}
use Rattle.nextest_sources.specs.Causes.{LoadCause}
use Rattle.nextest_sources.specs.Endings.{Ending, passed, refused, no_memory, malformed, error_view, ending, Found, WentThrough, Ran}
use Rattle.nextest_sources.specs.InputFaults.{second_cause, tool_steps}
use Rattle.nextest_sources.specs.Inputs.{tool_source}
use Rattle.nextest_sources.specs.Sources.{Source, ToolFile}
use Rattle.nextest_sources.specs.Steps.{LoadStep, check, first_fault, warnings_before}
use Rattle.nextest_sources.specs.Warnings.{Warning}
use Rattle.nextest_sources.specs.declared.error.ConfigParseError.{ConfigParseError}
use Rattle.nextest_sources.proofs.Runs.{ran_memory}

silent_at : (source : Source) (cause : Option LoadCause) (steps : List LoadStep) → warnings_before steps ≡ []
    → warnings_before (check source cause ∷ steps) ≡ []
silent_at source None steps h = h
silent_at source (Some cause) steps h = refl

-- the steps of tools' files warn of nothing
tools_silent : (before tools : List ToolFile) → warnings_before (tool_steps before tools) ≡ []
tools_silent before [] = refl
tools_silent before (t ∷ tools) =
    silent_at (tool_source t) (second_cause before t) (tool_steps (before ++ t ∷ []) tools)
    (tools_silent (before ++ t ∷ []) tools)

silent_told : (steps : List LoadStep) (told : List Warning) → warnings_before steps ≡ []
    → told ≡ told ++ warnings_before steps
silent_told steps told silent = sym (append-nil told) ∙ ap (λ ws. told ++ ws) (sym silent)

went : (steps : List LoadStep) (told : List Warning) (o : Ending) → warnings_before steps ≡ []
    → Found (first_fault steps) o → WentThrough steps told told o
went steps told passed silent h = (h, silent_told steps told silent)
went steps told (refused f) silent h = (h, silent_told steps told silent)
went steps told no_memory silent h = ([], (warnings_before steps, refl), sym (append-nil told))
went steps told malformed silent h = absurd h

-- the files of tools were looked at
pub ran_tools : (tools : List ToolFile) (told : List Warning) (o : Ending)
    → Found (first_fault (tool_steps [] tools)) o → Ran (tool_steps [] tools) told told o
ran_tools tools told o found = record { is = went (tool_steps [] tools) told o (tools_silent [] tools) found }

-- memory ran out before any step
pub spent_first : {T : Type 0} (steps : List LoadStep) (told : List Warning) (r : Result T ConfigParseError)
    → IsErrAnd r (λ e. error_view e ≡ no_memory) → Ran steps told told (ending r)
spent_first steps told (Ok x) h = absurd h
spent_first steps told (Err e) h = ran_memory steps told told e h refl
