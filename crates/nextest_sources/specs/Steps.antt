-- The steps of a load, in order: what it checks and what it warns of; and so its first fault.
use Rattle.std.specs.Prelude.{List, [], ◌∷◌, Option, None, Some}
use Rattle.nextest_sources.specs.Causes.{LoadCause, LoadFault, at_source}
use Rattle.nextest_sources.specs.Sources.{Source}
use Rattle.nextest_sources.specs.Warnings.{Warning}

-- A step of a load: a warning, or a check of a source, with what it refuses, if it does.
pub data LoadStep : Type 0 where
  warn : Warning → LoadStep
  check : Source → Option LoadCause → LoadStep

-- the first fault of some steps
abbrev pub first_fault : List LoadStep → Option LoadFault
first_fault [] = None
first_fault (warn w ∷ steps) = first_fault steps
first_fault (check s None ∷ steps) = first_fault steps
first_fault (check s (Some cause) ∷ steps) = Some (at_source s cause)

-- the warnings before the first fault
abbrev pub warnings_before : List LoadStep → List Warning
warnings_before [] = []
warnings_before (warn w ∷ steps) = w ∷ warnings_before steps
warnings_before (check s None ∷ steps) = warnings_before steps
warnings_before (check s (Some cause) ∷ steps) = []
