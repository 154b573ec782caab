-- How calls of a load end: what they report, and which steps they went through.
use Rattle.std.specs.Prelude.{◌≡◌, List, ◌++◌, Option, Some, None, Result, Ok, Err}
use Rattle.nextest_sources.specs.Causes.{LoadCause, LoadFault, at_source}
use Rattle.nextest_sources.specs.Errors.{cause_view, source_of}
use Rattle.nextest_sources.specs.Sources.{Source}
use Rattle.nextest_sources.specs.Steps.{LoadStep, first_fault, warnings_before}
use Rattle.nextest_sources.specs.Warnings.{Warning}
use Rattle.nextest_sources.specs.declared.error.ConfigParseError.{ConfigParseError}
use Rattle.nextest_sources.specs.declared.error.ConfigParseErrorKind.{ConfigParseErrorKind}
use Rattle.nextest_sources.specs.declared.error.ConfigParseErrorKind.TheVariants as kinds

-- how a call ended: with no fault, with this one, or because memory ran out; no call ends with a
-- malformed refusal, which has no fault
pub data Ending : Type 0 where
  passed : Ending
  refused : LoadFault → Ending
  no_memory : Ending
  malformed : Ending

-- the ending that a cause at a source is
abbrev pub ending_at : Source → Option LoadCause → Ending
ending_at source (Some cause) = refused (at_source source cause)
ending_at source None = malformed

-- the ending of a refusal with a source, if it has one, and a kind
abbrev pub ending_with : Option Source → ConfigParseErrorKind → Ending
ending_with (Some source) kind = ending_at source (cause_view kind)
ending_with None kinds.Memory = no_memory
ending_with None kind = malformed

-- what contracts see of a refusal
unfoldable pub error_view : ConfigParseError → Ending
error_view e = ending_with (source_of e) e.kind

-- how a call ended
abbrev pub ending : {T : Type 0} → Result T ConfigParseError → Ending
ending (Ok x) = passed
ending (Err e) = error_view e

-- A check of a source ended as its cause says, unless memory ran out.
abbrev pub Found : Option LoadFault → Ending → Type 0
Found fault passed = fault ≡ None
Found fault (refused f) = fault ≡ Some f
Found fault no_memory = Unit {0}
Found fault malformed = ⊥

-- an ending is a refusal with this fault, or a refusal of memory
abbrev pub IsRefusal : Option LoadFault → Ending → Type 0
IsRefusal fault passed = ⊥
IsRefusal fault (refused f) = fault ≡ Some f
IsRefusal fault no_memory = Unit {0}
IsRefusal fault malformed = ⊥

-- a refusal has this fault, or a refusal of memory
abbrev pub Refuses : ConfigParseError → Option LoadFault → Type 0
Refuses e fault = IsRefusal fault (error_view e)

-- a refusal is one of memory
abbrev pub IsMemory : ConfigParseError → Type 0
IsMemory e = error_view e ≡ no_memory

-- one list begins another
abbrev pub Begins : {X : Type 0} → List X → List X → Type 0
Begins {X} front whole = (rest : List X) × (whole ≡ front ++ rest)

-- a list was followed by a beginning of another one
abbrev pub IsFollowedInPart : {X : Type 0} → (old new more : List X) → Type 0
IsFollowedInPart {X} old new more = (front : List X) × Begins front more × (new ≡ old ++ front)

-- how a call that went through steps left the warnings and ended
abbrev pub WentThrough : List LoadStep → (old new : List Warning) → Ending → Type 0
WentThrough steps old new passed = (first_fault steps ≡ None) × (new ≡ old ++ warnings_before steps)
WentThrough steps old new (refused f) =
    (first_fault steps ≡ Some f) × (new ≡ old ++ warnings_before steps)
WentThrough steps old new no_memory = IsFollowedInPart old new (warnings_before steps)
WentThrough steps old new malformed = ⊥

-- A call ran over steps: it ended with their first fault, if there is one, and reported the
-- warnings before it; where memory ran out, a beginning of them.
pub record Ran (steps : List LoadStep) (old new : List Warning) (end : Ending) : Type 0 where
  pub is : WentThrough steps old new end
