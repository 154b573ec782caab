-- Why a command line is not a request.
use Rattle.std.specs.Prelude.{◌≡◌, ◌≢◌, ◌++◌, ◌∷◌, ℕ, List, [], None, Option, Some, codes, string_bytes}
use Rattle.clap.specs.declared.error.kind.ErrorKind.{ErrorKind}
use Rattle.clap.specs.declared.error.kind.ErrorKind.TheVariants as kinds
use Rattle.nextest_elements.specs.declared.identifier.InvalidIdentifier.{InvalidIdentifier}
use Rattle.nextest_elements.specs.declared.identifier.InvalidIdentifier.TheVariants as flaws
use Rattle.rinqebo_request.specs.declared.words.ParseStop.{ParseStop}
use Rattle.rinqebo_request.specs.declared.words.ParseStop.TheVariants as stops

-- the text of a usage error, with a hint on a line of its own, if there is one
abbrev pub usage_text : List ℕ → Option (List ℕ) → List ℕ
usage_text message None = codes "error: " ++ message ++ 10 ∷ []
usage_text message (Some hint) =
    codes "error: " ++ message ++ (10 ∷ codes "  ") ++ hint ++ 10 ∷ []

-- a line is not a request: of this text, and with this hint
abbrev pub IsUsage : List ℕ → Option (List ℕ) → ParseStop → Type 0
IsUsage message hint (stops.Usage text) = string_bytes text ≡ usage_text message hint
IsUsage message hint (stops.Help text) = ⊥
IsUsage message hint stops.Memory = ⊥

-- a line is not valid
abbrev pub IsInvalid : ParseStop → Type 0
IsInvalid (stops.Usage text) = Unit {0}
IsInvalid (stops.Help text) = ⊥
IsInvalid stops.Memory = ⊥

-- a line requests help
abbrev pub IsHelp : ParseStop → Type 0
IsHelp (stops.Help text) = Unit {0}
IsHelp (stops.Usage text) = ⊥
IsHelp stops.Memory = ⊥

-- why a line stops is what clap says: help, or the version, or that memory ran out; anything else
-- is not valid
abbrev pub IsStopFor : ErrorKind → ParseStop → Type 0
IsStopFor kinds.OutOfMemory stop = stop ≡ stops.Memory
IsStopFor kinds.DisplayHelp stop = IsHelp stop
IsStopFor kinds.DisplayVersion stop = IsHelp stop
IsStopFor _ stop = IsInvalid stop

-- why a name is not that of a tool: memory ran out, or it is not valid
abbrev pub IsToolRefusal : InvalidIdentifier → ParseStop → Type 0
IsToolRefusal fault (stops.Usage text) = fault ≢ flaws.Memory
IsToolRefusal fault stops.Memory = fault ≡ flaws.Memory
IsToolRefusal fault (stops.Help text) = ⊥

-- a line is refused for a reason: it is not valid, and then the reason holds, or memory ran out
abbrev pub IsRefusedFor : Type 0 → ParseStop → Type 0
IsRefusedFor reason (stops.Usage text) = reason
IsRefusedFor reason stops.Memory = Unit {0}
IsRefusedFor reason (stops.Help text) = ⊥
