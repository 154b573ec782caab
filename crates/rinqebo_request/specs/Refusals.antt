-- What a user reads of a name that the program does not know: a message, and a hint.
use Rattle.std.specs.Prelude.{◌++◌, ◌∷◌, ◌⊎◌, ℕ, Contains, List, [], None, Option, String, codes, map, option_map, string_bytes}
use Rattle.std.specs.declared.alloc.Global.{Global}
use Rattle.nextest_elements.specs.declared.run_mode.NextestRunMode.{NextestRunMode}
use Rattle.rinqebo_report.specs.Codes.Codes.{code_word}
use Rattle.rinqebo_report.specs.declared.codes.code.TheConstants.{CODES}
use Rattle.rinqebo_request.specs.Hints.{IsKeyHint, IsTextHint}
use Rattle.rinqebo_request.specs.Requests.{IsFeatureName}
use Rattle.rinqebo_request.specs.Stops.{IsUsage}
use Rattle.rinqebo_request.specs.declared.words.ParseStop.{ParseStop}
use Rattle.rinqebo_request.specs.declared.words.ParseStop.TheVariants as stops

-- a line is not valid: of this text, and with a hint of which something holds
abbrev pub SaysWith : List ℕ → (Option (String Global) → Type 0) → ParseStop → Type 0
SaysWith message IsHint stop =
    (hint : Option (String Global)) × IsHint hint
    × IsUsage message (option_map string_bytes hint) stop

-- a line is refused for a reason, and what a user reads is known, or memory ran out
abbrev pub IsRefusedWith : Type 0 → (ParseStop → Type 0) → ParseStop → Type 0
IsRefusedWith reason Says (stops.Usage text) = reason × Says (stops.Usage text)
IsRefusedWith reason Says stops.Memory = Unit {0}
IsRefusedWith reason Says (stops.Help text) = ⊥

-- no code has a word: the hint is the nearest word of a code
abbrev pub SaysNoCode : List ℕ → ParseStop → Type 0
SaysNoCode word stop =
    SaysWith (codes "no code is `" ++ word ++ codes "`: `--codes` lists all")
    (IsTextHint word (map code_word CODES)) stop

-- no feature has a name: the hint is the nearest name of a feature
abbrev pub SaysNoFeature : List ℕ → ParseStop → Type 0
SaysNoFeature name stop =
    SaysWith (codes "unknown experimental feature `" ++ name ++ codes "`")
    (IsTextHint name (codes "setup-scripts" ∷ codes "wrapper-scripts" ∷ [])) stop

-- one of some names is not that of a feature, and what a user reads is about it; or memory ran out
abbrev pub IsFeatureRefusal : List (List ℕ) → ParseStop → Type 0
IsFeatureRefusal names (stops.Usage text) =
    (name : List ℕ) × Contains names name × (¬ IsFeatureName name)
    × SaysNoFeature name (stops.Usage text)
IsFeatureRefusal names stops.Memory = Unit {0}
IsFeatureRefusal names (stops.Help text) = ⊥

-- No setting of a test has a key: it is one of the whole run, and the message has a key of
-- `show-config`, or else the hint is the key that the user means.
abbrev pub SaysNoSetting : NextestRunMode → List ℕ → ParseStop → Type 0
SaysNoSetting mode key stop =
    ((shown : List ℕ)
    × IsUsage (codes "`" ++ key ++ codes "` is a setting of the whole run: see `rinqebo show-config "
    ++ shown ++ codes "`") None stop)
    ⊎ SaysWith (codes "unknown setting `" ++ key ++ codes "`") (IsKeyHint key mode) stop
