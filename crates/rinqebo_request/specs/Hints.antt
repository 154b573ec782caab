-- Hints: the known name that a user most likely means by a wrong one.
use Rattle.std.specs.Prelude.{◌≡◌, ◌≢◌, ◌<◌, ◌++◌, ◌∷◌, ◌⊎◌, ℕ, All, List, [], MatchOption, None, Option, Some, String, codes, map, string_bytes}
use Rattle.std.specs.declared.alloc.Global.{Global}
use Rattle.std.specs.Borrow.{Bor}
use Rattle.nextest_elements.specs.Settings.{settings}
use Rattle.nextest_elements.specs.declared.run_mode.NextestRunMode.{NextestRunMode}
use Rattle.nextest_elements.specs.declared.run_mode.NextestRunMode.TheVariants as modes
use Rattle.nextest_elements.specs.declared.setting.Setting.{Setting}
use Rattle.rinqebo_keys.specs.Keys.{key_text}
use Rattle.rinqebo_report.specs.Hints.{IsNearest, distance, reach}

-- the hint that names what a user means
abbrev pub hint_text : List ℕ → List ℕ
hint_text name = codes "did you mean `" ++ name ++ codes "`?"

-- A hint names the nearest of some known names. There is none exactly if none of them is near.
abbrev pub IsNameHint : List ℕ → List (Bor (List ℕ)) → Option (String Global) → Type 0
IsNameHint name known None = All (λ other. reach name < distance name other.now) known
IsNameHint name known (Some hint) =
    (nearest : List ℕ) × IsNearest name known nearest × (string_bytes hint ≡ hint_text nearest)

-- a hint names the nearest of some known texts, wherever these are in memory
abbrev pub IsTextHint : List ℕ → List (List ℕ) → Option (String Global) → Type 0
IsTextHint name known hint =
    (names : List (Bor (List ℕ))) × (map (λ other. other.now) names ≡ known)
    × IsNameHint name names hint

-- the other mode
abbrev pub other_mode : NextestRunMode → NextestRunMode
other_mode modes.Test = modes.Benchmark
other_mode modes.Benchmark = modes.Test

-- the keys that name a row of a test: those of all settings, and `runs`
abbrev pub row_keys : NextestRunMode → List (List ℕ)
row_keys mode = map (λ setting. key_text setting mode) settings ++ codes "runs" ∷ []

-- a hint names the key of the setting which has a key in the other mode
abbrev pub IsOtherKeyHint : List ℕ → NextestRunMode → Option (String Global) → Type 0
IsOtherKeyHint key mode hint =
    (setting : Setting) × (key_text setting (other_mode mode) ≡ key)
    × MatchOption hint ⊥ (λ hint. string_bytes hint ≡ hint_text (key_text setting mode))

-- A hint names a key of a mode: that of the setting which has the key in the other mode, if one
-- has it there, or else the nearest key.
abbrev pub IsKeyHint : List ℕ → NextestRunMode → Option (String Global) → Type 0
IsKeyHint key mode hint =
    IsOtherKeyHint key mode hint
    ⊎ (((setting : Setting) → key_text setting (other_mode mode) ≢ key)
    × IsTextHint key (row_keys mode) hint)
