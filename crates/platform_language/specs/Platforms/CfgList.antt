-- What the compiler prints for a platform, line by line.
use Rattle.std.specs.Prelude.{◌≡◌, ◌≢◌, ℕ, ◌+◌, Bool, false, ◌&&◌, IsTrue, IsFalse, List, [], ◌∷◌, ◌++◌, length, map, Some, is_some, if◌then◌else◌, Result, Ok, Err, codes}
use Rattle.std.specs.Global.{Vec}
use Rattle.std.specs.List.{list_any}
use Rattle.std.specs.Str.{bytes_eq}
use Rattle.std.specs.Str.Lines.{lines}
use Rattle.platform_language.specs.Platforms.Platforms.{Line, PlatformData, line_view}
use Rattle.platform_language.specs.Platforms.CfgLines.{WritesLines, IsNoLine}
use Rattle.platform_language.specs.declared.platforms.CfgLine.{CfgLine}
use Rattle.platform_language.specs.declared.platforms.fault.PlatformFault.{PlatformFault}
use Rattle.platform_language.specs.declared.platforms.fault.PlatformFault.TheVariants.{UnknownTriple, BadLine, NotACfgList, Memory}

-- whether some line has a value of this key
abbrev pub has_value : List ℕ → List Line → Bool
has_value key lines = list_any (λ line. bytes_eq line.key key && is_some line.value) lines

-- the lines, and behind them one with the empty value of this key, where none has a value of it
abbrev pub with_empty : List ℕ → List Line → List Line
with_empty key lines =
    if has_value key lines then lines else lines ++ (record { key = key; value = Some [] } ∷ [])

-- the lines with those that an older compiler leaves out
abbrev pub completed : List Line → List Line
completed lines = with_empty (codes "target_abi") (with_empty (codes "target_env") lines)

-- whether the lines have an architecture and a system
abbrev pub tells_target : List Line → Bool
tells_target lines = has_value (codes "target_arch") lines && has_value (codes "target_os") lines

-- the platform of a triple and lines, with those that an older compiler leaves out
abbrev pub platform_with : List ℕ → List Line → PlatformData
platform_with triple lines = record {
  triple = triple;
  lines = completed lines;
  features_given = false;
}

-- The text writes lines of a target, and the platform is that of the triple and these lines.
pub record IsPlatformOf (triple text : List ℕ) (platform : PlatformData) : Type 0 where
  pub read : List Line
  pub written : WritesLines (lines text) read
  pub complete : IsTrue (tells_target read)
  pub made : platform ≡ platform_with triple read

-- The text of this number, counted from 1, is the first that is neither empty nor writes a line.
pub record IsFirstBad (texts : List (List ℕ)) (number : ℕ) : Type 0 where
  pub before : List (List ℕ)
  pub bad : List ℕ
  pub after : List (List ℕ)
  pub stands : texts ≡ before ++ (bad ∷ after)
  pub counted : number ≡ length before + 1
  pub read : List Line
  pub good : WritesLines before read
  pub is_no_line : IsNoLine bad
  pub not_empty : bad ≢ []

-- The text writes lines without a target.
pub record TellsNoTarget (text : List ℕ) : Type 0 where
  pub read : List Line
  pub written : WritesLines (lines text) read
  pub untold : IsFalse (tells_target read)

-- Why a text is refused. Of a refusal of memory it says nothing.
abbrev pub IsRefusedFor : List ℕ → PlatformFault → Type 0
IsRefusedFor text UnknownTriple = ⊥
IsRefusedFor text (BadLine number) = IsFirstBad (lines text) number
IsRefusedFor text NotACfgList = TellsNoTarget text
IsRefusedFor text Memory = Unit {0}

-- Texts are read as the lines that they write, or refused for the first that is bad.
abbrev pub ReadsLines : List (List ℕ) → Result (Vec CfgLine) PlatformFault → Type 0
ReadsLines texts (Ok read) = WritesLines texts (map line_view read.items)
ReadsLines texts (Err (BadLine number)) = IsFirstBad texts number
ReadsLines texts (Err Memory) = Unit {0}
ReadsLines texts (Err other) = ⊥
