-- What a platform says, without the memory that it takes.
use Rattle.std.specs.Prelude.{ℕ, Bool, List, map, Option, option_map, string_bytes}
use Rattle.std.specs.Borrow.{Bor}
use Rattle.platform_language.specs.declared.platforms.CfgLine.{CfgLine}
use Rattle.platform_language.specs.declared.platforms.Platform.{Platform}

-- A line that the compiler prints: a key alone, or a key with a value.
pub record Line : Type 0 where
  pub key : List ℕ
  pub value : Option (List ℕ)

-- A platform: a triple, its lines in order, and whether its features are given.
pub record PlatformData : Type 0 where
  pub triple : List ℕ
  pub lines : List Line
  pub features_given : Bool

-- what a line says
abbrev pub line_view : CfgLine → Line
line_view line = record { key = string_bytes line.key; value = option_map string_bytes line.value }

-- what a platform says
abbrev pub platform_view : Platform → PlatformData
platform_view platform = record {
  triple = string_bytes platform.triple;
  lines = map line_view platform.lines.items;
  features_given = platform.features_given;
}

-- the line of a key and the value that is borrowed, if there is one
abbrev pub line_of : List ℕ → Option (Bor (List ℕ)) → Line
line_of key value = record { key = key; value = option_map (λ text. text.now) value }
