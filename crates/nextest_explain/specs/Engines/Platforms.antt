use Rattle.std.specs.Prelude.{ℕ, Bool, not, ◌==◌, ◌||◌, ◌&&◌, List, ◌++◌, Option, None, Some, Result, ok_or, length, is_some, string_bytes, codes, eqb, if◌then◌else◌}
use Rattle.std.specs.List.{list_all, ends_with}
use Rattle.std.specs.Char.{is_ascii_alphanumeric}
use Rattle.std.specs.Str.{bytes_eq}
use Rattle.nextest_engines.specs.Engines.{RefusalText, without_span}
use Rattle.nextest_explain.specs.Engines.Texts.{after_prefix, has_part}
use Rattle.nextest_explain.specs.declared.engines.platforms.ToySpec.{ToySpec}
use Rattle.nextest_explain.specs.declared.engines.platforms.ToySpec.TheVariants.{Unix, Windows, Linux, MacOs, OtherCfg, Triple}

-- What a platform spec tests of a triple.
pub data Platforms : Type 0 where
  OnUnix : Platforms
  OnWindows : Platforms
  OnLinux : Platforms
  OnMacOs : Platforms
  NotKnown : Platforms
  OnTriple : List ℕ → Platforms

-- What a spec in memory tests.
abbrev pub platforms_of : ToySpec → Platforms
platforms_of Unix = OnUnix
platforms_of Windows = OnWindows
platforms_of Linux = OnLinux
platforms_of MacOs = OnMacOs
platforms_of OtherCfg = NotKnown
platforms_of (Triple triple) = OnTriple (string_bytes triple)

-- Whether a text begins `cfg(` and ends `)`.
abbrev pub is_cfg : List ℕ → Bool
is_cfg text = is_some (after_prefix (codes "cfg(") text) && ends_with eqb text (codes ")")

-- Whether a byte may be in a triple: a letter or a digit of ASCII, `_`, `-` or `.`.
abbrev pub is_triple_byte : ℕ → Bool
is_triple_byte c = is_ascii_alphanumeric c || ((c == 95) || ((c == 45) || (c == 46)))

-- Whether a text is a triple.
abbrev pub is_triple : List ℕ → Bool
is_triple text = not (length text == 0) && list_all is_triple_byte text

-- What a text tests that is not a `cfg` of a known name.
abbrev pub other_spec : List ℕ → Option Platforms
other_spec text =
    if is_cfg text then Some NotKnown else
    (if is_triple text then Some (OnTriple text) else None)

-- What a text tests of a triple.
abbrev pub spec_in : List ℕ → Option Platforms
spec_in text =
    if bytes_eq text (codes "cfg(unix)") then Some OnUnix else
    (if bytes_eq text (codes "cfg(windows)") then Some OnWindows else
    (if bytes_eq text (codes "cfg(target_os = \"linux\")") then Some OnLinux else
    (if bytes_eq text (codes "cfg(target_os = \"macos\")") then Some OnMacOs else other_spec text)))

-- Whether a triple meets a spec, or none where that is unknown.
abbrev pub meets : Platforms → List ℕ → Option Bool
meets OnUnix triple = Some (has_part (codes "linux") triple || has_part (codes "darwin") triple)
meets OnWindows triple = Some (has_part (codes "windows") triple)
meets OnLinux triple = Some (has_part (codes "linux") triple)
meets OnMacOs triple = Some (has_part (codes "darwin") triple)
meets NotKnown triple = None
meets (OnTriple wanted) triple = Some (bytes_eq triple wanted)

-- The message of a refusal.
abbrev pub no_spec : List ℕ → List ℕ
no_spec text = codes "`" ++ text ++ codes "` is no platform spec"

-- What a text means, or its refusal, which has no span.
abbrev pub spec_read : List ℕ → Result Platforms RefusalText
spec_read text = ok_or (spec_in text) (without_span (no_spec text))
