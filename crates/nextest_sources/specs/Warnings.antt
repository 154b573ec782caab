-- What a load may warn of, and what contracts see of warnings.
use Rattle.std.specs.Prelude.{ℕ, List, map}
use denote.Ref.{Bor}
use Rattle.nextest_sources.specs.Sources.{Source}

-- a warning of a source
pub data Warning : Type 0 where
  -- keys that no schema knows, by their paths
  unknown_keys : (source : Source) (paths : List (List ℕ)) → Warning
  -- profiles whose names are reserved
  reserved_profiles : (source : Source) (names : List (List ℕ)) → Warning
  -- scripts under the old key
  deprecated_scripts : (source : Source) → Warning
  -- so many script rules of a profile that name no script
  empty_sections : (source : Source) (profile : List ℕ) (count : ℕ) → Warning

-- the texts that references point to
abbrev pub texts_view : List (Bor (List ℕ)) → List (List ℕ)
texts_view texts = map (λ t. t.now) texts
