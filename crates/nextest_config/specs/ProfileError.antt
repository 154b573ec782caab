-- What contracts see of a profile that is not given.
use Rattle.std.specs.Prelude.{◌≡◌, List, false, map, string_bytes}
use Rattle.std.specs.Cmp.Lexicographic.{slice_cmp}
use Rattle.std.specs.List.Sorted.{IsStrictlySortedBy}
use Rattle.std.specs.Ordering.{nat_cmp}
use Rattle.nextest_tables.specs.Written.{Name}
use Rattle.nextest_tree.specs.Schema.{is_one_of}
use Rattle.nextest_config.specs.declared.profile_error.ProfileError.{ProfileError}
use Rattle.nextest_config.specs.declared.profile_error.ProfileError.TheVariants.{NotFound, Memory}
use Rattle.nextest_config.specs.declared.profile_error.ProfileNotFound.{ProfileNotFound}

-- A name is reported as missing: it is none of these names, and all of them are reported, in the
-- order of their bytes.
pub record TellsMissing (names : List Name) (name : Name) (missing : ProfileNotFound) : Type 0 where
  pub same : string_bytes missing.name ≡ name
  pub absent : is_one_of names name ≡ false
  pub all : map string_bytes missing.known.items ≡ names
  pub ascending :
      IsStrictlySortedBy (slice_cmp nat_cmp) (map string_bytes missing.known.items)

-- no profile has the name, if the refusal is not one of memory
abbrev pub IsNotFound : List Name → Name → ProfileError → Type 0
IsNotFound names name (NotFound missing) = TellsMissing names name missing
IsNotFound names name Memory = Unit {0}
