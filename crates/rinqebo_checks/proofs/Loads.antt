-- The result of loads.
use Rattle.std.proofs.Common.{◌≡◌, true, is_some, Option, None, Some}
use Rattle.nextest_sources.specs.Causes.{LoadCause}
use Rattle.nextest_sources.specs.Endings.{ending_at, ending_with, no_memory}
use Rattle.nextest_sources.specs.Errors.{cause_view}
use Rattle.nextest_sources.specs.Sources.{Source}
use Rattle.nextest_sources.specs.declared.error.ConfigParseErrorKind.{ConfigParseErrorKind}

at_cause : (source : Source) (cause : Option LoadCause) → ending_at source cause ≡ no_memory → ⊥
at_cause source (Some cause) is = cc
at_cause source None is = cc

-- a refusal with a source is not a refusal of memory
pub no_want : (source : Option Source) (kind : ConfigParseErrorKind) → is_some source ≡ true
    → ending_with source kind ≡ no_memory → ⊥
no_want (Some source) kind is memory = at_cause source (cause_view kind) memory
no_want None kind is memory = cc
