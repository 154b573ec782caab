-- Which kind of refusal says nothing of a source.
use Rattle.std.specs.Prelude.{Bool, true, false}
use Rattle.nextest_sources.specs.declared.error.ConfigParseErrorKind.{ConfigParseErrorKind}
use Rattle.nextest_sources.specs.declared.error.ConfigParseErrorKind.TheVariants as kinds

-- the kind is that of memory
abbrev pub is_memory : ConfigParseErrorKind → Bool
is_memory kinds.Memory = true
is_memory _ = false
