-- The timeouts of benchmarks.
use Rattle.nextest_tree.specs.declared.key.Key.TheVariants as keys
use Rattle.nextest_elements.specs.declared.bench.BenchConfig.{BenchConfig}
use Rattle.nextest_elements.specs.declared.bench.BenchOverride.{BenchOverride}
use Rattle.nextest_tree.specs.Key.{key_text}
use Rattle.nextest_tree.specs.Node.{Entries, get}
use Rattle.nextest_tree.specs.Schema.{Schema, struct, Fields, may, no_more}
use Rattle.nextest_elements.specs.Nanoseconds.{a_duration}
use Rattle.nextest_tree.specs.Reads.{IsOptional}
use Rattle.nextest_elements.specs.SlowTimeout.{slow_timeout, IsSlowTimeout}
use Rattle.nextest_elements.specs.GlobalTimeout.{IsGlobalTimeout}

-- the fields of a profile's table
abbrev pub bench_fields : Fields
bench_fields = may keys.SlowTimeout slow_timeout (may keys.GlobalTimeout a_duration no_more)

-- what the fields of a profile's table say
pub record IsBench (es : Entries) (bench : BenchConfig) : Type 0 where
  pub slow_timeout :
      IsOptional IsSlowTimeout (get (key_text keys.SlowTimeout) es) bench.slow_timeout
  pub global_timeout :
      IsOptional IsGlobalTimeout (get (key_text keys.GlobalTimeout) es) bench.global_timeout

-- a table of these fields
abbrev pub bench : Schema
bench = struct bench_fields

-- the one field of an override's table
abbrev pub bench_override_fields : Fields
bench_override_fields = may keys.SlowTimeout slow_timeout no_more

-- what the field of an override's table says
abbrev pub IsBenchOverride : Entries → BenchOverride → Type 0
IsBenchOverride es bench =
    IsOptional IsSlowTimeout (get (key_text keys.SlowTimeout) es) bench.slow_timeout

-- a table of this field
abbrev pub bench_override : Schema
bench_override = struct bench_override_fields
