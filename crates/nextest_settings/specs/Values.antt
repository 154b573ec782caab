-- The fields of profiles: of each the value of the nearest profile that writes it.
use Rattle.std.specs.Prelude.{List, [], ◌∷◌, Option, None, option_and_then}
use Rattle.std.specs.Option.{option_or}
use Rattle.nextest_elements.specs.declared.bench.BenchConfig.{BenchConfig}
use Rattle.nextest_tables.specs.Written.{WrittenFields, WrittenReport}

-- the value of the nearest profile that writes a field
abbrev pub nearest : {X : Type 0} → (WrittenFields → Option X) → List WrittenFields → Option X
nearest field [] = None
nearest field (f ∷ fs) = option_or (field f) (nearest field fs)

-- a field of the report of a profile
abbrev pub in_report : {X : Type 0} → (WrittenReport → Option X) → WrittenFields → Option X
in_report field f = option_and_then field f.junit

-- a field of what a profile writes for benchmarks
abbrev pub in_bench : {X : Type 0} → (BenchConfig → Option X) → WrittenFields → Option X
in_bench field f = option_and_then field f.bench
