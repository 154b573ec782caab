-- A default filter with no part that only a test can decide has a known value for each binary.
use Rattle.std.specs.Prelude.{◌≡◌, ℕ, Bool, List, [], Some, Result, Ok, Err, IsSome}
use Rattle.std.proofs.Common.{ap}
use Rattle.std.specs.Result.{result_map_both}
use Rattle.nextest_engines.specs.Engines.{Binary, Test}
use Rattle.nextest_engines.specs.declared.queries.FiltersetKind.TheVariants.{DefaultFilter}
use Rattle.filter_language.specs.declared.fault.FiltersetFault.{FiltersetFault}
use Rattle.filter_language.proofs.Binaries.{marks_speak}
use Rattle.filter_language.specs.Decided.{default_filters_answer}
use Rattle.filter_language.specs.Filters.{filter_in}
use Rattle.filter_language.specs.Filtersets.{says_true}
use Rattle.filter_language.specs.Leaves.{leaves}
use Rattle.filter_engine.specs.declared.engine.NextestFilters.{NextestFilters}
use Rattle.filter_engine.specs.Compiling.{reads_packages, compiled_in}
use Rattle.filter_engine.specs.Engine.{Filter, read_filter, is_among, filter_holds, filter_holds_binary}
use Rattle.filter_engine.specs.Refusals.{fault_refusal}

-- What is read without a refusal is read.
read_itself : (found : Result Filter FiltersetFault) (m : Filter)
    → result_map_both (λ marks. marks) fault_refusal found ≡ Ok m → found ≡ Ok m
read_itself (Ok marks) m e = cc
read_itself (Err fault) m e = absurd (cc)

pub default_filter_answers : (engine : NextestFilters) (text : List ℕ) (m : Filter)
    → read_filter engine DefaultFilter text ≡ Ok m → leaves m ≡ []
    → (binary : Binary) (default : Filter) → IsSome (filter_holds_binary m binary default)
default_filter_answers engine text m read none binary default =
    default_filters_answer is_among (compiled_in engine) (reads_packages engine.packages) text m default
    binary
    (read_itself (filter_in (compiled_in engine) (reads_packages engine.packages) DefaultFilter text) m
    read) none

-- What a filter matches of a binary, it matches of each test of the binary.
pub filters_speak : (m : Filter) (test : Test) (default : Filter) (b : Bool)
    → filter_holds_binary m test.binary default ≡ Some b → filter_holds m test default ≡ b
filters_speak m test default b is = ap says_true (marks_speak is_among m default test b is)
