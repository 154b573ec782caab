-- What the engine reads, and how it refuses.
use Rattle.std.proofs.Common.{◌≡◌, ℕ, ◌+◌, ◌≤◌, List, length, Ok, Err, ap, sym, ◌∙◌, subst, arith}
use Rattle.std.specs.Result.{result_map_both}
use Rattle.nextest_engines.specs.Engines.{PointsInto, refusal_view}
use Rattle.nextest_engines.specs.declared.queries.FiltersetKind.{FiltersetKind}
use Rattle.nextest_engines.specs.declared.refusal.Refusal.{Refusal}
use Rattle.filter_language.specs.declared.fault.FiltersetFault.{FiltersetFault}
use Rattle.filter_language.specs.Filters.{filter_in}
use Rattle.filter_engine.specs.declared.engine.NextestFilters.{NextestFilters}
use Rattle.filter_engine.specs.Compiling.{reads_packages, compiled_in}
use Rattle.filter_engine.specs.Engine.{Filter, read_filter}
use Rattle.filter_engine.specs.Refusals.{fault_refusal}

pub read_ok : (engine : NextestFilters) (kind : FiltersetKind) (text : List ℕ) (m : Filter)
    → filter_in (compiled_in engine) (reads_packages engine.packages) kind text ≡ Ok m → read_filter engine kind text ≡ Ok m
read_ok engine kind text m e = ap (result_map_both (λ (x : Filter). x) fault_refusal) e

-- What is refused, is refused for its first fault.
pub read_err : (engine : NextestFilters) (kind : FiltersetKind) (text : List ℕ) (fault : FiltersetFault)
    (refusal : Refusal) → filter_in (compiled_in engine) (reads_packages engine.packages) kind text ≡ Err fault
    → refusal_view refusal ≡ fault_refusal fault → read_filter engine kind text ≡ Err (refusal_view refusal)
read_err engine kind text fault refusal e says =
    ap (result_map_both (λ (x : Filter). x) fault_refusal) e ∙ ap Err (sym says)

-- The span of a fault within a text lies in it.
pub points_into : (text : List ℕ) (fault : FiltersetFault) (refusal : Refusal)
    → fault.span.start + fault.span.length ≤ length text → refusal_view refusal ≡ fault_refusal fault
    → PointsInto text (refusal_view refusal)
points_into text fault refusal fits says =
    let ordered : fault.span.start ≤ fault.span.start + fault.span.length = omega arith in
    subst (PointsInto text) (sym says) (ordered, fits)
