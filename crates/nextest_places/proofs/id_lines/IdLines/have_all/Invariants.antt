use Rattle.std.proofs.Common.{IsSome, drop, string_bytes}
use Rattle.std.specs.List.{AllByRecursion}
use Rattle.nextest_places.specs.Ids.{lines_for}
use Rattle.nextest_places.proofs.id_lines.IdLines.have_all.Given as goal

abbrev pub invariant-loop-id : goal.invariant-loop-id
invariant-loop-id l =
    AllByRecursion (λ id. IsSome (lines_for l.self (string_bytes id))) (drop l.id-index l.ids)
    → AllByRecursion (λ id. IsSome (lines_for l.self (string_bytes id))) l.ids
