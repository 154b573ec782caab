use Rattle.std.proofs.Common.{take}
use Rattle.std.specs.List.{AllByRecursion}
use Rattle.nextest_documents.specs.Entries.{IsBelow}
use Rattle.nextest_documents.specs.Layers.{keys_view}
use Rattle.nextest_documents.proofs.spelling.is_asked.Given as goal

abbrev pub invariant-loop-key : goal.invariant-loop-key
invariant-loop-key l =
    AllByRecursion (λ key. IsBelow (keys_view l.path) key → ⊥) (take l.key-index (keys_view l.keys))
