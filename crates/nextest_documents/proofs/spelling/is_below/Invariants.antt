use Rattle.std.proofs.Common.{◌≡◌, ℕ, suc, ◌<◌, take}
use Rattle.nextest_documents.specs.Entries.{dotted}
use Rattle.nextest_documents.specs.Layers.{keys_view}
use Rattle.nextest_documents.proofs.spelling.is_below.Given as goal

abbrev pub invariant-loop-last : goal.invariant-loop-last
invariant-loop-last l = (n : ℕ) → n < l.last → dotted (take (suc n) (keys_view l.path)) ≡ l.key → ⊥
