use Rattle.std.proofs.Common.{◌≡◌, ℕ, suc, ◌<◌, ◌-◌, None}
use Rattle.nextest_documents.specs.Text.{tree_of}
use Rattle.nextest_places.specs.Lines.{first_lines, line_count}
use Rattle.nextest_places.proofs.fronts.longest_document.Given as goal

abbrev pub invariant-down : goal.invariant-down
invariant-down l =
    (n : ℕ) → l.total - l.back < n → n < suc (line_count l.fronts) → tree_of (first_lines n l.fronts) ≡ None
