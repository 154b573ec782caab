use Rattle.std.proofs.Common.{◌≡◌, ℕ, ◌+◌, length}
use Rattle.std.specs.Prelude.{option_map}
use Rattle.nextest_elements.specs.DurationFunction.{some_sum_of, words_of}
use Rattle.nextest_elements.specs.DurationSteps.{within_limit}
use Rattle.nextest_elements.proofs.duration.read_items.Given as goal

-- the total so far and the sum of the rest are the sum of the text
abbrev pub invariant-loop-amount : goal.invariant-loop-amount
invariant-loop-amount l =
    (n : ℕ) × (l.total ≡ within_limit n)
    × (some_sum_of (words_of l.fn.text) ≡ option_map (λ m. n + m) (some_sum_of (words_of l.rest)))

abbrev pub decreases-loop-amount : goal.decreases-loop-amount
decreases-loop-amount l = length l.rest
