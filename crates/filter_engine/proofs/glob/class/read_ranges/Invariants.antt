use Rattle.std.proofs.Common.{◌≡◌, ℕ, ◌<◌, ◌≤◌, ◌-◌, List, ◌∷◌, drop, length}
use Rattle.filter_engine.proofs.GlobBodies.{ReadItems}
use Rattle.filter_engine.proofs.glob.class.read_ranges.Given as goal

abbrev pub invariant-loop-range : goal.invariant-loop-range
invariant-loop-range l =
    (first : ℕ) × (behind : List ℕ) × (l.text ≡ first ∷ behind) × (first < 128)
    × ReadItems first behind l.range.0 l.range.1 (drop l.at l.text) l.ranges.items × (l.at ≤ length l.text)

abbrev pub decreases-loop-range : goal.decreases-loop-range
decreases-loop-range l = length l.text - l.at
