use Rattle.std.proofs.Common.{◌≡◌, ℕ, List, false, refl}
use Rattle.std.specs.BTreeSet.{contains_text}
use Rattle.nextest_tree.specs.Reads.{start, walk_view}
use Rattle.nextest_tree.proofs.walk.Walk.new.Goals as goal

pub returns : goal.returns
unfolding start walk_view
returns c =
    let none : (q : List ℕ) → contains_text c.new-2.result q ≡ false = λ q. rw c.new-2.ensures.empty refl in
    λ i. record { path = c.new.ensures.bytes i; is_noted = λ q. none q i }
