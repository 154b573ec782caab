use Rattle.std.proofs.Common.{◌≡◌, ◌++◌, ◌∷◌, [], ℕ, List, Bor, drop, nat_cmp}
use Rattle.std.specs.BTreeMap.{get_by}
use Rattle.std.specs.Cmp.Lexicographic.{slice_cmp}
use Rattle.nextest_places.specs.declared.step.Step.TheVariants.{Key}
use Rattle.nextest_places.specs.Entries.{scan, waits}
use Rattle.nextest_places.specs.Ids.{outcome_by}
use Rattle.nextest_places.specs.Marks.{fresh}
use Rattle.nextest_places.proofs.id_lines.IdLines.of.Given as goal

abbrev pub invariant-loop-entry : goal.invariant-loop-entry
invariant-loop-entry l =
    (id : Bor (List ℕ))
    → scan (drop l.entry-index l.entries)
    (outcome_by (get_by (λ k. slice_cmp nat_cmp id.now k.now) l.own) (fresh (l.table ++ Key id ∷ [])))
    ≡ scan l.entries (waits (fresh (l.table ++ Key id ∷ [])))
