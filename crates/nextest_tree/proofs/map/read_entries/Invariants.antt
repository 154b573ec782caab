use Rattle.std.proofs.Common.{◌≡◌, List, ◌++◌, String, Global}
use Rattle.nextest_tree.specs.Reads.{walk_view, IsMap}
use Rattle.nextest_tree.specs.ReadSteps.{reading_entries}
use Rattle.nextest_tree.specs.View.{entries_view}
use Rattle.nextest_tree.specs.declared.tree.Tree.{Tree}
use Rattle.nextest_tree.proofs.map.read_entries.Given as goal

-- what is read, and what is left to read
abbrev pub invariant-loop-key : goal.invariant-loop-key
invariant-loop-key g l =
    ((done : List (String Global × Tree)) × (l.members.entries ≡ done ++ l.key-iterator)
    × IsMap g.K.Name.text g.T.Element.is_value (entries_view done) l.values.entries)
    × (reading_entries g.K.Name.test g.T.Element.schema (entries_view l.key-iterator) (walk_view l.walk)
    ≡ reading_entries g.K.Name.test g.T.Element.schema (entries_view l.members.entries) (walk_view l.fn.walk))
