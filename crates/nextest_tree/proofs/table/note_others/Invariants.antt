use Rattle.std.proofs.Common.{◌≡◌, map, string_bytes}
use Rattle.nextest_tree.specs.Node.{keys}
use Rattle.nextest_tree.specs.Reads.{walk_view}
use Rattle.nextest_tree.specs.View.{entries_view}
use Rattle.nextest_tree.proofs.Reading.{left}
use Rattle.nextest_tree.proofs.table.note_others.Given as goal

-- what is noted, and what is left to note
abbrev pub invariant-loop-key : goal.invariant-loop-key
invariant-loop-key l =
    let p = (walk_view l.fn.walk).path in
    record {
      path : (walk_view l.walk).path ≡ p;
      noted : left l.names p (map string_bytes l.key-iterator) (walk_view l.walk)
          ≡ left l.names p (keys (entries_view l.members.entries)) (walk_view l.fn.walk);
    }
