use Rattle.std.proofs.Common.{◌≡◌, drop, string_bytes}
use Rattle.std.specs.Prelude.{fold}
use Rattle.nextest_tree.specs.View.{nodes_view}
use Rattle.rinqebo_faults.specs.Features.{texts_of, with_quoted}
use Rattle.rinqebo_faults.proofs.feature_words.add_listed.Given as goal

abbrev pub invariant-loop-item : goal.invariant-loop-item
invariant-loop-item l =
    fold with_quoted (string_bytes l.list) (texts_of (nodes_view (drop l.item-index l.item-items)))
    ≡ fold with_quoted (string_bytes l.fn.list) (texts_of (nodes_view l.item-items))
