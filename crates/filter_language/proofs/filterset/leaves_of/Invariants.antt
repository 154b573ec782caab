use Rattle.std.proofs.Common.{◌≡◌, map, take, string_bytes}
use Rattle.filter_language.specs.Grammar.{mark_view}
use Rattle.filter_language.specs.Leaves.{leaves}
use Rattle.filter_language.proofs.filterset.leaves_of.Given as goal

abbrev pub invariant-loop-mark : goal.invariant-loop-mark
invariant-loop-mark g l =
    map string_bytes l.found.items ≡ leaves (map (mark_view g.E.Matchers.meaning) (take l.mark-index l.marks))
