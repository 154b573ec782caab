use Rattle.std.proofs.Common.{◌≡◌, drop}
use Rattle.rinqebo_changes.specs.Pages.{total_of}
use Rattle.rinqebo_changes.proofs.text_page.total_of.Given as goal

-- what is left has the same total
abbrev pub invariant-loop-one : goal.invariant-loop-one
invariant-loop-one l = total_of (drop l.one-index l.binaries) l.binary ≡ total_of l.binaries l.binary
