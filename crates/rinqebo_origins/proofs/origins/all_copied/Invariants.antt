use Rattle.std.proofs.Common.{take}
use Rattle.std.specs.List.{AllZip}
use Rattle.rinqebo_origins.specs.KnownOrigins.{IsCopyOf}
use Rattle.rinqebo_origins.proofs.origins.all_copied.Given as goal

-- the copies so far
abbrev pub invariant-loop-origin : goal.invariant-loop-origin
invariant-loop-origin l = AllZip IsCopyOf (take l.origin-index l.origins) l.copies.items
