use Rattle.std.proofs.Common.{◌≡◌, drop, map}
use Rattle.platform_language.specs.Platforms.Rows.{row_view}
use Rattle.platform_language.specs.Platforms.Targets.{row_of}
use Rattle.platform_language.proofs.platforms.builtin.row_of.Given as goal

-- no row so far has the triple
abbrev pub invariant-loop-row : goal.invariant-loop-row
invariant-loop-row l = row_of (map row_view (drop l.row-index l.rows)) l.triple ≡ row_of (map row_view l.rows) l.triple
