use Rattle.std.proofs.Common.{map, take}
use Rattle.platform_language.specs.Platforms.Platforms.{line_view}
use Rattle.platform_language.specs.Platforms.CfgLines.{WritesLines}
use Rattle.platform_language.proofs.platforms.cfg_list.read_texts.Given as goal

-- the texts so far write the lines so far
abbrev pub invariant-loop-index : goal.invariant-loop-index
invariant-loop-index l = WritesLines (take l.index (map (λ text. text.now) l.texts)) (map line_view l.read.items)
