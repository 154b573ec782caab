use Rattle.std.proofs.Common.{◌≡◌, drop, map}
use Rattle.platform_language.specs.Platforms.Platforms.{line_view}
use Rattle.platform_language.specs.Platforms.CfgList.{has_value}
use Rattle.platform_language.proofs.platforms.cfg_list.has_value.Given as goal

-- no line so far has a value of the key
abbrev pub invariant-loop-line : goal.invariant-loop-line
invariant-loop-line l = has_value l.key (map line_view (drop l.line-index l.lines))
    ≡ has_value l.key (map line_view l.lines)
