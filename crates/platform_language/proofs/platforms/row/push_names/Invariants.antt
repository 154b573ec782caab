use Rattle.std.proofs.Common.{◌≡◌, ◌++◌, drop, map}
use Rattle.platform_language.specs.Platforms.Platforms.{line_view}
use Rattle.platform_language.specs.Platforms.Rows.{name_line}
use Rattle.platform_language.proofs.platforms.row.push_names.Given as goal

-- the lines so far, and those of the names that are left, are all of them
abbrev pub invariant-loop-name : goal.invariant-loop-name
invariant-loop-name l =
    map line_view l.lines.items ++ map name_line (map (λ text. text.now) (drop l.name-index l.name-items))
    ≡ map line_view l.initial.lines.items ++ map name_line (map (λ text. text.now) l.name-items)
