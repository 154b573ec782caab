use Rattle.std.proofs.Common.{◌≡◌, ◌++◌, drop, map}
use Rattle.platform_language.specs.Platforms.Platforms.{line_view}
use Rattle.platform_language.specs.Platforms.Rows.{value_line}
use Rattle.platform_language.proofs.platforms.row.push_list.Given as goal

-- the lines so far, and those of the values that are left, are all of them
abbrev pub invariant-loop-value : goal.invariant-loop-value
invariant-loop-value l =
    map line_view l.lines.items
    ++ map (λ value. value_line (l.key, value)) (map (λ text. text.now) (drop l.value-index l.value-items))
    ≡ map line_view l.initial.lines.items
    ++ map (λ value. value_line (l.key, value)) (map (λ text. text.now) l.value-items)
