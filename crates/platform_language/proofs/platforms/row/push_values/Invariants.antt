use Rattle.std.proofs.Common.{◌≡◌, ◌++◌, drop, map}
use Rattle.platform_language.specs.Platforms.Platforms.{line_view}
use Rattle.platform_language.specs.Platforms.Rows.{texts_of, value_line}
use Rattle.platform_language.proofs.platforms.row.push_values.Given as goal

-- the lines so far, and those of the columns that are left, are all of them
abbrev pub invariant-loop-key : goal.invariant-loop-key
invariant-loop-key l =
    map line_view l.lines.items ++ map value_line (map texts_of (drop l.key-index l.columns))
    ≡ map line_view l.initial.lines.items ++ map value_line (map texts_of l.columns)
