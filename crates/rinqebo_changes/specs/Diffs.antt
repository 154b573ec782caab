-- Whether something changes between two sides.
use Rattle.std.specs.Prelude.{◌&&◌, ◌==◌, Bool, length}
use Rattle.rinqebo_changes.specs.declared.diff.Diff.{Diff}

-- whether nothing changes
abbrev pub is_empty : Diff → Bool
is_empty diff =
    ((length diff.changed.items == 0 && length diff.removed.items == 0)
    && length diff.added.items == 0) && length diff.run.items == 0
