use Rattle.std.proofs.Common.{◌≡◌, ◌++◌, take, codes, string_bytes}
use Rattle.rinqebo_report.specs.Joined.{joined, separator_after}
use Rattle.rinqebo_report.specs.TomlText.{item_text}
use Rattle.rinqebo_report.proofs.toml_text.add_items.Given as goal

abbrev pub invariant-loop-item : goal.invariant-loop-item
invariant-loop-item l =
    (string_bytes l.out ≡ string_bytes l.initial.out
    ++ joined (codes ", ") item_text (take l.item-index l.items))
    × (l.separator ≡ separator_after (codes ", ") (take l.item-index l.items))
