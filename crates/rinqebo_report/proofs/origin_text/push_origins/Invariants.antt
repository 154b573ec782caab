use Rattle.std.proofs.Common.{◌≡◌, ◌++◌, map, take, string_bytes}
use Rattle.rinqebo_report.specs.OriginText.{origin_texts}
use Rattle.rinqebo_report.proofs.origin_text.push_origins.Given as goal

abbrev pub invariant-loop-origin : goal.invariant-loop-origin
invariant-loop-origin l =
    map string_bytes l.texts.items ≡ map string_bytes l.initial.texts.items
    ++ origin_texts l.root l.sources (take l.origin-index l.origins)
