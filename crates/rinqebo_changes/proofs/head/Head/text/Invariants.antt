use Rattle.std.proofs.Common.{◌≡◌, ◌++◌, codes, flat_map, map, take, string_bytes}
use Rattle.rinqebo_changes.proofs.head.Head.text.Given as goal

-- the text so far has the first part, and the other parts so far
abbrev pub invariant-loop-part : goal.invariant-loop-part
invariant-loop-part l =
    string_bytes l.text
    ≡ string_bytes l.self.first
    ++ flat_map (λ part. codes " " ++ part) (map string_bytes (take l.part-index l.self.others.items))
