use Rattle.std.proofs.Common.{◌≡◌, ◌+◌, ◌++◌, eqb, length, map, string_bytes, arith}
use Rattle.rinqebo_faults.specs.Words.{listed, mark_before}
use Rattle.rinqebo_faults.proofs.Listing.{listed_on}
use Rattle.rinqebo_faults.proofs.words.listed.Goals as goal

pub loop-i-preserved : goal.loop-i-preserved
loop-i-preserved c =
    let rest = c.in-Some.rest.now in
    let last = c.args.last.now in
    let more : string_bytes c.push_item.new.text
    ≡ (string_bytes c.loop-i.text ++ mark_before (eqb (c.loop-i.i + 1) (length rest)) last)
    ++ string_bytes c.index-rest-i.result = c.in_ok-push_item.ensures in
    rw more (listed_on string_bytes (string_bytes c.loop-i.text) last (listed last (map string_bytes c.args.items.now))
    rest c.loop-i.i c.index-rest-i.result (omega arith) c.index-rest-i.is c.loop-i.invariant)
