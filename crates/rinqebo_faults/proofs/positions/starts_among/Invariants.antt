use Rattle.std.proofs.Common.{◌≡◌, ◌≤◌, take}
use Rattle.std.specs.Prelude.{count_by}
use Rattle.rinqebo_faults.specs.Positions.{starts_character}
use Rattle.rinqebo_faults.proofs.positions.starts_among.Given as goal

abbrev pub invariant-loop-byte : goal.invariant-loop-byte
invariant-loop-byte l = record {
  counted : l.count ≡ count_by starts_character (take l.byte-index l.bytes);
  few : l.count ≤ l.byte-index;
}
