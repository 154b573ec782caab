use Rattle.std.proofs.Common.{◌≡◌, ◌==◌, ap, arith, false, get_or, length}
use Rattle.std.proofs.lemmas.Bool.Decides.{nat_tests}
use Rattle.nextest_places.proofs.FirstLines.{line_goes, line_over, lines_over}
use Rattle.nextest_places.proofs.lines.end_of.Goals.{then-byte-eq10, else-byte-eq10}
use Rattle.nextest_places.proofs.lines.end_of.Goals as goal

pub loop-i-preserved : goal.loop-i-preserved
loop-i-preserved c =
    let is = c.as_bytes-bytes.ensures.value in
    let here = rw is at c.loop-i-test.true in
    elim c.if-byte-eq10.branch [
      | then-byte-eq10 w ↦
          let turn = line_over c.loop-i.left c.loop-i.i c.args.text.now here c.if-left-eq0.false
          (rw is at w.if-byte-eq10.true) in
          rw w.left-is (omega (arith, c.loop-i.invariant, turn))
      | else-byte-eq10 w ↦
          let differs = rw is at w.if-byte-eq10.false in
          let other : (get_or c.args.text.now c.loop-i.i 0 == 10) ≡ false = grind (arith, nat_tests, differs) in
          let turn = line_goes c.loop-i.left c.loop-i.i c.args.text.now here c.if-left-eq0.false other in
          rw w.left-is (omega (arith, c.loop-i.invariant, turn))
    ]

pub returns : goal.returns
returns c =
    let is = c.as_bytes-bytes.ensures.value in
    let none = lines_over c.loop-i.left c.loop-i.i c.args.text.now (rw is at c.loop-i-test.false) in
    omega (arith, c.loop-i.invariant, none, ap length is, c.loop-i.auto.i-end)
