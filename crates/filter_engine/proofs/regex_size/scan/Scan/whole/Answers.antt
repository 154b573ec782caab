use Rattle.std.proofs.Common.{arith, refl}
use Rattle.filter_engine.proofs.RegexSizes.{outer_length}
use Rattle.filter_engine.proofs.regex_size.scan.Scan.whole.Goals as goal

pub loop-done-init : goal.loop-done-init
loop-done-init c =
    let it = outer_length c.args.self.outer.items in
    let same = c.args.self.outer.ok.0 in
    record { same = refl; count = omega (arith, it, same, c.len-done-end.ensures) }
