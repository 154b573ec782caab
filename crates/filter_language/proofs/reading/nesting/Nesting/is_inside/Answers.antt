use Rattle.std.proofs.Common.{◌<◌, length, arith}
use Rattle.std.proofs.lemmas.Bool.Decides.{nat_tests}
use Rattle.filter_language.proofs.Shapes.{inside_some}
use Rattle.filter_language.proofs.reading.nesting.Nesting.is_inside.Goals as goal

pub returns-clause-inside : goal.returns-clause-inside
returns-clause-inside c = λ e.
    let some : 0 < length c.args.self.now.outer.items = grind (arith, nat_tests, c.is_empty.ensures) in
    inside_some c.args.self.now.outer.items some
