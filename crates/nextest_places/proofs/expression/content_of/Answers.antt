use Rattle.std.proofs.Common.{◌≡◌, length, arith}
use Rattle.std.proofs.lemmas.Grind.{common_steps}
use Rattle.std.proofs.lemmas.List.{nil_from_length}
use Rattle.toml_parser.specs.Lexical.{skip_blank}
use Rattle.nextest_places.proofs.expression.content_of.Goals as goal

pub returns-then-is_empty : goal.returns-then-is_empty
returns-then-is_empty c =
    let none : length (skip_blank c.args.lines.now) ≡ 0 = grind (arith, common_steps) in
    nil_from_length (skip_blank c.args.lines.now) none
