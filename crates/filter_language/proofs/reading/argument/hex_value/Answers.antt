use Rattle.std.proofs.Common.{◌≡◌, true, ◌∙◌, arith}
use Rattle.std.specs.List.{list_all}
use Rattle.std.specs.Char.{is_digit}
use Rattle.filter_language.proofs.Hex.{hex_is}
use Rattle.filter_language.proofs.reading.argument.hex_value.Goals as goal

pub returns : goal.returns
returns c =
    let all : list_all (λ d. is_digit d 16) c.args.digits.now ≡ true = cc in
    c.ok.ensures.value ∙ hex_is c.args.digits.now c.from_str_radix.result (omega arith) all
    c.from_str_radix.ensures.value
