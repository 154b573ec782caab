use Rattle.std.proofs.Common.{◌≡◌, ◌∙◌, ◌++◌, ◌∷◌, [], ap, arith, subst, sym}
use Rattle.std.specs.Fmt.{decimal}
use Rattle.std.proofs.lemmas.Fmt.{decimal_digit}
use Rattle.rinqebo_session.specs.Copies.{IsCopiedOut}
use Rattle.rinqebo_session.proofs.version.copy_version.Goals as goal

pub returns : goal.returns
returns c =
    let zero_is : decimal 0 ≡ 48 ∷ [] = decimal_digit 0 (omega arith) in
    let two_is : decimal 2 ≡ 50 ∷ [] = decimal_digit 2 (omega arith) in
    subst (λ text. IsCopiedOut text c.args.out.now c.copy_out.new.out c.copy_out.new.needed c.copy_out.result)
    (c.as_bytes.ensures.value
    ∙ sym (ap (λ d. d ++ 46 ∷ (decimal 2 ++ 46 ∷ decimal 0)) zero_is
    ∙ ap (λ d. 48 ∷ 46 ∷ (d ++ 46 ∷ decimal 0)) two_is ∙ ap (λ d. 48 ∷ 46 ∷ 50 ∷ 46 ∷ d) zero_is))
    c.copy_out.ensures
