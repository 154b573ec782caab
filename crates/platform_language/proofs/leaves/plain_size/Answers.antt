use Rattle.std.proofs.Common.{Some, ap, ◌∙◌, refl}
use Rattle.platform_language.proofs.Numbers.{plain_ok, plain_err}
use Rattle.platform_language.proofs.leaves.plain_size.Goals as goal

pub returns-in_ok-format-in-Ok : goal.returns-in_ok-format-in-Ok
returns-in_ok-format-in-Ok c =
    ap Some c.in_ok-format-in-Ok.ensures.ok
    ∙ plain_ok 16 65535 c.in-Ok.number c.args.text.now refl c.in-Ok.ensures.value.0

pub returns-in-Err : goal.returns-in-Err
returns-in-Err c = plain_err 16 65535 c.args.text.now refl c.in-Err.ensures.value.0
