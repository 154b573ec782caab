use Rattle.std.proofs.Common.{◌∙◌, inl, inr, option_map, refl}
use Rattle.rinqebo_session.proofs.profile.Opened.copy_argument.Goals as goal

pub returns-in-Ok : goal.returns-in-Ok
returns-in-Ok c =
    inl (option_map (λ text. text.now) c.in-Ok.text, c.in-Ok.ensures.ok, c.copy_text_or_none.ensures)

pub returns-in-Err : goal.returns-in-Err
returns-in-Err c =
    let copied = c.copy_nothing.ensures in
    inr (c.in-Err.fault, c.in-Err.ensures.err, (copied.status ∙ c.status.ensures, copied.needed, refl))
