use Rattle.std.proofs.Common.{◌≡◌, ◌∙◌, ap, position, unwrap_or}
use Rattle.std.specs.Str.{bytes_eq}
use Rattle.nextest_scripts.specs.ScriptId.{script_text}
use Rattle.rinqebo_session.specs.declared.settings.TheConstants.{UNDEFINED_NAME}
use Rattle.rinqebo_session.proofs.settings.wrapper_index.Goals as goal

pub returns-in-Some : goal.returns-in-Some
returns-in-Some c =
    let text : c.as_str.result.now ≡ script_text c.in-Some.id.now = c.as_str.ensures.text ∙ c.as_identifier.ensures in
    rw c.in-Some.is
    (c.unwrap_or.ensures
    ∙ ap (λ o. unwrap_or o UNDEFINED_NAME)
    (c.name_place-place.ensures ∙ ap (λ t. position (λ other. bytes_eq other.now t) c.args.wrappers.now) text))
