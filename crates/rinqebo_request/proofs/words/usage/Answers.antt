use Rattle.std.proofs.Common.{◌≡◌, ◌∙◌, Some, ap, append_assoc, option_map, string_bytes, sym}
use Rattle.rinqebo_request.specs.Stops.{usage_text}
use Rattle.rinqebo_request.proofs.words.usage.Goals as goal

pub returns-in_ok-format-in-Some-clause-text : goal.returns-in_ok-format-in-Some-clause-text
returns-in_ok-format-in-Some-clause-text c =
    let whole : string_bytes c.in_ok-format-in-Some.field-0 ≡ usage_text c.args.message.now (Some (string_bytes c.in-Some.hint)) =
    c.in_ok-format-in-Some.ensures.ok ∙ simp append_assoc in
    whole ∙ ap (usage_text c.args.message.now) (sym (ap (option_map string_bytes) c.in-Some.is))
