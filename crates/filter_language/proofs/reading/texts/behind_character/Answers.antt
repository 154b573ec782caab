use Rattle.std.proofs.Common.{◌∙◌}
use Rattle.filter_language.proofs.Cuts.{behind_is}
use Rattle.filter_language.proofs.reading.texts.behind_character.Goals as goal

pub returns-clause-value : goal.returns-clause-value
returns-clause-value c =
    c.as_str.ensures ∙ behind_is c.args.text.now c.chars-chars.result c.next.new.self c.next.result
    c.utf8.text c.chars-chars.ensures.rest c.next.ensures.steps
