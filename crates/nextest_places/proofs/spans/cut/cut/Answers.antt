use Rattle.std.proofs.Common.{◌∙◌, sym}
use Rattle.nextest_places.proofs.spans.Cuts.{past_char}
use Rattle.nextest_places.proofs.spans.cut.cut.Goals as goal

pub split_at-requires-2 : goal.split_at-requires-2
split_at-requires-2 c =
    past_char c.args.text.now _ c.in-Some.c c.len_utf8.result c.utf8.text (sym c.chars.ensures.rest ∙ c.in-Some.ensures.steps.0) c.len_utf8.ensures.value
