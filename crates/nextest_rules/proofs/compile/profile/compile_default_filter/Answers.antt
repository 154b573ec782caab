use Rattle.std.proofs.Common.{◌∙◌, ap, option_map, string_bytes}
use Rattle.nextest_rules.specs.Meaning.{written_meaning}
use Rattle.nextest_rules.specs.Rules.{with_text}
use Rattle.nextest_rules.proofs.Texting.{text_kept}
use Rattle.nextest_rules.proofs.compile.profile.compile_default_filter.Goals as goal

pub returns-clause-filter : goal.returns-clause-filter
returns-clause-filter g c =
    let means = g.F.Filters.meaning in
    let text = option_map string_bytes c.args.text in
    ap (option_map (written_meaning means)) c.with_text.ensures
    ∙ text_kept means c.in_ok-expr.expr text
    ∙ ap (λ m. with_text m text) c.in_ok-expr.ensures.meaning
