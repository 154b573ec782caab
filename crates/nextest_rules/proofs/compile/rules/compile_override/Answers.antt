use Rattle.std.proofs.Common.{◌≡◌, ◌∙◌, ap, option_map}
use Rattle.nextest_engines.specs.Readings.{readings_view}
use Rattle.nextest_tables.specs.View.{override_view}
use Rattle.nextest_rules.specs.Meaning.{written_meaning}
use Rattle.nextest_rules.specs.Rules.{with_text, written_filter}
use Rattle.nextest_rules.specs.View.{id_view, read_filter_view}
use Rattle.nextest_rules.proofs.Texting.{text_kept}
use Rattle.nextest_rules.proofs.compile.rules.compile_override.Goals as goal

pub returns-clause-rule : goal.returns-clause-rule
returns-clause-rule g c =
    let means = g.F.Filters.meaning in
    let engines = readings_view g.F.Filters g.S.Specs c.args.pcx.now in
    let table = override_view c.args.table in
    let is = c.in_ok-read.ensures in
    let default : option_map (written_meaning means) (option_map read_filter_view c.with_text.result)
    ≡ written_filter engines table.default_filter =
    ap (option_map (written_meaning means)) c.with_text.ensures
    ∙ text_kept means c.in_ok-read.read.default_filter table.default_filter
    ∙ ap (λ m. with_text m table.default_filter) is.default_filter in
    λ i. record {
      host = is.host i;
      target = is.target i;
      filter = is.filter i;
      writes = record {
        id = id_view c.args.id;
        settings = table.settings;
        default_filter = default i;
      };
    }
