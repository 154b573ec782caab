use Rattle.std.proofs.Common.{◌∙◌}
use Rattle.nextest_sources.specs.Endings.{error_view}
use Rattle.nextest_sources.specs.Errors.{source_of}
use Rattle.nextest_sources.specs.Sources.{path_view}
use Rattle.nextest_config.proofs.TellsEnding.{same_some}
use Rattle.rinqebo_checks.proofs.Loads.{no_want}
use Rattle.rinqebo_checks.proofs.edited_files.not_memory.Goals as goal

pub returns-clause-ended : goal.returns-clause-ended
unfolding error_view
returns-clause-ended c =
    let error = c.args.error in
    no_want (source_of error) error.kind
    (same_some (λ path. path_view path.now) (λ source. source.path) c.config_file.result (source_of error)
    c.config_file.ensures.path ∙ c.if-is_none.ensures)
