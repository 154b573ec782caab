use Rattle.std.proofs.Common.{◌∙◌}
use Rattle.nextest_sources.specs.Endings.{error_view}
use Rattle.nextest_sources.specs.Errors.{source_of}
use Rattle.nextest_sources.specs.Sources.{path_view}
use Rattle.nextest_config.proofs.TellsEnding.{with_source, without_source, same_some}
use Rattle.nextest_config.proofs.run.fault.fault_of_load.Goals as goal

pub returns-then-is_none : goal.returns-then-is_none
unfolding error_view
returns-then-is_none c =
    let error = c.args.error in
    without_source (source_of error) error.kind
    (same_some (λ path. path_view path.now) (λ source. source.path) c.config_file.result (source_of error)
    c.config_file.ensures.path ∙ c.if-is_none.ensures)
    c.config_file.ensures.memory

pub returns : goal.returns
unfolding error_view
returns c =
    let error = c.args.error in
    with_source (source_of error) error.kind
    (same_some (λ path. path_view path.now) (λ source. source.path) c.config_file.result (source_of error)
    c.config_file.ensures.path ∙ c.if-is_none.ensures)
