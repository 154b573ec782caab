-- What contracts see of the files that a load goes over.
use Rattle.nextest_sources.specs.Inputs.{Input}
use Rattle.nextest_sources.specs.Sources.{source_view, outcome_view}
use Rattle.nextest_sources.specs.declared.inputs.SourceInput.{SourceInput}

-- a source, and the outcome of reading its file
abbrev pub input_view : SourceInput → Input
input_view i = record { source = source_view i.source; outcome = outcome_view i.outcome.now }
