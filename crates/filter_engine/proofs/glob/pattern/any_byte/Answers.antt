use Rattle.regex_hir.proofs.MeaningLemmas.{meaning-Bytes}
use Rattle.filter_engine.proofs.GlobPatterns.{any_byte_means}
use Rattle.filter_engine.proofs.glob.pattern.any_byte.Goals as goal

pub returns : goal.returns
returns c = rw (meaning-Bytes c.in_ok-from_ranges.field-0)
    (any_byte_means c.in_ok-from_ranges.field-0.ranges.items c.in_ok-from_ranges.ensures)
