use Rattle.regex_hir.specs.Meaning.{meaning}
use Rattle.regex_hir.proofs.MeaningLemmas.{meaning-Alternation, meaning-Empty, meaning-Concat}
use Rattle.filter_engine.proofs.GlobPatterns.{folders_means}
use Rattle.filter_engine.proofs.glob.pattern.folders.Goals as goal

pub returns : goal.returns
returns c =
    rw (
      meaning-Alternation c.in_ok-two.field-0,
      c.in_ok-two.ensures,
      meaning-Empty,
      meaning-Concat
          c.in_ok-path.path,
      c.in_ok-path.ensures,
      c.in_ok-byte.ensures,
    )
    (folders_means (meaning c.in_ok-any_bytes.field-0) c.in_ok-any_bytes.ensures)
