use Rattle.rinqebo_laws.proofs.PageLines.{concise_feeds, concise_is_one_line}
use Rattle.rinqebo_laws.proofs.whole_lines.law_concise_lines.Goals as goal

pub returns : goal.returns
returns c = record { one = concise_is_one_line; all = concise_feeds }
