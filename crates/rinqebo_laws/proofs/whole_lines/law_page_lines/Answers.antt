use Rattle.rinqebo_laws.proofs.PageLines.{page_bytes, page_feeds, page_written}
use Rattle.rinqebo_laws.proofs.whole_lines.law_page_lines.Goals as goal

pub returns : goal.returns
returns c = record { lines = page_feeds; characters = page_written; bytes = page_bytes }
