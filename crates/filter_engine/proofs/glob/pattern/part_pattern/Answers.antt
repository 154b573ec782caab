use Rattle.filter_engine.proofs.GlobPatterns.{byte_pattern}
use Rattle.filter_engine.proofs.glob.pattern.part_pattern.Goals as goal

pub returns-in-Byte : goal.returns-in-Byte
returns-in-Byte c = rw c.in-Byte.is (byte_pattern c.byte.result c.in-Byte.value c.byte.ensures)
