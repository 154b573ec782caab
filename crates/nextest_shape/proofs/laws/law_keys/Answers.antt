use Rattle.nextest_shape.proofs.KnownTables.{file_known}
use Rattle.nextest_shape.proofs.laws.law_keys.Goals as goal

pub returns : goal.returns
returns c = λ file sorted accepted. file_known.knows _ file sorted accepted
