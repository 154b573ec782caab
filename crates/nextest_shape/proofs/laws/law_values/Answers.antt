use Rattle.nextest_shape.proofs.MildTables.{file_mild}
use Rattle.nextest_shape.proofs.laws.law_values.Goals as goal

pub returns : goal.returns
returns c = λ file sorted accepted. file_mild.mild _ file sorted accepted
