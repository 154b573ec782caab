use Rattle.nextest_shape.proofs.Profiles.{file_fits}
use Rattle.nextest_shape.proofs.laws.law_schema.Goals as goal

pub returns : goal.returns
returns c = λ file h u. file_fits.accepts _ _ file h u
