use Rattle.nextest_places.proofs.KeyPaths.{longer_keep_keys}
use Rattle.nextest_places.proofs.law.law_longer_documents_keep.Goals as goal

pub returns : goal.returns
returns c = longer_keep_keys
