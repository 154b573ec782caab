use Rattle.nextest_places.proofs.Nodes.{longer_keep}
use Rattle.nextest_places.proofs.law.law_longer_documents_keep_paths.Goals as goal

pub returns : goal.returns
returns c = longer_keep
