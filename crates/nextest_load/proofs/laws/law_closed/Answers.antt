use Rattle.nextest_load.proofs.Closing.{closed}
use Rattle.nextest_load.proofs.MergedScripts.{have_ids}
use Rattle.nextest_load.proofs.Saying.{accepted_complete}
use Rattle.nextest_load.proofs.Wholes.{has_defaults}
use Rattle.nextest_load.specs.Merged.{profiles_of}
use Rattle.nextest_load.specs.Trees.{merged_file}
use Rattle.nextest_sources.specs.Inputs.{sources_in}
use Rattle.std.proofs.Common.{refl}
use Rattle.nextest_load.proofs.laws.law_closed.Goals as goal

pub returns : goal.returns
returns g c engines features files scripts answer accepted are =
    let ss = sources_in files in
    let complete = accepted_complete engines features files accepted in
    closed engines features files scripts answer accepted (have_ids ss scripts are)
    (has_defaults (merged_file ss) (profiles_of (merged_file ss).profiles) refl complete)
