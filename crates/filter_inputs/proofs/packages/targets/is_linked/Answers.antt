use Rattle.std.proofs.Common.{◌∙◌}
use Rattle.serde_json.specs.View.{view}
use Rattle.filter_inputs.specs.Packages.Targets.{is_library}
use Rattle.filter_inputs.proofs.packages.Tests.{any_seen}
use Rattle.filter_inputs.proofs.packages.targets.is_linked.Goals as goal

pub returns : goal.returns
returns c = c.has_library.ensures ∙ any_seen is_library view c.args.kinds.now
