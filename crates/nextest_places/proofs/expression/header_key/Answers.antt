use Rattle.std.proofs.Common.{rules}
use Rattle.toml.specs.Parse.{header_key}
use Rattle.nextest_places.proofs.expression.header_key.Goals as goal

pub returns : goal.returns
unfolding header_key
returns c = search rules
