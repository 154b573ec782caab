use Rattle.std.proofs.Common.{refl}
use Rattle.nextest_explain.proofs.Taken.{adds_tool_file}
use Rattle.nextest_explain.proofs.options.Options.push_tool_file.Goals as goal

pub returns : goal.returns
returns c = adds_tool_file c.args.self.now _ c.push.new.self c.args.file refl c.in_ok-push.ensures.items
