use Rattle.nextest_explain.proofs.Reading.{item_of_word}
use Rattle.nextest_explain.proofs.command.Line.push.Goals as goal

pub returns : goal.returns
returns c free = item_of_word c.args.word c.args.self.now c.push.new.self c.in_ok-push.ensures.items free
