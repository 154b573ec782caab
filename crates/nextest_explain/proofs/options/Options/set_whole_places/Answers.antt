use Rattle.nextest_explain.proofs.Taken.{sets_whole_places}
use Rattle.nextest_explain.proofs.options.Options.set_whole_places.Goals as goal

pub returns-in-Words : goal.returns-in-Words
returns-in-Words c = sets_whole_places c.args.self.now c.in-Words.is
