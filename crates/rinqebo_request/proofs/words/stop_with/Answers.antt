use Rattle.rinqebo_request.proofs.Refusing.{help_stop, other_stop}
use Rattle.rinqebo_request.proofs.words.stop_with.Goals as goal

pub returns-in-DisplayHelp : goal.returns-in-DisplayHelp
returns-in-DisplayHelp c _ = help_stop _ _ c.in-DisplayHelp.is tt

pub returns-in_default : goal.returns-in_default
returns-in_default c memory = other_stop _ _ memory c.in_default.not-DisplayHelp c.in_default.not-DisplayVersion tt
