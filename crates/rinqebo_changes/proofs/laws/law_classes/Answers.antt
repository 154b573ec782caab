use Rattle.rinqebo_changes.proofs.ClassLists.{whole_classes}
use Rattle.rinqebo_changes.proofs.laws.law_classes.Goals as goal

pub returns : goal.returns
returns c items classes are = whole_classes c.args.rule are
