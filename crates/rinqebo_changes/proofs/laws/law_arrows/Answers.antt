use Rattle.rinqebo_changes.proofs.ArrowLines.{arrows_fit, arrows_say}
use Rattle.rinqebo_changes.proofs.laws.law_arrows.Goals as goal

pub returns : goal.returns
returns c = record { rows = arrows_say; lines = arrows_fit }
