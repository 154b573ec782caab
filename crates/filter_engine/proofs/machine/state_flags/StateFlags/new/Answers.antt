use Rattle.std.proofs.Common.{◌≡◌, Bool, false, refl}
use Rattle.std.proofs.lemmas.List.Elements.{All-replicate}
use Rattle.filter_engine.proofs.StateLists.{no_members}
use Rattle.filter_engine.proofs.machine.state_flags.StateFlags.new.Goals as goal

pub returns-clause-count : goal.returns-clause-count
returns-clause-count g c = no_members _ (All-replicate (λ (b : Bool). b ≡ false) g.row.ROOM false refl)
