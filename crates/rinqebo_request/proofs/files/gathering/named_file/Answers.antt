use Rattle.std.proofs.Common.{refl}
use Rattle.rinqebo_request.proofs.files.gathering.named_file.Goals as goal

pub returns-in-Discovered : goal.returns-in-Discovered
returns-in-Discovered g c = rw c.in-Discovered.is refl

pub returns-in-Named : goal.returns-in-Named
returns-in-Named g c = rw c.in-Named.is c.file_at.ensures

pub returns-in-Input : goal.returns-in-Input
returns-in-Input g c = rw c.in-Input.is c.input_file.ensures
