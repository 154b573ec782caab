use Rattle.std.proofs.Common.{refl}
use Rattle.rinqebo_request.proofs.files.gathering.organisation_file.Goals as goal

pub returns-in-Some : goal.returns-in-Some
returns-in-Some g c = rw c.in-Some.is c.file_at.ensures

pub returns-in-None : goal.returns-in-None
returns-in-None g c = rw c.in-None.is refl
