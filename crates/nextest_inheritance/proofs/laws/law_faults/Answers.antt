use Rattle.nextest_inheritance.specs.Faults.{is_known}
use Rattle.nextest_inheritance.proofs.Listing.{are_cycles}
use Rattle.nextest_inheritance.proofs.Naming.{sound_parents}
use Rattle.nextest_inheritance.proofs.laws.law_faults.Goals as goal

pub returns-clause-cycles : goal.returns-clause-cycles
returns-clause-cycles c written ordered = are_cycles written ordered

pub returns-clause-sound : goal.returns-clause-sound
returns-clause-sound c lower written ordered = sound_parents (is_known lower written) written ordered
