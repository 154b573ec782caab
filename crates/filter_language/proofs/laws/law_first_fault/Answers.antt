use Rattle.filter_language.proofs.FirstFaults.{fault_is_first, first_is_fault, well_begun}
use Rattle.filter_language.proofs.laws.law_first_fault.Goals as goal

pub returns-clause-first : goal.returns-clause-first
returns-clause-first g c = λ compiler knows_packages kind text fault.
    (fault_is_first compiler knows_packages kind text fault, first_is_fault compiler knows_packages kind text fault)

pub returns-clause-before : goal.returns-clause-before
returns-clause-before g c = well_begun
