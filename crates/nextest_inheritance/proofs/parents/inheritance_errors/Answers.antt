use Rattle.std.proofs.Common.{map}
use Rattle.std.proofs.lemmas.Result.{IfOk-weaker}
use Rattle.std.specs.BTreeSet.{contains_text}
use Rattle.nextest_inheritance.specs.Found.{AreFaultsOf}
use Rattle.nextest_inheritance.specs.View.{parents_view, inherits_error_view}
use Rattle.nextest_inheritance.proofs.Concluding.{found_is, found_sound, found_cycles, found_stranded}
use Rattle.nextest_inheritance.proofs.parents.inheritance_errors.Goals as goal

pub returns-clause-is : goal.returns-clause-is
returns-clause-is g c =
    let lower = contains_text c.args.lower.now in
    let written = parents_view g.P.Inherits.parent c.args.profiles.now.entries in
    IfOk-weaker c.all_errors.result (λ errors. AreFaultsOf lower written (map inherits_error_view errors.items)) _
    (λ errors f. found_is lower written (map inherits_error_view errors.items) f) c.all_errors.ensures

pub returns-clause-sound : goal.returns-clause-sound
returns-clause-sound g c =
    let lower = contains_text c.args.lower.now in
    let written = parents_view g.P.Inherits.parent c.args.profiles.now.entries in
    IfOk-weaker c.all_errors.result (λ errors. AreFaultsOf lower written (map inherits_error_view errors.items)) _
    (λ errors f. found_sound lower written errors.items f) c.all_errors.ensures

pub returns-clause-cycles : goal.returns-clause-cycles
returns-clause-cycles g c =
    let lower = contains_text c.args.lower.now in
    let written = parents_view g.P.Inherits.parent c.args.profiles.now.entries in
    IfOk-weaker c.all_errors.result (λ errors. AreFaultsOf lower written (map inherits_error_view errors.items)) _
    (λ errors f. found_cycles lower written (map inherits_error_view errors.items) f) c.all_errors.ensures

pub returns-clause-stranded : goal.returns-clause-stranded
returns-clause-stranded g c =
    let lower = contains_text c.args.lower.now in
    let written = parents_view g.P.Inherits.parent c.args.profiles.now.entries in
    IfOk-weaker c.all_errors.result (λ errors. AreFaultsOf lower written (map inherits_error_view errors.items)) _
    (λ errors f. found_stranded lower written (map inherits_error_view errors.items) f) c.all_errors.ensures
