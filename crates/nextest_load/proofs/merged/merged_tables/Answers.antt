use Rattle.std.proofs.Common.{ap, subst}
use Rattle.nextest_inheritance.specs.Faults.{inheritance_faults}
use Rattle.nextest_inheritance.specs.Parents.{WrittenParents}
use Rattle.nextest_rules.specs.Steps.{if_some}
use Rattle.nextest_sources.specs.Causes.{bad_parents}
use Rattle.nextest_sources.specs.Endings.{error_view, passed, Found}
use Rattle.nextest_sources.specs.InputFaults.{fault_at_source}
use Rattle.nextest_sources.specs.Sources.{source_view}
use Rattle.nextest_sources.proofs.Runs.{ran_exit}
use Rattle.nextest_tables.specs.FileTexts.{file_text}
use Rattle.nextest_load.specs.Steps.{no_profiles}
use Rattle.nextest_load.proofs.Laying.{ran_out}
use Rattle.nextest_load.proofs.Merging.{parents_ended, parents_seen}
use Rattle.nextest_load.proofs.merged.merged_tables.Goals as goal

pub returns-in_err-check_parents-clause-ran : goal.returns-in_err-check_parents-clause-ran
returns-in_err-check_parents-clause-ran c n is told =
    let e = c.in_err-check_parents.field-0.0 in
    let source = source_view c.args.repository.now in
    let P : WrittenParents → Type 0 =
    λ written. Found (fault_at_source source (if_some bad_parents (inheritance_faults no_profiles written)))
    (error_view e) in
    let same = parents_seen c.args.kept.profiles.entries (file_text n).profiles (ap (λ t. t.profiles) is.means) in
    ran_exit _ told told _ e c.from_residual.ensures.1
    (parents_ended source n told (error_view e) (ap (fault_at_source source) is.no_fault)
    (subst P same c.in_err-check_parents.ensures))

pub returns-in_err-scripts-clause-ran : goal.returns-in_err-scripts-clause-ran
returns-in_err-scripts-clause-ran c n is told =
    let source = source_view c.args.repository.now in
    let P : WrittenParents → Type 0 =
    λ written. Found (fault_at_source source (if_some bad_parents (inheritance_faults no_profiles written))) passed in
    let same = parents_seen c.args.kept.profiles.entries (file_text n).profiles (ap (λ t. t.profiles) is.means) in
    ran_out _ _ c.from_residual-in_err-scripts.ensures.1
    (parents_ended source n told passed (ap (fault_at_source source) is.no_fault)
    (subst P same c.in_ok-check_parents.ensures))

pub returns-clause-ran : goal.returns-clause-ran
returns-clause-ran c n is told =
    let source = source_view c.args.repository.now in
    let P : WrittenParents → Type 0 =
    λ written. Found (fault_at_source source (if_some bad_parents (inheritance_faults no_profiles written))) passed in
    let same = parents_seen c.args.kept.profiles.entries (file_text n).profiles (ap (λ t. t.profiles) is.means) in
    parents_ended source n told passed (ap (fault_at_source source) is.no_fault)
    (subst P same c.in_ok-check_parents.ensures)

pub returns-clause-means : goal.returns-clause-means
returns-clause-means c n is = is.means

pub returns-clause-scripts : goal.returns-clause-scripts
returns-clause-scripts c ss is are = c.in_ok-scripts.ensures ss are is.scripts

pub returns-clause-defaults : goal.returns-clause-defaults
returns-clause-defaults c n files is merged = is.defaults files merged
