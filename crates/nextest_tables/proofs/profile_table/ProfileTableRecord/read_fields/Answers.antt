use Rattle.std.proofs.Common.{rules, ◌≡◌, Some, Err}
use Rattle.nextest_tree.specs.Reads.{fault_view}
use Rattle.nextest_tree.specs.Schema.{Fault}
use Rattle.nextest_tables.proofs.Groups.{last_group}
use Rattle.nextest_tables.proofs.profile_table.ProfileTableRecord.read_fields.Goals as goal

pub returns-in_err-rest-clause-reads : goal.returns-in_err-rest-clause-reads
returns-in_err-rest-clause-reads c =
    let told = λ (f : Fault) (e : fault_view c.in_err-rest.field-0.0 ≡ Some f). last_group _ _ _ _ _ _ (Err f)
    c.in_ok-default_filter.ensures.reads c.in_ok-runs.ensures.reads c.in_ok-outputs.ensures.reads
    c.in_ok-ends.ensures.reads (c.in_err-rest.ensures.reads f e) in
    search (rules, told)
