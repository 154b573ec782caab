use Rattle.std.proofs.Common.{map, refl, string_bytes}
use Rattle.std.specs.BTreeSet.{contains_text}
use Rattle.nextest_inheritance.specs.Faults.{is_known}
use Rattle.nextest_inheritance.specs.View.{parents_view, inherits_error_view}
use Rattle.nextest_inheritance.proofs.Gathering.{gather_nothing, errors_gathered, names_ascend}
use Rattle.nextest_inheritance.proofs.parents.parent_errors.Goals as goal

pub loop-name-init : goal.loop-name-init
loop-name-init g c =
    rw (
      c.new-errors.ensures.items,
      c.new-others.ensures.items,
      c.into_iter-name-iterator.ensures.into_iter_gives,
      c.iter-name-items.ensures.rest,
    )
    (record { is_first = refl; is_others = refl })

pub loop-name-preserved : goal.loop-name-preserved
loop-name-preserved g c =
    let written = parents_view g.P.Inherits.parent c.args.profiles.now.entries in
    let known = is_known (contains_text c.args.lower.now) written in
    gather_nothing known written (parents_view g.P.Inherits.parent c.next.new.self)
    (string_bytes c.in-Some.name.now) c.as_str.result.now (g.P.Inherits.parent c.in-Some.profile.now)
    c.in_ok-error.field-0
    (map inherits_error_view c.loop-name.errors.items) (map inherits_error_view c.loop-name.others.items)
    c.as_str.ensures.value c.in_ok-error.ensures c.in_default.is (rw c.in-Some.ensures.steps at c.loop-name.invariant)

pub returns-clause-faults : goal.returns-clause-faults
returns-clause-faults g c =
    let written = parents_view g.P.Inherits.parent c.args.profiles.now.entries in
    errors_gathered (is_known (contains_text c.args.lower.now) written) written c.append.new.self.items
    c.loop-name.errors.items c.loop-name.others.items
    c.in_ok-append.ensures.items (rw c.in-None.ensures.steps.0 at c.loop-name.invariant)

pub returns-clause-ordered : goal.returns-clause-ordered
returns-clause-ordered g c =
    names_ascend g.P.Inherits.parent c.args.profiles.now.entries c.iter-name-items.ensures.ordered
