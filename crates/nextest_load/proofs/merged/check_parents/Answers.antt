use Rattle.std.proofs.Common.{◌≡◌, length, [], arith, ap, ◌∙◌}
use Rattle.std.proofs.lemmas.Grind.{common_steps}
use Rattle.std.proofs.lemmas.List.{nil_from_length}
use Rattle.nextest_inheritance.specs.Faults.{inheritance_faults}
use Rattle.nextest_inheritance.specs.View.{parents_view, inherits_error_view}
use Rattle.nextest_sources.specs.Causes.{bad_parents}
use Rattle.nextest_sources.specs.Sources.{source_view}
use Rattle.nextest_load.specs.Merged.{parent_in}
use Rattle.nextest_load.proofs.Parents.{empty_set, all_refused, none_refused}
use Rattle.nextest_load.proofs.merged.check_parents.Goals as goal

pub returns-then-is_empty : goal.returns-then-is_empty
returns-then-is_empty c =
    let written = parents_view parent_in c.args.profiles.now.entries in
    let source = source_view c.args.repository.now in
    let is = c.in_ok-errors.ensures.is
    ∙ ap (λ lower. inheritance_faults lower written) (empty_set c.new.result c.new.ensures.empty) in
    let none : length c.in_ok-errors.errors.items ≡ 0 = grind (arith, common_steps) in
    rw (← is) (none_refused inherits_error_view bad_parents source c.in_ok-errors.errors.items
    (nil_from_length c.in_ok-errors.errors.items none))

pub returns : goal.returns
returns c =
    let written = parents_view parent_in c.args.profiles.now.entries in
    let source = source_view c.args.repository.now in
    let is = c.in_ok-errors.ensures.is
    ∙ ap (λ lower. inheritance_faults lower written) (empty_set c.new.result c.new.ensures.empty) in
    let some : c.in_ok-errors.errors.items ≡ [] → ⊥ = λ none.
    let empty : length c.in_ok-errors.errors.items ≡ 0 = ap length none in
    let bad : ⊥ = grind (arith, common_steps) in
    bad
    in
    rw (← is) (all_refused inherits_error_view bad_parents source c.in_ok-errors.errors.items c.at.result some
    c.at.ensures)
