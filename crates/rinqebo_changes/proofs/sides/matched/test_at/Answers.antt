use Rattle.std.proofs.Common.{◌≡◌, ◌∙◌, Contains, Some, length, refl, subst, sym}
use Rattle.std.specs.Prelude.{slice_get}
use Rattle.std.proofs.lemmas.Option.{slice_get_read}
use Rattle.rinqebo_changes.specs.Sides.Matched.{tests_of}
use Rattle.rinqebo_changes.proofs.sides.Matching.{test_there}
use Rattle.rinqebo_changes.proofs.sides.matched.test_at.Goals as goal

pub returns-then-is_same_test : goal.returns-then-is_same_test
returns-then-is_same_test c =
    let binaries = c.args.binaries.now in
    let place = c.args.place in
    let binary = c.in_ok-binary.binary.now in
    let case = c.in_ok-case.case.now in
    let cases = c.deref.result.now in
    record {
      here = subst (Contains (tests_of binaries)) (sym c.test_of-one.ensures)
          (test_there binaries place.binary place.case binary case
          (slice_get_read binaries (length binaries) place.binary binary refl c.in_ok-binary.ensures.lookup.3.0
          c.in_ok-binary.ensures.lookup.1)
          (subst (λ cs. slice_get cs place.case ≡ Some case) c.deref.ensures.value
          (slice_get_read cases (length cases) place.case case refl c.in_ok-case.ensures.lookup.3.0
          c.in_ok-case.ensures.lookup.1)));
      same = sym c.is_same_test.ensures ∙ c.if-is_same_test.true;
    }
