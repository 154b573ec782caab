use Rattle.std.proofs.Common.{◌≡◌, ◌∙◌, true, false, subst, sym}
use Rattle.std.proofs.lemmas.Result.{err_from_is_err_and}
use Rattle.nextest_engines.specs.Engines.{test_view}
use Rattle.rinqebo_session.specs.Asking.{IsFaultIn}
use Rattle.rinqebo_session.specs.Needs.{lacks}
use Rattle.rinqebo_session.proofs.Faults.{fault_in}
use Rattle.rinqebo_session.proofs.profile.Opened.known.Goals as goal

pub returns-in_err-asked-clause-err : goal.returns-in_err-asked-clause-err
returns-in_err-asked-clause-err c =
    let p = err_from_is_err_and c.from_residual.result c.from_residual.ensures.1 in
    rw p.1
    (subst (IsFaultIn c.args.self.now c.args.test.now) (sym p.2)
    (fault_in c.args.self.now c.args.test.now c.in_err-asked.field-0.0 c.in_err-asked.ensures.err))

pub returns-then-are_missing-clause-err : goal.returns-then-are_missing-clause-err
returns-then-are_missing-clause-err c =
    let asked = c.in_ok-asked.asked in
    record {
      test = test_view asked.query;
      mode = asked.mode;
      is_test = c.in_ok-asked.ensures.ok;
      unknown = subst (λ needs. lacks needs c.args.test.now ≡ true) c.needs_on-needs.ensures
          (sym c.are_missing.ensures ∙ c.if-are_missing.true);
    }

pub returns-clause-ok : goal.returns-clause-ok
returns-clause-ok c = record {
  is_test = c.in_ok-asked.ensures.ok;
  known = subst (λ needs. lacks needs c.args.test.now ≡ false) c.needs_on-needs.ensures
      (sym c.are_missing.ensures ∙ c.if-are_missing.false);
}
