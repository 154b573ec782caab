use Rattle.std.proofs.Common.{◌≡◌, Bool, true, false, if◌then◌else◌, refl}
use Rattle.nextest_engines.specs.Engines.{test_view}
use Rattle.nextest_settings.specs.Queries.{is_of_name}
use Rattle.nextest_settings.proofs.groups.PrecomputedGroupMembership.note.Goals as goal

both : {X : Type 0} (b : Bool) (x : X) → x ≡ (if b then x else x)
both true x = refl
both false x = refl

pub returns-in-None : goal.returns-in-None
returns-in-None c = λ id test. rw c.in-None.is (both (is_of_name id test (test_view c.args.query.now)) _)
