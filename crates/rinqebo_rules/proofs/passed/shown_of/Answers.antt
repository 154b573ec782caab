use Rattle.std.proofs.Common.{arith}
use Rattle.std.proofs.lemmas.Option.{slice_get_within}
use Rattle.rinqebo_rules.proofs.passed.shown_of.Goals as goal

pub returns-clause-hidden : goal.returns-clause-hidden
returns-clause-hidden c = λ none holds shown.
    c.loop-setting.invariant shown.place shown.setting
    (omega (arith, c.loop-setting-test.false, slice_get_within c.args.written.now shown.place shown.setting shown.stands))
    shown.stands holds shown.shown
