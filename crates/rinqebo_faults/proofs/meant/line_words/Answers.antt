use Rattle.std.proofs.Common.{sym, subst}
use Rattle.rinqebo_faults.specs.Meant.{IsExpected, own_words}
use Rattle.rinqebo_faults.proofs.meant.line_words.Goals as goal

pub returns : goal.returns
returns c =
    let reason = c.args.bad.reason.now in
    subst (IsExpected (own_words reason) reason) (sym c.in_ok-expected.ensures) c.wanted.ensures
