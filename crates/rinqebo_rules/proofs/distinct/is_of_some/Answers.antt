use Rattle.std.proofs.Common.{arith}
use Rattle.std.proofs.lemmas.Option.{slice_get_within}
use Rattle.rinqebo_origins.specs.RulePlaces.{place_view}
use Rattle.rinqebo_rules.specs.Distinct.{IsOfOneList}
use Rattle.rinqebo_rules.proofs.OneList.{none_viewed}
use Rattle.rinqebo_rules.proofs.distinct.is_of_some.Goals as goal

pub returns : goal.returns
returns c = λ none n first here.
    none_viewed c.args.firsts.now (IsOfOneList (place_view c.args.place))
    (λ k x stands. c.loop-first.invariant k x
    (omega (arith, c.loop-first-test.false, slice_get_within c.args.firsts.now k x stands)) stands) n first here
