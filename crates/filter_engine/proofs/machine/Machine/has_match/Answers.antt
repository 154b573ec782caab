use Rattle.std.proofs.Common.{[], refl, subst}
use Rattle.filter_engine.specs.Tables.{IsTabled}
use Rattle.filter_engine.proofs.Searches.{nothing_searched}
use Rattle.filter_engine.proofs.machine.Machine.has_match.Goals as goal

pub follow-requires : goal.follow-requires
follow-requires c =
    subst (λ table. ∥ IsTabled c.args.self.now.nfa table ∥₁) c.in-Some.is c.args.self.now.tabled

pub walk-requires-clause-searched : goal.walk-requires-clause-searched
walk-requires-clause-searched c = ∣ nothing_searched c.args.self.now.nfa c.args.name.now [] refl ∣₁
