use Rattle.filter_engine.specs.Runs.{in_turn, IsSearched}
use Rattle.filter_engine.proofs.machine.search.Search.has_match.Given as goal

abbrev pub invariant-loop-at : goal.invariant-loop-at
invariant-loop-at g l = ∥ IsSearched l.self.nfa.now l.name l.at (in_turn l.at l.even l.odd) ∥₁
