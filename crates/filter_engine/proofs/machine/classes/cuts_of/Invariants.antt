use Rattle.std.proofs.Common.{◌≡◌, true, length}
use Rattle.filter_engine.specs.Classes.{flag}
use Rattle.filter_engine.proofs.Classes.{CutsStates, CutsTransitions}
use Rattle.filter_engine.proofs.machine.classes.cuts_of.Given as goal

abbrev pub invariant-states : goal.invariant-states
invariant-states l = (flag l.cuts 0 ≡ true) × CutsStates l.cuts l.nfa l.id

abbrev pub invariant-transitions : goal.invariant-transitions
invariant-transitions l =
    (flag l.cuts 0 ≡ true) × CutsStates l.cuts l.nfa (length l.nfa.states.items)
    × CutsTransitions l.cuts l.nfa.transitions.items l.transition-index
