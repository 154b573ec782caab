use Rattle.std.proofs.Common.{refl}
use Rattle.rinqebo_results.proofs.Errors.{by_memory, by_message, by_page}
use Rattle.rinqebo_results.proofs.refusing.refuse.Goals as goal

pub returns-in-Engines-clause-errors : goal.returns-in-Engines-clause-errors
returns-in-Engines-clause-errors g c =
    rw c.in-Engines.is (by_message _ c.args.request.now _ 2 _ _ c.fault_message-message.result refl
    c.fault_message-message.ensures
    c.refuse_message.ensures.errors)

pub returns-in-Refused-clause-errors : goal.returns-in-Refused-clause-errors
returns-in-Refused-clause-errors g c =
    rw c.in-Refused.is (by_page _ c.args.request.now _ 3 _ _ _ refl refl c.refuse_with.ensures.errors)

pub returns-in-NoProfile-clause-errors : goal.returns-in-NoProfile-clause-errors
returns-in-NoProfile-clause-errors g c =
    rw c.in-NoProfile.is (by_message _ c.args.request.now _ 4 _ _ c.profile_message-message.result refl
    c.profile_message-message.ensures
    c.refuse_message-in-NoProfile.ensures.errors)

pub returns-in-NoTest-clause-errors : goal.returns-in-NoTest-clause-errors
returns-in-NoTest-clause-errors g c =
    rw c.in-NoTest.is (by_page _ c.args.request.now _ 4 _ _ _ refl refl c.refuse_with-in-NoTest.ensures.errors)

pub returns-in-SeveralTests-clause-errors : goal.returns-in-SeveralTests-clause-errors
returns-in-SeveralTests-clause-errors g c =
    rw c.in-SeveralTests.is (by_page _ c.args.request.now _ 2 _ _ _ refl refl
    c.refuse_with-in-SeveralTests.ensures.errors)

pub returns-in-Memory-clause-errors : goal.returns-in-Memory-clause-errors
returns-in-Memory-clause-errors g c =
    by_memory c.args.failure.now c.args.request.now _ _ _ c.refuse_for_memory.ensures.status
    c.refuse_for_memory.ensures.message
