use Rattle.std.proofs.Common.{refl}
use Rattle.rinqebo_results.proofs.Errors.{words_lost}
use Rattle.rinqebo_run.proofs.run.refuse_words.Goals as goal

pub returns-in-Memory-clause-told : goal.returns-in-Memory-clause-told
returns-in-Memory-clause-told g c =
    rw c.in-Memory.is (words_lost _ _ _ _ _ refl c.refuse_for_memory.ensures.message)
