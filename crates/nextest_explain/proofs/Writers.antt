-- What writers hold.
use Rattle.std.proofs.Common.{◌∙◌, ℕ, List, [], Option, None, Some, Result, Ok, Err, OnErr, append-nil}
use Rattle.std.specs.Io.KnownBytes.{Appends, Keeps}

-- a writer that took nothing holds what it held
pub kept_of_none : (old new : Option (List ℕ)) → Appends old new [] → Keeps old new
kept_of_none None new took = tt
kept_of_none (Some xs) None took = absurd took
kept_of_none (Some xs) (Some ys) took = took ∙ append-nil xs

-- what holds in any case holds at a fault
pub at_fault : {A E : Type 0} (r : Result A E) (P : Type 0) → P → OnErr r P
at_fault (Ok x) P holds = tt
at_fault (Err e) P holds = holds
