use Rattle.std.proofs.lemmas.Result.{IfOk-weaker}
use Rattle.rinqebo_object_origins.specs.ObjectOrigins.{written}
use Rattle.rinqebo_object_origins.proofs.beside.origins_beside.Goals as goal

pub returns-in-Some : goal.returns-in-Some
returns-in-Some c =
    let highest = rw c.in-Some.is at c.in_ok-position.ensures in
    IfOk-weaker c.written_beside.result _ _ (λ origins are. written c.in-Some.position highest are)
    c.written_beside.ensures
