use Rattle.std.proofs.Common.{◌≡◌, true, arith}
use Rattle.std.proofs.lemmas.Grind.{common_steps}
use Rattle.rinqebo_faults.specs.Spellings.{milliseconds}
use Rattle.rinqebo_faults.specs.Words.{is_number}
use Rattle.rinqebo_faults.proofs.spellings.milliseconds.Goals as goal

pub returns : goal.returns
unfolding milliseconds
returns c =
    let test : is_number c.args.text.now ≡ true = grind (arith, common_steps) in
    rw test (c.scaled.ensures test)
