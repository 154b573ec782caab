use Rattle.std.proofs.Common.{ap, option_map}
use Rattle.std.proofs.lemmas.Result.{IfErr-weaker}
use Rattle.rinqebo_request.proofs.files.Passing.{found, named}
use Rattle.rinqebo_request.proofs.files.gathering.root_of.Goals as goal

pub returns-in-Some-clause-err : goal.returns-in-Some-clause-err
returns-in-Some-clause-err g c =
    IfErr-weaker c.named_root.result _ _
    (λ fault. named c.args.options.now c.in-Some.root.now fault (ap (option_map (λ path. path.now)) c.in-Some.is)) c.named_root.ensures.err

pub returns-in-None-clause-err : goal.returns-in-None-clause-err
returns-in-None-clause-err g c =
    IfErr-weaker c.found_root.result _ _ (λ fault. found c.args.options.now fault c.in-None.is) c.found_root.ensures
