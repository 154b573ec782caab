use Rattle.std.proofs.Common.{subst, sym}
use Rattle.std.proofs.lemmas.Result.{IfErr-weaker}
use Rattle.rinqebo_request.specs.Files.Gathering.{IsNotFound}
use Rattle.rinqebo_request.specs.declared.files.gathering.GatherFault.TheVariants as faults
use Rattle.rinqebo_request.proofs.files.Passing.{passed}
use Rattle.rinqebo_request.proofs.files.gathering.found_root.Goals as goal

pub returns-in_err-root : goal.returns-in_err-root
returns-in_err-root g c = passed _ c.from_residual.result faults.Memory c.from_residual.ensures.1 tt

pub returns-in-Some : goal.returns-in-Some
returns-in-Some g c = IfErr-weaker c.root_at.result _ _ (λ fault same. subst (IsNotFound c.args.config_file) (sym same) tt) c.root_at.ensures
