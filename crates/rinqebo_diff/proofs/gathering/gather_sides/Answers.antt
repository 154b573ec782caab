use Rattle.std.proofs.Common.{refl, subst}
use Rattle.rinqebo_request.specs.Files.Gathering.{AreFilesFor, HasGatherCause, of_memory}
use Rattle.rinqebo_request.specs.declared.files.gathering.GatherFault.TheVariants as faults
use Rattle.rinqebo_diff.specs.Gathered.{of_left, of_right}
use Rattle.rinqebo_diff.proofs.Failing.{handed_on}
use Rattle.rinqebo_diff.proofs.gathering.gather_sides.Goals as goal

pub returns-clause-from : goal.returns-clause-from
returns-clause-from g c = record {
  root = c.in_ok-from.ensures.root;
  files = subst (λ input. AreFilesFor (g.R.FileReader.MayGive c.args.files.now) c.args.request.now.from.request input
      c.in_ok-from.from)
      c.in_ok-copy.ensures c.in_ok-from.ensures.files;
}

pub returns-clause-to : goal.returns-clause-to
returns-clause-to g c = record { root = c.in_ok-to.ensures.root; files = c.in_ok-to.ensures.files }

pub returns-in_err-copy-clause-cause : goal.returns-in_err-copy-clause-cause
returns-in_err-copy-clause-cause g c =
    handed_on _ c.from_residual.result faults.Memory c.from_residual.ensures.1 (of_left (of_memory refl))

pub returns-in_err-from-clause-cause : goal.returns-in_err-from-clause-cause
returns-in_err-from-clause-cause g c =
    let fault = c.in_err-from.field-0.0 in
    handed_on _ c.from_residual-in_err-from.result fault c.from_residual-in_err-from.ensures.1
    (of_left (subst (λ input. HasGatherCause (g.R.FileReader.MayGive c.args.files.now) c.args.request.now.from.request input
    fault)
    c.in_ok-copy.ensures c.in_err-from.ensures.cause))

pub returns-in_err-to-clause-cause : goal.returns-in_err-to-clause-cause
returns-in_err-to-clause-cause g c =
    handed_on _ c.from_residual-in_err-to.result c.in_err-to.field-0.0 c.from_residual-in_err-to.ensures.1
    (of_right c.in_ok-from.from (record {
      root = c.in_ok-from.ensures.root;
      files = subst (λ input. AreFilesFor (g.R.FileReader.MayGive c.args.files.now) c.args.request.now.from.request input
          c.in_ok-from.from)
          c.in_ok-copy.ensures c.in_ok-from.ensures.files;
    }) c.in_err-to.ensures.cause)
