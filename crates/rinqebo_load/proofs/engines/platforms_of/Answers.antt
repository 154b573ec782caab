use Rattle.std.proofs.lemmas.Result.{err_from_is_err_and}
use Rattle.rinqebo_load.proofs.Causes.{host_fault, target_fault}
use Rattle.rinqebo_load.proofs.engines.platforms_of.Goals as goal

pub returns-in_err-target-clause-err : goal.returns-in_err-target-clause-err
returns-in_err-target-clause-err c =
    let p = err_from_is_err_and c.from_residual.result c.from_residual.ensures.1 in
    let e = c.target_names-names.ensures in
    rw (p.1, p.2)
    (target_fault c.target_names-names.result c.args.request.now c.args.triples.now c.args.gathered.now
    c.in_err-target.field-0.0 e.source e.list e.cfg e.option c.in_err-target.ensures.err)

pub returns-in_err-named_platform-clause-err : goal.returns-in_err-named_platform-clause-err
returns-in_err-named_platform-clause-err c =
    let p = err_from_is_err_and c.from_residual-in_err-named_platform.result
    c.from_residual-in_err-named_platform.ensures.1 in
    let e = c.host_names-names.ensures in
    rw (p.1, p.2)
    (host_fault c.host_names-names.result c.args.request.now c.args.triples.now c.args.gathered.now
    c.in_err-named_platform.field-0.0 e.source e.list e.cfg e.option c.in_ok-target.ensures.known
    (rw c.as_str.ensures.value at c.in_err-named_platform.ensures.err))

pub returns-clause-ok : goal.returns-clause-ok
returns-clause-ok c = record {
  is_host = rw c.as_str.ensures.value at c.in_ok-named_platform.ensures.ok;
  is_target = c.in_ok-target.ensures.ok;
}
