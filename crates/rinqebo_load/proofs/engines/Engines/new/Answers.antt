use Rattle.std.proofs.Common.{inl, inr}
use Rattle.std.proofs.lemmas.Result.{err_from_is_err_and}
use Rattle.rinqebo_load.specs.InputFaults.{IsBuildFault, IsEngineFault, IsGraphFault}
use Rattle.rinqebo_load.specs.ListPath.{path_of}
use Rattle.rinqebo_load.proofs.Causes.{graph_of, or_more}
use Rattle.rinqebo_load.proofs.Filters.{filters_alike}
use Rattle.rinqebo_load.proofs.engines.Engines.new.Goals as goal

pub returns-clause-filters : goal.returns-clause-filters
returns-clause-filters c =
    filters_alike _ c.in_ok-filters.filters c.filters_for.result c.filters_for.ensures c.in_ok-filters.ensures.ok

pub returns-in_err-filters-clause-err : goal.returns-in_err-filters-clause-err
returns-in_err-filters-clause-err c =
    let p = err_from_is_err_and c.from_residual.result c.from_residual.ensures.1 in
    rw (p.1, p.2)
    (or_more (IsGraphFault (path_of c.args.request.now.engines.metadata) c.args.gathered.now.metadata)
    (IsEngineFault c.args.request.now c.args.triples.now c.args.gathered.now) c.in_err-filters.field-0.0 (λ is. inl is)
    c.in_err-filters.ensures.err)

pub returns-in_err-platforms_of-clause-err : goal.returns-in_err-platforms_of-clause-err
returns-in_err-platforms_of-clause-err c =
    let p = err_from_is_err_and c.from_residual-in_err-platforms_of.result
    c.from_residual-in_err-platforms_of.ensures.1 in
    let known = graph_of c.args.gathered.now.metadata c.in_ok-filters.filters c.in_ok-filters.ensures.ok in
    rw (p.1, p.2)
    (or_more (IsBuildFault c.args.request.now c.args.triples.now c.args.gathered.now)
    (IsEngineFault c.args.request.now c.args.triples.now c.args.gathered.now) c.in_err-platforms_of.field-0.0
    (λ is. inr (known, is)) c.in_err-platforms_of.ensures.err)
