use Rattle.rinqebo_diff.proofs.Evaluating.{alone_as, compared_as, counted_as}
use Rattle.rinqebo_diff.proofs.sides.diff_by.Goals as goal

pub returns : goal.returns
returns g c =
    let are = c.in_ok-alone.ensures in
    let beside = c.in_ok-binaries.ensures in
    let compared = c.in_ok-changed.ensures in
    record {
      from = c.in_ok-from_side.ensures;
      to = c.in_ok-to_side.ensures;
      pairs = compared.pairs;
      are_pairs = compared.are_pairs;
      changed = compared_as c.args.request.now.with_origins _ _ _ _ _ _ c.deref.ensures.value c.deref-2.ensures.value
          compared.are_compared;
      compared = compared.counted;
      binaries = counted_as _ _ _ c.deref-3.ensures.value beside.binaries;
      removed = alone_as _ _ _ are.removed beside.removed;
      added = alone_as _ _ _ are.added beside.added;
      run = c.in_ok-run.ensures;
    }
