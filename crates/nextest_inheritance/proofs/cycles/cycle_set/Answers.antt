use Rattle.std.proofs.Common.{map, refl, string_bytes, ◌∙◌, Option}
use Rattle.std.specs.BTreeSet.{insert_key}
use Rattle.nextest_inheritance.specs.Names.{Name}
use Rattle.nextest_inheritance.specs.View.{parents_view, names_view, borrowed_view, has_name}
use Rattle.nextest_inheritance.proofs.Exploring.{progress_start, progress_past, progress_found, progress_end}
use Rattle.nextest_inheritance.proofs.Keeping.{names_cmp, names_ascend, only_inserted, kept_inserted, new_inserted}
use Rattle.nextest_inheritance.proofs.cycles.cycle_set.Goals as goal
use Rattle.nextest_inheritance.proofs.cycles.cycle_set.Goals.{in-Some-2+in_ok-insert, in_default}

pub loop-start-init : goal.loop-start-init
loop-start-init g c =
    let es = parents_view g.P.Inherits.parent c.args.profiles.now.entries in
    let rest = c.into_iter-start-iterator.ensures.into_iter_gives ∙ c.iter-start-items.ensures.rest in
    rw (c.new-found.ensures.empty, rest)
    (progress_start es (has_name c.new-walked.result) (λ name. rw c.new-walked.ensures.empty refl))

pub loop-start-preserved : goal.loop-start-preserved
loop-start-preserved g c =
    let es = parents_view g.P.Inherits.parent c.args.profiles.now.entries in
    let old = has_name c.loop-start.walked in
    let new = has_name c.walk_from.new.walked in
    let path = borrowed_view c.in_ok-walk.walk.path.items in
    let end = c.in_ok-walk.walk.end.now in
    let walk = rw c.as_str.ensures.value at c.in_ok-walk.ensures.walk in
    let so_far = rw c.in-Some.ensures.steps at c.loop-start.invariant in
    let e : Name × Option Name = (string_bytes c.in-Some.start.now, g.P.Inherits.parent c.in-Some.field-0-1.now) in
    let rest = parents_view g.P.Inherits.parent c.next.new.self in
    elim c.match-branch-3.branch [
      | in-Some-2+in_ok-insert w ↦
          let turned = rw w.in-Some-2.is at c.in_ok-cycle.ensures in
          let keys = w.in_ok-insert.ensures.keys in
          let k = w.in-Some-2.cycle in
          let before = c.loop-start.found.keys in
          rw (w.found-is, keys) (progress_found es e rest old new path end (names_view k)
          (map names_view before) (map names_view (insert_key names_cmp before k))
          walk c.in_ok-walk.ensures.ended turned so_far
          (λ one i. only_inserted one k before i) (new_inserted k before) (λ one i. kept_inserted one k before i)
          (names_ascend (insert_key names_cmp before k) (rw keys at w.in_ok-insert.ensures.ordered)))
      | in_default w ↦
          let away = rw w.in_default.is at c.in_ok-cycle.ensures in
          rw w.found-is (progress_past es e rest old new path end (map names_view c.loop-start.found.keys)
          walk c.in_ok-walk.ensures.ended away so_far)
    ]

pub returns : goal.returns
returns g c =
    let es = parents_view g.P.Inherits.parent c.args.profiles.now.entries in
    progress_end es (has_name c.loop-start.walked) (map names_view c.loop-start.found.keys)
    (rw c.in-None.ensures.steps.0 at c.loop-start.invariant)
