use Rattle.std.proofs.Common.{rules, arith, ◌≡◌, ◌++◌, ◌∷◌, [], Some, false, true, cond, ap, ◌∙◌, length}
use Rattle.std.proofs.lemmas.List.{length-map}
use Rattle.std.specs.Map.{keys_of}
use Rattle.std.proofs.lemmas.Grind.{common_steps}
use Rattle.std.proofs.lemmas.Map.Text.{is_eq-slice_cmp}
use Rattle.nextest_inheritance.specs.Parents.{parents_in}
use Rattle.nextest_inheritance.specs.View.{parents_view, borrowed_view, has_name}
use Rattle.nextest_inheritance.specs.Walks.{cycle_parents}
use Rattle.nextest_inheritance.proofs.Walking.{walk_start, walk_step, walk_short}
use Rattle.nextest_inheritance.proofs.cycles.walk_from.Goals as goal

pub loop-parent-init : goal.loop-parent-init
loop-parent-init g c = record {
  walk = rw c.new-path.ensures.items
      (walk_start (cycle_parents (parents_in (parents_view g.P.Inherits.parent c.args.profiles.now.entries)))
      c.args.start.now (has_name c.args.walked.now));
  text = c.utf8.start;
}

pub loop-parent-smaller : goal.loop-parent-smaller
loop-parent-smaller g c =
    let es = parents_view g.P.Inherits.parent c.args.profiles.now.entries in
    let is : cycle_parents (parents_in es) c.loop-parent.end.now ≡ Some c.in-Some.parent.now = search rules in
    let unwalked : has_name c.loop-parent.walked c.loop-parent.end.now ≡ false = search rules in
    let short = walk_short es c.args.start.now (has_name c.args.walked.now) (has_name c.loop-parent.walked)
    (borrowed_view c.loop-parent.path.items)
    c.loop-parent.end.now c.in-Some.parent.now c.loop-parent.invariant.walk is unwalked in
    let keys : length (keys_of es) ≡ length c.args.profiles.now.entries = simp length-map in
    let path : length (borrowed_view c.loop-parent.path.items) ≡ length c.loop-parent.path.items = simp length-map in
    omega (arith, short, keys, path, c.in_ok-push.ensures.len)

pub loop-parent-preserved : goal.loop-parent-preserved
loop-parent-preserved g c =
    let parents = cycle_parents (parents_in (parents_view g.P.Inherits.parent c.args.profiles.now.entries)) in
    let is : parents c.loop-parent.end.now ≡ Some c.in-Some.parent.now = search rules in
    let unwalked : has_name c.loop-parent.walked c.loop-parent.end.now ≡ false = search rules in
    let path : borrowed_view c.push.new.self.items ≡ borrowed_view c.loop-parent.path.items
    ++ c.loop-parent.end.now ∷ [] = grind (arith, common_steps) in record {
      walk = rw path (walk_step parents c.args.start.now (has_name c.args.walked.now)
          (has_name c.loop-parent.walked) (has_name c.insert.new.self)
          (borrowed_view c.loop-parent.path.items) c.loop-parent.end.now c.in-Some.parent.now
          c.loop-parent.invariant.walk is unwalked
          (λ name. c.in_ok-insert.ensures.updates.0 (record { ref_ptr = (0, 0); now = name })
          ∙ ap (λ same. cond same true (has_name c.loop-parent.walked name))
          (is_eq-slice_cmp c.loop-parent.end.now name)));
      text = search rules;
    }
