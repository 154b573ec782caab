use Rattle.std.proofs.Common.{◌∙◌, add-one, ap, arith, sym}
use Rattle.nextest_documents.specs.Text.{tree_of}
use Rattle.nextest_places.proofs.Indexed.{leads_more, none_further, none_yet}
use Rattle.nextest_places.proofs.fronts.fronts_behind.Goals.{in-Some+in_ok-push, in_default}
use Rattle.nextest_places.proofs.fronts.fronts_behind.Goals as goal

pub overflow_step-last : goal.overflow_step-last
overflow_step-last c = omega (arith, c.requires, c.count-count.ensures, c.count-count.type_inv)

pub up-preserved : goal.up-preserved
up-preserved c = elim c.match-branch-2.branch [
  | in-Some+in_ok-push w ↦
      let document = ap tree_of (sym c.front.ensures) ∙ sym (rw w.in-Some.is at c.in_ok-document.ensures) in
      rw (w.high-is, w.found-is, w.in_ok-push.ensures.items) (
        omega (arith, c.up.invariant.0, c.up.invariant.1),
        omega arith,
        none_yet c.args.fronts.now c.up.last,
        leads_more c.args.fronts.now c.args.low c.up.found.items c.up.high _ c.up.invariant.3
            (add-one c.up.high) c.up.invariant.1
            c.up.invariant.2 document,
      )
  | in_default w ↦
      let none = ap tree_of (sym c.front.ensures) ∙ sym (rw w.in_default.is at c.in_ok-document.ensures) in
      rw (w.high-is, w.found-is) (
        c.up.invariant.0,
        omega (arith, c.up.invariant.1),
        none_further c.args.fronts.now c.up.high c.up.last c.up.invariant.2 none,
        c.up.invariant.3,
      )
]
