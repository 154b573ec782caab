use Rattle.std.proofs.Common.{arith, sym, subst, ◌∙◌}
use Rattle.filter_engine.specs.Classes.{AreClasses}
use Rattle.filter_engine.proofs.Follows.{classes_still}
use Rattle.filter_engine.proofs.Rows.{classes_narrow}
use Rattle.filter_engine.proofs.machine.search.Search.table.Goals as goal

pub new-requires-2 : goal.new-requires-2
new-requires-2 g c =
    let nfa = c.args.self.now.nfa.now in
    let bytes = c.in_ok-classes.classes.bytes.items in
    record {
      sorts = classes_narrow nfa c.in_ok-classes.classes.of bytes _ c.in_ok-classes.ensures.classes
          c.in_ok-classes.ensures.size (omega arith);
      size = c.in_ok-classes.ensures.size;
      narrow = omega (arith, c.in_ok-classes.ensures.few);
    }

pub loop-row-init : goal.loop-row-init
loop-row-init g c =
    let nfa = c.args.self.now.nfa.now in
    record {
      table = c.in_ok-table.ensures.table nfa;
      classes = subst (λ classes. AreClasses nfa classes c.as_slice-bytes.result.now) (sym c.in_ok-table.ensures.classes)
          (subst (AreClasses nfa c.in_ok-classes.classes.of) (sym c.as_slice-bytes.ensures.value)
          c.in_ok-classes.ensures.classes);
      width = c.in_ok-table.ensures.width ∙ omega arith;
    }

pub loop-row-preserved : goal.loop-row-preserved
loop-row-preserved g c =
    let so_far = c.loop-row.invariant in
    record {
      table = c.in_ok-fill.ensures.table;
      classes = classes_still c.args.self.now.nfa.now _ _ _ c.in_ok-fill.ensures.grows so_far.classes;
      width = c.in_ok-fill.ensures.grows.width ∙ so_far.width;
    }
