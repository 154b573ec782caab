use Rattle.std.proofs.Common.{◌≡◌, ◌<◌, ◌∙◌, [], ◌++◌, length, map, not, filter, subst, sym, ap, arith}
use Rattle.std.proofs.lemmas.List.{append-nil}
use Rattle.std.proofs.lemmas.List.Elements.{All-push}
use Rattle.std.specs.List.{All, Contains}
use Rattle.rinqebo_changes.specs.declared.classes.Class.{Class}
use Rattle.rinqebo_changes.specs.Classes.{AreClasses, HasHead, IsFirstLeast, class_items, none, same_item}
use Rattle.rinqebo_changes.proofs.ClassLists.{class_more, contains_kept, fewer, one_more}
use Rattle.rinqebo_changes.proofs.Reflexive.{same_itself}
use Rattle.rinqebo_changes.proofs.classes.classes_of.Goals as goal

pub loop-head-init : goal.loop-head-init
loop-head-init c = record {
  all = λ cs are.
      let same = same_item c.args.rule in
      subst (λ ks. AreClasses same c.args.items.now (map class_items ks ++ cs)) (sym c.new-classes.ensures.items)
      (subst (λ xs. AreClasses same xs cs) c.in_ok-rest.ensures.items are);
  heads = subst (All HasHead) (sym c.new-classes.ensures.items) (λ k d lt. absurd (omega arith));
}

pub loop-head-preserved : goal.loop-head-preserved
loop-head-preserved c =
    let same = same_item c.args.rule in
    let rest = c.loop-head.rest.items in
    let head = c.in-Some.head in
    let old = c.loop-head.classes.items in
    let class : Class = record { head = head; items = c.in_ok-items.items } in
    let first : IsFirstLeast rest head = subst (λ xs. IsFirstLeast xs head) c.deref.ensures.value c.in-Some.ensures in
    let is : c.in_ok-items.items.items ≡ filter (same head) rest =
    c.in_ok-items.ensures ∙ ap (filter (same head)) c.deref-in-Some-2.ensures.value in
    let has : HasHead class = record {
      here = subst (λ xs. Contains xs head) (sym is)
          (contains_kept (same head) rest head first.here (same_itself c.args.rule head));
    } in
    record {
      all = λ cs are.
          subst (λ ks. AreClasses same c.args.items.now (map class_items ks ++ cs)) (sym c.in_ok-push.ensures.items)
          (subst (AreClasses same c.args.items.now) (sym (one_more class_items old class cs))
          (class_more c.args.rule c.args.items.now rest _ _ _ head _ _ (map class_items old) cs c.deref.ensures.value
          c.deref-in-Some.ensures.value c.deref-in-Some-2.ensures.value c.in-Some.ensures c.in_ok-others.ensures
          c.in_ok-items.ensures c.loop-head.invariant.all are));
      heads = subst (All HasHead) (sym c.in_ok-push.ensures.items)
          (All-push HasHead old class c.loop-head.invariant.heads has);
    }

pub loop-head-smaller : goal.loop-head-smaller
loop-head-smaller c =
    let rest = c.loop-head.rest.items in
    let head = c.in-Some.head in
    let first : IsFirstLeast rest head = subst (λ xs. IsFirstLeast xs head) c.deref.ensures.value c.in-Some.ensures in
    let kept = filter (λ y. not (same_item c.args.rule head y)) in
    let is : c.in_ok-others.others.items ≡ kept rest = c.in_ok-others.ensures ∙ ap kept c.deref-in-Some.ensures.value in
    subst (λ xs. length xs < length rest) (sym is)
    (fewer (same_item c.args.rule head) rest head first.here (same_itself c.args.rule head))

pub returns-clause-classes : goal.returns-clause-classes
returns-clause-classes c =
    let same = same_item c.args.rule in
    let classes = map class_items c.loop-head.classes.items in
    let ended : c.loop-head.rest.items ≡ [] = sym c.deref.ensures.value ∙ c.in_default.ensures in
    subst (AreClasses same c.args.items.now) (append-nil classes)
    (c.loop-head.invariant.all [] (subst (λ xs. AreClasses same xs []) (sym ended) none))

pub returns-clause-heads : goal.returns-clause-heads
returns-clause-heads c = c.loop-head.invariant.heads
