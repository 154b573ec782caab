use Rattle.std.proofs.Common.{◌≡◌, ◌∙◌, map, take, sym, subst}
use Rattle.std.proofs.lemmas.List.{take_all}
use Rattle.std.specs.List.{All, AllZip}
use Rattle.rinqebo_changes.specs.declared.classes.ClassRule.TheVariants.{Row}
use Rattle.rinqebo_changes.specs.Classes.{AreClasses, HasHead, class_items, same_item}
use Rattle.rinqebo_changes.specs.Groups.{IsGroup}
use Rattle.rinqebo_changes.proofs.ClassLists.{zip_step}
use Rattle.rinqebo_changes.proofs.groups.groups_of.Goals as goal

pub group_of-requires : goal.group_of-requires
group_of-requires c =
    let classes = c.deref-class-items.result.now in
    let heads : All HasHead classes =
    subst (All HasHead) (sym c.deref-class-items.ensures.value) c.in_ok-classes.ensures.heads in
    subst HasHead (sym c.class-item.is) (heads c.loop-class.class-index c.class-item.result c.loop-class-test.true)

pub loop-class-preserved : goal.loop-class-preserved
loop-class-preserved c =
    zip_step class_items IsGroup c.deref-class-items.result.now c.loop-class.class-index c.class-item.result
    c.loop-class-test.true c.class-item.is c.loop-class.groups.items c.in_ok-group_of.field-0 _ c.loop-class.invariant
    c.in_ok-group_of.ensures c.in_ok-push.ensures.items

pub returns : goal.returns
returns c =
    let classes = c.in_ok-classes.classes.items in
    let all : take c.loop-class.class-index c.deref-class-items.result.now ≡ classes =
    take_all c.loop-class.class-index c.deref-class-items.result.now c.loop-class-test.false
    ∙ c.deref-class-items.ensures.value in
    record {
      items = c.in_ok-items.items.items;
      all = c.in_ok-items.ensures;
      classes = map class_items classes;
      are_classes = subst (λ xs. AreClasses (same_item Row) xs (map class_items classes)) c.deref.ensures.value
          c.in_ok-classes.ensures.classes;
      each = subst (λ ks. AllZip IsGroup (map class_items ks) c.loop-class.groups.items) all c.loop-class.invariant;
    }
