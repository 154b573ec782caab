use Rattle.std.proofs.Common.{◌≡◌, ◌∙◌, ◌++◌, List, [], ◌∷◌, Option, ap, append-nil, append_assoc, subst, sym}
use Rattle.std.specs.List.{AllZip}
use Rattle.nextest_elements.specs.TestGroup.{custom_group_text}
use Rattle.nextest_elements.specs.declared.test_group.CustomTestGroup.{CustomTestGroup}
use Rattle.nextest_elements.specs.declared.test_group.TestGroupConfig.{TestGroupConfig}
use Rattle.nextest_load.specs.ConfigView.{groups_view}
use Rattle.nextest_tables.specs.Written.{Name}
use Rattle.rinqebo_objects.specs.declared.origins.GroupOrigins.{GroupOrigins}
use Rattle.rinqebo_request.specs.declared.files.layers.Layer.{Layer}
use Rattle.rinqebo_object_origins.specs.ObjectOrigins.{AreGroupOrigins}
use Rattle.rinqebo_object_origins.proofs.objects.all_group_origins.Goals as goal

-- the origins of one group more, with those of the groups that are left
one_more : (layers : List Layer) (all : List (Name × Option TestGroupConfig))
    (old next : List (CustomTestGroup × TestGroupConfig)) (group : CustomTestGroup) (value : TestGroupConfig)
    (told after : List GroupOrigins) (new : GroupOrigins) → old ≡ (group, value) ∷ next → after ≡ told ++ new ∷ []
    → ((more : List GroupOrigins) → AllZip (λ entry. AreGroupOrigins layers entry.0) (groups_view old) more
    → AllZip (λ entry. AreGroupOrigins layers entry.0) all (told ++ more))
    → AreGroupOrigins layers (custom_group_text group) new
    → (more : List GroupOrigins) → AllZip (λ entry. AreGroupOrigins layers entry.0) (groups_view next) more
    → AllZip (λ entry. AreGroupOrigins layers entry.0) all (after ++ more)
one_more layers all old next group value told after new steps pushed so_far is more rest =
    subst (AllZip (λ entry. AreGroupOrigins layers entry.0) all)
    (sym (ap (λ items. items ++ more) pushed ∙ append_assoc told (new ∷ []) more))
    (so_far (new ∷ more)
    (subst (λ es. AllZip (λ entry. AreGroupOrigins layers entry.0) (groups_view es) (new ∷ more)) (sym steps) (is, rest)))

pub loop-group-preserved : goal.loop-group-preserved
loop-group-preserved c =
    one_more c.args.layers.now _ _ c.next.new.self c.in-Some.group.now _ c.loop-group.told.items _
    c.in_ok-group_origins.field-0 c.in-Some.ensures.steps c.in_ok-push.ensures.items c.loop-group.invariant
    c.in_ok-group_origins.ensures

pub returns : goal.returns
returns c =
    let layers = c.args.layers.now in
    let all = rw c.in-None.ensures.steps.0 at c.loop-group.invariant in
    subst (AllZip (λ group. AreGroupOrigins layers group.0) (groups_view c.args.groups.now.entries))
    (append-nil c.loop-group.told.items) (all [] tt)
