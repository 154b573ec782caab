use Rattle.std.proofs.Common.{◌∙◌, ap, map, string_bytes, subst}
use Rattle.nextest_tree.specs.View.{entries_view, tree_view}
use Rattle.rinqebo_faults.specs.FileNamings.{profile_names, profiles_names}
use Rattle.rinqebo_faults.proofs.Named.{Left, left_all, left_more, left_none}
use Rattle.rinqebo_faults.proofs.namings.add_profiles.Goals as goal

pub loop-profile-init : goal.loop-profile-init
loop-profile-init c =
    let each = profiles_names c.args.list.now (map (λ k. k.now) c.args.keys.now) in
    let rest = c.into_iter-profile-iterator.result in
    subst (λ all. Left c.args.firsts.now c.args.firsts.now (each (entries_view rest)) (each (entries_view all)))
    (c.into_iter-profile-iterator.ensures.into_iter_gives ∙ c.iter-profile-items.ensures.rest)
    (left_all c.args.firsts.now (each (entries_view rest)))

pub loop-profile-preserved : goal.loop-profile-preserved
loop-profile-preserved c =
    let l = c.loop-profile in
    let keys = map (λ k. k.now) c.args.keys.now in
    let each = profiles_names c.args.list.now keys in
    left_more _ l.firsts c.add_profile.new.firsts
    (profile_names c.args.list.now keys (string_bytes c.in-Some.profile.now) (tree_view c.in-Some.table.now))
    (each (entries_view c.next.new.self)) _ _ l.invariant
    (ap (λ es. each (entries_view es)) c.in-Some.ensures.steps)
    (rw (← c.as_str.ensures.value) c.in_ok-add_profile.ensures)

pub returns : goal.returns
returns c =
    let l = c.loop-profile in
    let each = profiles_names c.args.list.now (map (λ k. k.now) c.args.keys.now) in
    left_none _ l.firsts _ _ l.invariant (ap (λ es. each (entries_view es)) c.in-None.ensures.steps.0)
