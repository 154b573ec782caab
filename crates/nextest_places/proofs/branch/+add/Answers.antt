use Rattle.std.proofs.Common.{◌≡◌, ◌++◌, ◌∷◌, [], ◌∙◌, Some, None, cond, sym, ap, rules, string_bytes}
use Rattle.std.proofs.lemmas.List.{nil_from_length}
use Rattle.std.proofs.lemmas.Map.Text.{btree_map_updates_text}
use Rattle.std.proofs.lemmas.Result.{on_ok_weaker}
use Rattle.std.specs.BTreeMap.{get_by_text}
use Rattle.std.specs.Option.{option_copied_mut}
use Rattle.toml_parser.specs.Reading.{path_view}
use Rattle.nextest_places.specs.Branches.{is_in}
use Rattle.nextest_places.specs.declared.branch.Branch.{Branch}
use Rattle.nextest_places.specs.declared.branch.Branch.TheOpen.{Branch-F}
use Rattle.nextest_places.specs.declared.branch.Branch.TheViews.{out-Branch, out-roll-Branch, roll-Branch}
use Rattle.nextest_places.proofs.Adding.{added_here, added_longer, both_ok, grown}
use Rattle.nextest_places.proofs.branch.+add.Goals as goal

pub add-returns-in-Some : goal.add-returns-in-Some
add-returns-in-Some t c =
    let part = c.deref.result.now in
    let rest = path_view c.in-Some.rest.now in
    let parts : path_view c.args.parts.now ≡ part ∷ rest =
    ap path_view c.in-Some.ensures.cases.0 ∙ ap (λ p. p ∷ rest) (sym c.deref.ensures) in
    let old = c.args.branch.now in
    let pushed : Branch-F Branch = record (out-Branch old) { all = c.push.new.self } in
    let was = out-Branch (roll-Branch pushed) in
    let new : Branch-F Branch = record was { longer = c.add_longer.new.longer } in
    let before = out-roll-Branch pushed in
    let after = out-roll-Branch new in
    on_ok_weaker c.add_longer.result
    (λ longer. rw parts (added_longer c.args.kind c.args.number old (roll-Branch new)
    (ap (λ f. f.all.items) after ∙ ap (λ f. f.all.items) before ∙ c.in_ok-push.ensures.items) part rest was.longer
    c.add_longer.new.longer (ap (λ f. f.ends) after ∙ ap (λ f. f.ends) before) (ap (λ f. f.longer) before)
    (ap (λ f. f.longer) after) longer))
    c.add_longer.ensures

pub add-returns-in-None : goal.add-returns-in-None
add-returns-in-None t c =
    let none : c.args.parts.now ≡ [] = nil_from_length c.args.parts.now c.in-None.ensures.cases in
    let old = c.args.branch.now in
    let pushed : Branch-F Branch = record (out-Branch old) { all = c.push.new.self } in
    let was = out-Branch (roll-Branch pushed) in
    let new : Branch-F Branch = record was { ends = c.add.new.self } in
    let before = out-roll-Branch pushed in
    let after = out-roll-Branch new in
    both_ok c.add.result
    (λ pair element. rw none (added_here c.args.kind c.args.number old (roll-Branch new)
    (ap (λ f. f.all.items) after ∙ ap (λ f. f.all.items) before ∙ c.in_ok-push.ensures.items) was.ends c.add.new.self
    (ap (λ f. f.longer) after ∙ ap (λ f. f.longer) before) (ap (λ f. f.ends) before) (ap (λ f. f.ends) after) pair
    element))
    c.add.ensures.pairs c.add.ensures.elements

pub add_longer-returns-in-Some : goal.add_longer-returns-in-Some
add_longer-returns-in-Some t c =
    let part = c.args.part.now in
    let old = c.args.longer.now in
    let was = c.in-Some.branch.now in
    let now = c.add.new.branch in
    let new = c.get_mut.follows.lender now in
    let there : get_by_text old part ≡ Some was = sym c.in-Some.ensures.value in
    let updates = btree_map_updates_text part old new (Some now) ((c.get_mut.follows.holds now).3 (search rules)) in
    on_ok_weaker c.add.result
    (grown c.args.kind part (path_view c.args.rest.now) c.args.number old new (Some was) now updates there)
    c.add.ensures

pub add_longer-returns-in_ok-insert-in-None : goal.add_longer-returns-in_ok-insert-in-None
add_longer-returns-in_ok-insert-in-None t c =
    let part = c.args.part.now in
    let old = c.args.longer.now in
    let now = c.add-in-None.new.branch in
    let new = c.insert.new.self in
    let key = c.in_ok-from_str-in-None.field-0 in
    let none : get_by_text old part ≡ None = sym c.get_mut.ensures.value ∙ ap option_copied_mut c.in-None.is in
    let named : string_bytes key ≡ part = search rules in
    let inserts = rw c.get_mut.follows.holds-at-none at c.in_ok-insert-in-None.ensures.updates in
    let updates = rw named at (btree_map_updates_text (string_bytes key) old new (Some now) inserts) in
    grown c.args.kind part (path_view c.args.rest.now) c.args.number old new None now updates none
    (λ role keys. c.in_ok-add-in-None.ensures role keys
    ∙ ap (λ ns. ns ++ cond (is_in role c.args.kind keys (path_view c.args.rest.now)) (c.args.number ∷ []) [])
    (c.empty-branch.ensures role keys))
