use Rattle.std.proofs.Common.{◌≡◌, ◌↔◌, true, IsTrue, Some, option_map, subst, sym}
use Rattle.nextest_tree.specs.Node.{bool}
use Rattle.nextest_tree.specs.View.{nodes_view, tree_view}
use Rattle.rinqebo_forms.specs.Features.{IsNamedIn}
use Rattle.rinqebo_forms.proofs.Switching.{listed, named_there, true_there, unlisted}
use Rattle.rinqebo_forms.proofs.features.switches_on.Goals as goal

pub returns-in-Some : goal.returns-in-Some
returns-in-Some c =
    let items = c.in-Some.items.now in
    let name = c.args.name.now in
    listed (tree_view c.args.written.now) (nodes_view items) name c.has_text.result c.in-Some.ensures
    (subst (λ b. IsTrue b ↔ IsNamedIn name (nodes_view items)) (sym c.has_text.ensures)
    (named_there tree_view name items))

pub returns-in-None : goal.returns-in-None
returns-in-None c =
    let written = tree_view c.args.written.now in
    let name = c.args.name.now in
    let found = option_map (λ tree. tree_view tree.now) c.get.result in
    unlisted written name c.is_true.result c.in-None.ensures
    (subst (λ o. IsTrue c.is_true.result ↔ (o ≡ Some (bool true))) c.get.ensures
    (subst (λ b. IsTrue b ↔ (found ≡ Some (bool true))) (sym c.is_true.ensures) (true_there found)))
