use Rattle.std.proofs.Common.{◌≡◌, ◌∙◌, ◌++◌, ap, subst, sym}
use Rattle.std.proofs.lemmas.List.{append-nil}
use Rattle.std.proofs.lemmas.Result.{on_ok_weaker}
use Rattle.nextest_tree.specs.Node.{keys}
use Rattle.nextest_tree.specs.View.{entries_view}
use Rattle.rinqebo_faults.specs.Given.{profiles_in}
use Rattle.rinqebo_faults.specs.Repairs.{entries_or_none}
use Rattle.rinqebo_findings.specs.Profiles.{AreNew, names_in}
use Rattle.rinqebo_findings.proofs.parents.add_layer.Goals as goal

pub returns-in-Some : goal.returns-in-Some
returns-in-Some c =
    let are : keys (entries_view c.in-Some.profiles.now.entries) ≡ names_in c.args.layer.now =
    ap (λ profiles. keys (entries_or_none profiles)) (c.in-Some.ensures ∙ ap profiles_in c.tree.ensures) in
    on_ok_weaker c.add_names.result
    (λ adds came new. subst (λ names. AreNew (came ++ names) c.add_names.new.seen c.add_names.new.names.items) are
    (adds came new)) c.add_names.ensures

pub returns-in-None : goal.returns-in-None
returns-in-None c came new =
    subst (λ all. AreNew all c.args.seen.now c.args.names.now.items)
    (sym (append-nil came)
    ∙ ap (λ profiles. came ++ keys (entries_or_none profiles)) (c.in-None.ensures ∙ ap profiles_in c.tree.ensures)) new
