use Rattle.std.proofs.Common.{◌≡◌, ◌++◌, List, Some, ap, codes}
use Rattle.std.proofs.lemmas.Result.{on_ok_weaker}
use Rattle.nextest_tree.specs.Node.{array, as_table, bool, Entries, int, member_of, Node, opaque, table, text}
use Rattle.nextest_tree.specs.View.{entries_view, tree_view}
use Rattle.rinqebo_findings.specs.NextestForms.{FormFault, if_given, is_version, key_in, text_faults, unknown_keys, version_faults, version_keys, version_path}
use Rattle.rinqebo_findings.proofs.Forms.{forms_both, forms_same}
use Rattle.rinqebo_findings.proofs.nextest_versions.add_version_form.Goals as goal

-- the values at the keys of a table of versions
abbrev value_faults : Node → List FormFault
value_faults versions =
    if_given (text_faults is_version (key_in version_path (codes "required")))
    (member_of (codes "required") versions)
    ++ if_given (text_faults is_version (key_in version_path (codes "recommended")))
    (member_of (codes "recommended") versions)

-- the faults of versions that are a table
of_table : (versions : Node) (es : Entries) → Some es ≡ as_table versions
    → unknown_keys version_keys version_path es ++ value_faults versions ≡ version_faults versions
of_table (table others) es is =
    let same : es ≡ others = cc in
    ap (λ (ms : Entries). unknown_keys version_keys version_path ms ++ value_faults (table others)) same
of_table (array items) es is = cc
of_table (text t) es is = cc
of_table (int z) es is = cc
of_table (bool b) es is = cc
of_table opaque es is = cc

pub returns : goal.returns
returns c =
    let source = c.args.refused.now.source in
    let layers = source.layers.now in
    let position = source.position in
    on_ok_weaker c.add_version_at-2.result
    (λ last. forms_same layers position _ _ _ _
    (of_table (tree_view c.args.given.now) (entries_view c.in-Some.members.now.entries) c.in-Some.ensures)
    (forms_both layers position _ _ _ _ _ c.in_ok-warn_of_others.ensures
    (forms_both layers position _ _ _ _ _ c.in_ok-add_version_at.ensures last)))
    c.add_version_at-2.ensures
