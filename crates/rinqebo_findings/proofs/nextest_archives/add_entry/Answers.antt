use Rattle.std.proofs.Common.{◌≡◌, ◌++◌, List, Some, ap, codes, map}
use Rattle.std.proofs.lemmas.Result.{on_ok_weaker}
use Rattle.nextest_places.specs.Spans.Paths.{path_step, PathStep}
use Rattle.nextest_tree.specs.Node.{array, as_table, bool, Entries, int, member_of, Node, opaque, table, text}
use Rattle.nextest_tree.specs.Schema.{is_one_of}
use Rattle.nextest_tree.specs.View.{entries_view, tree_view}
use Rattle.rinqebo_findings.specs.NextestForms.{any_text_faults, depth_faults, entry_faults, FormFault, if_given, include_keys, include_roots, key_in, on_missing_words, or_missing, text_faults, unknown_keys}
use Rattle.rinqebo_findings.proofs.Forms.{forms_both, forms_same}
use Rattle.rinqebo_findings.proofs.nextest_archives.add_entry.Goals as goal

-- the values at the keys of an entry
abbrev value_faults : List PathStep → Node → List FormFault
value_faults path entry =
    or_missing any_text_faults path (codes "path") (member_of (codes "path") entry)
    ++ (or_missing (text_faults (is_one_of include_roots)) path (codes "relative-to")
    (member_of (codes "relative-to") entry)
    ++ (if_given (depth_faults (key_in path (codes "depth"))) (member_of (codes "depth") entry)
    ++ if_given (text_faults (is_one_of on_missing_words) (key_in path (codes "on-missing")))
    (member_of (codes "on-missing") entry)))

-- the faults of an entry that is a table
of_table : (path : List PathStep) (entry : Node) (es : Entries) → Some es ≡ as_table entry
    → unknown_keys include_keys path es ++ value_faults path entry ≡ entry_faults path entry
of_table path (table others) es is =
    let same : es ≡ others = cc in
    ap (λ (ms : Entries). unknown_keys include_keys path ms ++ value_faults path (table others)) same
of_table path (array items) es is = cc
of_table path (text t) es is = cc
of_table path (int z) es is = cc
of_table path (bool b) es is = cc
of_table path opaque es is = cc

pub returns : goal.returns
returns c =
    let source = c.args.refused.now.source in
    let layers = source.layers.now in
    let position = source.position in
    let path = map path_step c.args.path.now in
    on_ok_weaker c.add_on_missing.result
    (λ last. forms_same layers position _ _ _ _
    (of_table path (tree_view c.args.entry.now) (entries_view c.in-Some.members.now.entries) c.in-Some.ensures)
    (forms_both layers position _ _ _ _ _ c.in_ok-warn_of_others.ensures
    (forms_both layers position _ _ _ _ _ c.in_ok-add_needed_path.ensures
    (forms_both layers position _ _ _ _ _ c.in_ok-add_needed_root.ensures
    (forms_both layers position _ _ _ _ _ c.in_ok-add_depth_at.ensures last)))))
    c.add_on_missing.ensures
