use Rattle.std.proofs.Common.{◌≡◌, ◌∙◌, ◌∷◌, [], ◌++◌, ℕ, List, Some, ap, codes}
use Rattle.std.proofs.lemmas.Result.{on_ok_weaker}
use Rattle.nextest_places.specs.Spans.Paths.{PathStep}
use Rattle.nextest_tree.specs.Node.{array, as_table, bool, Entries, int, member_of, Node, opaque, table, text}
use Rattle.nextest_tree.specs.View.{entries_view, tree_view}
use Rattle.rinqebo_findings.specs.NextestForms.{archive_faults, archive_path, if_given, include_faults, unknown_keys}
use Rattle.rinqebo_findings.proofs.Forms.{forms_both, forms_same}
use Rattle.rinqebo_findings.proofs.nextest_archives.add_archive_form.Goals as goal

-- the faults of an archive that is a table
of_table : (profile : List ℕ) (archive : Node) (es : Entries) → Some es ≡ as_table archive
    → unknown_keys (codes "include" ∷ []) (archive_path profile) es
    ++ if_given (include_faults profile) (member_of (codes "include") archive) ≡ archive_faults profile archive
of_table profile (table others) es is =
    let same : es ≡ others = cc in
    ap (λ (ms : Entries). unknown_keys (codes "include" ∷ []) (archive_path profile) ms
    ++ if_given (include_faults profile) (member_of (codes "include") (table others))) same
of_table profile (array items) es is = cc
of_table profile (text t) es is = cc
of_table profile (int z) es is = cc
of_table profile (bool b) es is = cc
of_table profile opaque es is = cc

pub returns : goal.returns
returns c =
    let source = c.args.refused.now.source in
    let layers = source.layers.now in
    let position = source.position in
    let profile = c.args.profile.now in
    let archive = tree_view c.args.archive.now in
    let es = entries_view c.in-Some.members.now.entries in
    on_ok_weaker c.add_include_at.result
    (λ last. forms_same layers position _ _ _ _
    (ap (λ (path : List PathStep). unknown_keys (codes "include" ∷ []) path es
    ++ if_given (include_faults profile) (member_of (codes "include") archive)) c.profile_path-path.ensures
    ∙ of_table profile archive es c.in-Some.ensures)
    (forms_both layers position _ _ _ _ _ c.in_ok-warn_of_others.ensures last))
    c.add_include_at.ensures
