use Rattle.std.proofs.Common.{◌≡◌, ◌∙◌, [], true, false, ap, map, string_bytes, subst, sym}
use Rattle.nextest_places.specs.Spans.Paths.{path_step}
use Rattle.nextest_tree.specs.Schema.{is_one_of}
use Rattle.nextest_tree.specs.View.{entries_view}
use Rattle.rinqebo_findings.specs.NextestForms.{AddsForms, key_faults, unknown_key, unknown_keys}
use Rattle.rinqebo_findings.proofs.Forms.{forms_none, forms_same, left_more, left_none, unless, when}
use Rattle.rinqebo_findings.proofs.nextest_values.warn_of_others.Goals as goal

pub loop-key-preserved-in-Continue-1 : goal.loop-key-preserved-in-Continue-1
loop-key-preserved-in-Continue-1 c =
    let source = c.args.refused.now.source in
    let layers = source.layers.now in
    let known = map (λ key. key.now) c.args.known.now in
    let path = map path_step c.args.path.now in
    let name = string_bytes c.in-Some.key.now in
    let now = c.loop-key.findings.items in
    let mid = c.warn_of_other.new.findings.items in
    let other : is_one_of known name ≡ false =
    ap (is_one_of known) (sym c.as_str.ensures.value) ∙ sym c.is_among.ensures ∙ c.if-not-is_among.true in
    let added : AddsForms layers source.position (unknown_key path name) now mid =
    subst (λ key. AddsForms layers source.position (unknown_key path key) now mid)
    c.as_str-then-not-is_among.ensures.value c.in_ok-warn_of_other.ensures in
    left_more layers source.position _ now mid (key_faults known path name)
    (unknown_keys known path (entries_view c.next.new.self)) _ _ c.loop-key.invariant
    (ap (λ es. unknown_keys known path (entries_view es)) c.in-Some.ensures.steps)
    (forms_same layers source.position _ _ now mid (unless (is_one_of known name) [] (unknown_key path name) other)
    added)

pub loop-key-preserved : goal.loop-key-preserved
loop-key-preserved c =
    let source = c.args.refused.now.source in
    let layers = source.layers.now in
    let known = map (λ key. key.now) c.args.known.now in
    let path = map path_step c.args.path.now in
    let name = string_bytes c.in-Some.key.now in
    let now = c.loop-key.findings.items in
    let among : is_one_of known name ≡ true =
    ap (is_one_of known) (sym c.as_str.ensures.value) ∙ sym c.is_among.ensures ∙ c.if-not-is_among.false in
    left_more layers source.position _ now now (key_faults known path name)
    (unknown_keys known path (entries_view c.next.new.self)) _ _ c.loop-key.invariant
    (ap (λ es. unknown_keys known path (entries_view es)) c.in-Some.ensures.steps)
    (forms_same layers source.position [] _ now now (when (is_one_of known name) [] (unknown_key path name) among)
    (forms_none layers source.position now))

pub returns : goal.returns
returns c =
    let source = c.args.refused.now.source in
    let known = map (λ key. key.now) c.args.known.now in
    let path = map path_step c.args.path.now in
    left_none source.layers.now source.position _ c.loop-key.findings.items _ _ c.loop-key.invariant
    (ap (λ es. unknown_keys known path (entries_view es)) c.in-None.ensures.steps.0)
