use Rattle.std.proofs.Common.{◌≡◌, ◌||◌, map, not, true, sym, ap, ◌∙◌}
use Rattle.nextest_tree.specs.Schema.{is_one_of}
use Rattle.nextest_sources.specs.Sources.{source_view}
use Rattle.nextest_rules.specs.Definitions.{may_define, forbidden_names}
use Rattle.nextest_rules.proofs.Gathering.{gathered}
use Rattle.nextest_rules.proofs.ill_named.add_forbidden.Goals as goal

pub loop-key-preserved : goal.loop-key-preserved
loop-key-preserved g c q =
    let text = g.K.NameKey.text in
    let kind = (source_view c.args.source.now).kind in
    let found = c.loop-key.found in
    let key = c.in-Some.key.now in
    let copy = c.in_ok-clone.field-0 in
    let forbidden : not (may_define kind (text key)) ≡ true =
    ap not (sym (c.may_define.ensures ∙ (λ i. may_define (c.kind.ensures i) (c.identifier.ensures i)))
    ∙ c.if-may_define.false) in
    gathered g.K.Ord.cmp text g.met.K.IdentifierKey.ordered (λ name. not (may_define kind name)) found.keys
    c.insert.new.self.keys key copy
    (map (λ e. text e.0) c.next.new.self) q c.in_ok-insert.ensures.keys
    (g.met.K.IdentifierKey.copied key copy c.in_ok-clone.ensures.cases) forbidden
    ∙ ap (λ es. is_one_of (map text found.keys) q || is_one_of (forbidden_names kind (map (λ e. text e.0) es))
    q) (sym c.in-Some.ensures.steps)
    ∙ c.loop-key.invariant q
