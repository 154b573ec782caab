use Rattle.std.proofs.Common.{◌≡◌, ◌||◌, map, true, false, nat_cmp, refl, sym, ap, ◌∙◌}
use Rattle.std.specs.Cmp.Lexicographic.{slice_cmp}
use Rattle.nextest_scripts.specs.ScriptId.{script_text}
use Rattle.nextest_sources.specs.Errors.{script_names_view}
use Rattle.nextest_tree.specs.Schema.{is_one_of}
use Rattle.nextest_rules.specs.Definitions.{common_names}
use Rattle.nextest_rules.proofs.Gathering.{gathered, passed_over}
use Rattle.nextest_rules.proofs.Knowing.{key_there}
use Rattle.nextest_rules.proofs.script_kinds.add_common.Goals as goal

pub loop-id-preserved-then-not-contains_key : goal.loop-id-preserved-then-not-contains_key
loop-id-preserved-then-not-contains_key g c q =
    let others = map (λ e. script_text e.0) c.args.others.now.entries in
    let id = script_text c.in-Some.id.now in
    let unshared : is_one_of others id ≡ false =
    sym (key_there script_text c.args.others.now.entries id) ∙ sym c.contains_key.ensures
    ∙ c.if-not-contains_key.true in
    ap (λ names. script_names_view c.loop-id.found q || is_one_of names q)
    (passed_over (is_one_of others) id (map (λ e. script_text e.0) c.next.new.self) unshared)
    ∙ ap (λ es. script_names_view c.loop-id.found q || is_one_of
    (common_names (map (λ e. script_text e.0) es) others) q) (sym c.in-Some.ensures.steps)
    ∙ c.loop-id.invariant q

pub loop-id-preserved : goal.loop-id-preserved
loop-id-preserved g c q =
    let others = map (λ e. script_text e.0) c.args.others.now.entries in
    let id = script_text c.in-Some.id.now in
    let shared : is_one_of others id ≡ true =
    sym (key_there script_text c.args.others.now.entries id) ∙ sym c.contains_key.ensures
    ∙ c.if-not-contains_key.false in
    gathered (λ a b. slice_cmp nat_cmp (script_text a) (script_text b)) script_text (λ a b. refl)
    (is_one_of others) c.loop-id.found.keys c.insert.new.self.keys c.in-Some.id.now c.in_ok-clone.field-0
    (map (λ e. script_text e.0) c.next.new.self) q c.in_ok-insert.ensures.keys
    (ap script_text c.in_ok-clone.ensures.cases) shared
    ∙ ap (λ es. script_names_view c.loop-id.found q || is_one_of
    (common_names (map (λ e. script_text e.0) es) others) q) (sym c.in-Some.ensures.steps)
    ∙ c.loop-id.invariant q
