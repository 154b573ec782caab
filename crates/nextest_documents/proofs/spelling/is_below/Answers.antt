use Rattle.std.proofs.Common.{◌≡◌, suc, take, refl, sym, ap, ◌∙◌, add-one, below_more}
use Rattle.std.proofs.lemmas.Bool.{true≢false}
use Rattle.std.proofs.lemmas.List.{length-map, take-map}
use Rattle.std.proofs.lemmas.Slice.Eq.{bytes_eq-Decides}
use Rattle.nextest_documents.specs.Entries.{dotted}
use Rattle.nextest_documents.specs.Layers.{keys_view}
use Rattle.nextest_documents.proofs.spelling.is_below.Goals as goal

pub returns-then-eq : goal.returns-then-eq
returns-then-eq c =
    let path = c.args.path.now in
    let last = c.loop-last.last in
    let keys : keys_view c.front.result.now ≡ take (suc last) (keys_view path) =
    ap keys_view (c.front.ensures ∙ ap (λ n. take n path) (add-one last))
    ∙ sym (take-map (λ key. key.now) (suc last) path) in
    let text : c.as_str.result.now ≡ dotted (take (suc last) (keys_view path)) =
    c.as_str.ensures.value ∙ c.in_ok-text.ensures ∙ ap dotted keys in
    let same : c.as_str.result.now ≡ c.args.key.now =
    (bytes_eq-Decides c.as_str.result.now c.args.key.now).0 (sym c.if-eq.ensures) in (
      λ yes. record {
        last = last;
        within = rw (length-map path (λ key. key.now)) c.loop-last-test.true;
        spelled = sym text ∙ same;
      },
      λ below. refl,
    )

pub loop-last-preserved : goal.loop-last-preserved
loop-last-preserved c =
    let path = c.args.path.now in
    let last = c.loop-last.last in
    let keys : keys_view c.front.result.now ≡ take (suc last) (keys_view path) =
    ap keys_view (c.front.ensures ∙ ap (λ n. take n path) (add-one last))
    ∙ sym (take-map (λ key. key.now) (suc last) path) in
    let text : c.as_str.result.now ≡ dotted (take (suc last) (keys_view path)) =
    c.as_str.ensures.value ∙ c.in_ok-text.ensures ∙ ap dotted keys in
    below_more _ _ c.loop-last.invariant
    (λ is. true≢false
    (sym ((bytes_eq-Decides c.as_str.result.now c.args.key.now).1 (text ∙ is)) ∙ sym c.if-eq.ensures))
