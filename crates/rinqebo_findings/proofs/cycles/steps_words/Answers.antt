use Rattle.std.proofs.Common.{◌≡◌, ◌∙◌, ◌+◌, ◌++◌, ◌∷◌, [], ap, map, string_bytes, subst, sym, take}
use Rattle.std.proofs.lemmas.List.{map-append, take_all}
use Rattle.rinqebo_findings.specs.LaterWords.{AreCycleSteps, IsCycleStep}
use Rattle.rinqebo_findings.proofs.Each.{taken}
use Rattle.rinqebo_findings.proofs.InCycles.{steps_more}
use Rattle.rinqebo_findings.proofs.cycles.steps_words.Goals as goal

pub loop-name-preserved : goal.loop-name-preserved
loop-name-preserved c =
    let l = c.loop-name in
    let source = c.args.refused.now.source in
    let layers = source.layers.now in
    let cycle = c.args.cycle.now in
    let name = c.name-item.result in
    let step = string_bytes c.in_ok-step.step in
    let so_far = map string_bytes (take l.name-index cycle) in
    let more : map string_bytes (take (l.name-index + 1) cycle) ≡ so_far ++ string_bytes name ∷ [] =
    ap (map string_bytes) (taken cycle l.name-index name c.loop-name-test.true c.name-item.is)
    ∙ map-append string_bytes (take l.name-index cycle) (name ∷ []) in
    let words : string_bytes c.push_str.new.self ≡ string_bytes l.words ++ step =
    c.in_ok-push_str.ensures.bytes ∙ ap (λ end. string_bytes l.words ++ end) c.as_str-in-loop-name.ensures.value in
    let is : IsCycleStep layers source.position (string_bytes name) step =
    subst (λ n. IsCycleStep layers source.position n step) c.as_str.ensures.value c.in_ok-step.ensures in
    subst (λ profiles. AreCycleSteps layers source.position profiles (string_bytes c.push_str.new.self)) (sym more)
    (subst (AreCycleSteps layers source.position (so_far ++ string_bytes name ∷ [])) (sym words)
    (steps_more layers source.position so_far (string_bytes name) (string_bytes l.words) step l.invariant is))

pub returns : goal.returns
returns c =
    let source = c.args.refused.now.source in
    subst (λ names. AreCycleSteps source.layers.now source.position (map string_bytes names) (string_bytes c.loop-name.words))
    (take_all c.loop-name.name-index c.args.cycle.now c.loop-name-test.false) c.loop-name.invariant
