use Rattle.std.proofs.Common.{◌≡◌, take, map, ap, ◌∙◌, sym}
use Rattle.std.proofs.lemmas.List.{take-map}
use Rattle.nextest_documents.specs.Layers.{keys_view}
use Rattle.nextest_documents.specs.Writers.{writer_view}
use Rattle.nextest_documents.proofs.Writing.{one_profile}
use Rattle.nextest_documents.proofs.entries.writers_of.Goals as goal

pub loop-i-preserved : goal.loop-i-preserved
loop-i-preserved c =
    let chain = c.args.chain.now in
    let i = c.loop-i.i in
    let so_far = map writer_view c.loop-i.writers.items in
    let nearer : keys_view c.front.result.now ≡ take i (keys_view chain) =
    ap keys_view c.front.ensures ∙ sym (take-map (λ key. key.now) i chain) in
    let added = rw nearer at c.in_ok-add_writers.ensures in
    one_profile c.args.count chain i _ so_far (map writer_view c.add_writers.new.writers.items) c.loop-i-test.true
    c.loop-i.invariant added
