use Rattle.std.proofs.Common.{◌∙◌, ◌∷◌, ◌++◌, ℕ, List, String, Global, ap, map, string_bytes, sym}
use Rattle.nextest_explain.proofs.Reading.{line_more}
use Rattle.nextest_explain.proofs.command.Line.read.Goals as goal

pub loop-word-preserved : goal.loop-word-preserved
loop-word-preserved c =
    let (done, split, is) = c.loop-word.invariant in
    let behind = c.in-Some.behind.now in
    let parted = split
    ∙ ap (λ (words : List (String Global)). done ++ map string_bytes words) c.in-Some.ensures.cases.0
    ∙ ap (λ (word : List ℕ). done ++ word ∷ map string_bytes behind) (sym c.as_str.ensures.value) in
    line_more (map string_bytes c.args.words.now) done (c.as_str.result.now ∷ map string_bytes behind)
    (map string_bytes c.in_ok-rest.rest.now) c.loop-word.line c.take_item.new.self parted is
    c.in_ok-rest.ensures.taken
