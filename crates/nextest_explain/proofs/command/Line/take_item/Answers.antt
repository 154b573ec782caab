use Rattle.std.proofs.Common.{◌∙◌, ◌∷◌, [], ℕ, List, String, Global, ap, map, string_bytes, subst, sym}
use Rattle.nextest_explain.specs.Taking.{TakesOption}
use Rattle.nextest_explain.proofs.Reading.{item_of_option}
use Rattle.nextest_explain.proofs.command.Line.take_item.Goals as goal

pub returns-clause-taken : goal.returns-clause-taken
returns-clause-taken c =
    let word = c.args.word.now in
    let value = c.as_str.result.now in
    let rest = c.in-Some-split_first.rest.now in
    let takes = subst (λ (word : List ℕ). TakesOption (word ∷ value ∷ []) c.args.self.now.options c.set.new.self)
    (sym c.in-Some.ensures) c.in_ok-set.ensures in (
      word ∷ value ∷ [],
      ap (λ (words : List (String Global)). word ∷ map string_bytes words) c.in-Some-split_first.ensures.cases.0
          ∙ ap (λ (value : List ℕ). word ∷ value ∷ map string_bytes rest) (sym c.as_str.ensures.value),
      item_of_option (word ∷ value ∷ []) c.args.self.now c.set.new.self takes,
    )
