use Rattle.std.proofs.Common.{◌≡◌, ◌∙◌, ap, map, sym}
use Rattle.nextest_explain.proofs.Reading.{arguments_are}
use Rattle.nextest_explain.proofs.command.Command.parse.Goals as goal

pub returns : goal.returns
returns c =
    let line = c.in_ok-arguments.ensures in
    let same : c.as_slice.result.now ≡ c.in_ok-arguments.field-0.arguments.items = cc in
    record {
      line = line.items;
      spelled = line.spelled;
      are_items = line.are_items;
      are_arguments = sym line.argued ∙ ap (map (λ word. word.now)) (sym same)
          ∙ arguments_are c.as_slice.result.now _ _ c.in-len5.len_at_least c.in-len5.len_below c.in-Some.ensures;
      are_options = line.are_options;
    }
