use Rattle.std.proofs.Common.{◌∙◌, ◌++◌, ◌∷◌, ap, sym}
use Rattle.rinqebo_request.proofs.words.tool_file.Goals as goal

pub returns-in_ok-tool_name-in-Some : goal.returns-in_ok-tool_name-in-Some
returns-in_ok-tool_name-in-Some c =
    record {
      written = c.in-Some.ensures.0 ∙ ap (λ name. name ++ 58 ∷ c.in-Some.path.now) (sym c.in_ok-tool_name-in-Some.ensures.ok);
      some = c.in-Some.ensures.1;
    }
