use Rattle.std.proofs.Common.{◌∙◌, ◌∷◌, [], ◌++◌, ℕ, List, ap, codes, subst, sym}
use Rattle.nextest_explain.specs.Taking.{TakesOption}
use Rattle.nextest_explain.proofs.options.Options.add_tool_file.Goals as goal

pub returns : goal.returns
returns c =
    let path = c.in-Some.path.now in
    let named = ap (λ (tool : List ℕ). tool ++ 58 ∷ path) c.in_ok-tool.ensures.text ∙ sym c.in-Some.ensures in
    subst (λ (value : List ℕ). TakesOption (codes "--tool-config-file" ∷ value ∷ []) c.args.self.now
    c.push_tool_file.new.self) named c.in_ok-push_tool_file.ensures
