use Rattle.std.proofs.Common.{◌≡◌, ◌∙◌, None, Some, ap, codes, option_map, subst, sym}
use Rattle.rinqebo_request.specs.Lines.{line_of, value_at}
use Rattle.rinqebo_request.specs.Requests.{IsCheckBy}
use Rattle.rinqebo_request.specs.declared.request.Command.TheVariants as commands
use Rattle.rinqebo_request.proofs.check_words.check_command.Goals as goal

pub returns-in-Some : goal.returns-in-Some
returns-in-Some c =
    let line = line_of c.args.matches.now in
    let some : Some c.in-Some.word.now ≡ value_at (codes "explain") line =
    sym (ap (option_map (λ t. t.now)) c.in-Some.is) ∙ c.value.ensures in
    subst (λ word. IsCheckBy c.args.environment.now line word (commands.CodePage c.in_ok-code_named.field-0)) some
    c.in_ok-code_named.ensures.ok

pub returns-then-is_on : goal.returns-then-is_on
returns-then-is_on c =
    let line = line_of c.args.matches.now in
    let none : None ≡ value_at (codes "explain") line =
    sym (ap (option_map (λ t. t.now)) c.in_default.is) ∙ c.value.ensures in
    subst (λ word. IsCheckBy c.args.environment.now line word commands.Codes) none (c.is_on.result, c.is_on.ensures, c.if-is_on.true)

pub returns : goal.returns
returns c =
    let line = line_of c.args.matches.now in
    let none : None ≡ value_at (codes "explain") line =
    sym (ap (option_map (λ t. t.now)) c.in_default.is) ∙ c.value.ensures in
    subst (λ word. IsCheckBy c.args.environment.now line word (commands.Answer c.in_ok-request.request)) none
    (c.is_on.result, c.is_on.ensures, c.if-is_on.false, c.in_ok-request.ensures)
