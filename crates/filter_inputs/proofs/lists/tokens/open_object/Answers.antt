use Rattle.std.proofs.Common.{◌≡◌, ◌∷◌, ap, ◌∙◌, arith}
use Rattle.json.specs.Reads.{token_of}
use Rattle.filter_inputs.proofs.lists.ReadTokens.{object_opens}
use Rattle.filter_inputs.proofs.lists.tokens.open_object.Goals as goal

pub returns-in-BeginObject : goal.returns-in-BeginObject
returns-in-BeginObject c =
    let first : c.args.reader.now ≡ token_of c.in_ok-token.token ∷ c.next.new.self = grind arith in
    object_opens c.args.depth c.args.reader.now c.next.new.self (omega arith)
    (first ∙ ap (λ k. token_of k ∷ c.next.new.self) c.in-BeginObject.is)
