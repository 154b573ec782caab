use Rattle.std.proofs.Common.{IfSome, MatchOption, None, Option, Some, rules}
use Rattle.std.proofs.lemmas.Str.Pattern.{split_parts}
use Rattle.rinqebo_request.proofs.words.cut_at_colon.Goals as goal

first_of : {A : Type 0} (P : Type 0) (Q R : A → Type 0) (r : Option A) → MatchOption r P (λ x. Q x × R x) → IfSome r Q
first_of P Q R (Some x) h = h.0
first_of P Q R None h = tt

pub returns : goal.returns
returns c =
    first_of _ _ _ c.split_once.result
    (split_parts 58 c.args.text.now c.split_once.result c.split_once.ensures.cases (search rules))
