use Rattle.std.proofs.Common.{◌∙◌, ap, option_map, subst, sym}
use Rattle.std.proofs.lemmas.Result.{IfOk-weaker}
use Rattle.rinqebo_request.specs.Lines.{line_of}
use Rattle.rinqebo_request.specs.Requests.{IsDenialBy}
use Rattle.rinqebo_request.proofs.check_words.denies_warnings.Goals as goal

pub returns-in-Some : goal.returns-in-Some
returns-in-Some c =
    IfOk-weaker c.denied_by.result _ _
    (λ is_denied is. subst (λ word. IsDenialBy (line_of c.args.matches.now) word is_denied)
    (sym (ap (option_map (λ t. t.now)) c.in-Some.is) ∙ c.value.ensures) is)
    c.denied_by.ensures

pub returns-in-None : goal.returns-in-None
returns-in-None c =
    subst (λ word. IsDenialBy (line_of c.args.matches.now) word c.is_on.result)
    (sym (ap (option_map (λ t. t.now)) c.in-None.is) ∙ c.value.ensures) c.is_on.ensures
