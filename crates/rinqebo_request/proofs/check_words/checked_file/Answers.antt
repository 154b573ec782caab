use Rattle.std.proofs.Common.{◌≡◌, ◌∙◌, None, Some, ap, codes, option_map, subst, sym}
use Rattle.std.proofs.lemmas.Result.{IfOk-weaker}
use Rattle.rinqebo_request.specs.Lines.{line_of, value_at}
use Rattle.rinqebo_request.specs.Requests.{IsCheckedBy}
use Rattle.rinqebo_request.proofs.check_words.checked_file.Goals as goal

pub returns-in-Some : goal.returns-in-Some
returns-in-Some c =
    let line = line_of c.args.matches.now in
    let some : Some c.in-Some.path.now ≡ value_at (codes "FILE") line =
    sym (ap (option_map (λ t. t.now)) c.in-Some.is) ∙ c.value.ensures in
    IfOk-weaker c.file_named.result _ _
    (λ file is. subst (λ path. IsCheckedBy line path (value_at (codes "stdin-path") line) file) some
    (subst (λ shown. IsCheckedBy line (Some c.in-Some.path.now) shown file) c.value-shown.ensures is))
    c.file_named.ensures

pub returns-in-None : goal.returns-in-None
returns-in-None c =
    let line = line_of c.args.matches.now in
    let none : None ≡ value_at (codes "FILE") line =
    sym (ap (option_map (λ t. t.now)) c.in-None.is) ∙ c.value.ensures in
    IfOk-weaker c.file_unnamed.result _ _
    (λ file is. subst (λ path. IsCheckedBy line path (value_at (codes "stdin-path") line) file) none
    (subst (λ shown. IsCheckedBy line None shown file) c.value-shown.ensures is))
    c.file_unnamed.ensures
