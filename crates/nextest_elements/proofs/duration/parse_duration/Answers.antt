-- The text `0`, a text that is refused, and a text whose items are read: each answer is that of the
-- function, and the law of the function says the rest.
use Rattle.std.proofs.Common.{◌≡◌, ◌∙◌, sym, ap}
use Rattle.std.specs.Prelude.{Some, None, Err, codes}
use Rattle.std.proofs.lemmas.Slice.Eq.{bytes_eq-Decides}
use Rattle.std.proofs.lemmas.Result.{err_from_is_err_and}
use Rattle.nextest_elements.specs.DurationFunction.{duration_of, duration_result, some_sum_of, words_of}
use Rattle.nextest_elements.proofs.DurationGrammar.{answers, grammar, duration_of-words, duration_of-zero, ok_or-within_limit}
use Rattle.nextest_elements.proofs.duration.parse_duration.Goals as goal
use Rattle.nextest_elements.proofs.duration.parse_duration.Goals.{After-from_residual}

pub returns-then-eq-clause-value : goal.returns-then-eq-clause-value
returns-then-eq-clause-value c =
    let zero = (bytes_eq-Decides c.args.text.now (codes "0")).0 (sym c.eq.ensures ∙ c.if-eq.true) in
    ap duration_result (sym (duration_of-zero c.args.text.now zero))

pub returns-then-eq-clause-grammar : goal.returns-then-eq-clause-grammar
returns-then-eq-clause-grammar c = grammar c.args.text.now

refused : (c : After-from_residual) → duration_of c.args.text.now ≡ None
refused c =
    duration_of-words c.args.text.now (sym c.eq.ensures ∙ c.if-eq.false)
    ∙ ap (λ text. some_sum_of (words_of text)) (sym c.as_bytes.ensures.value)
    ∙ c.in_err-read_items.ensures.1

refused_value : (c : After-from_residual) → c.from_residual.result ≡ duration_result None
refused_value c =
    let p = err_from_is_err_and c.from_residual.result c.from_residual.ensures.1 in
    p.1 ∙ ap Err (p.2 ∙ c.in_err-read_items.ensures.0)

pub returns-in_err-read_items-clause-malformed : goal.returns-in_err-read_items-clause-malformed
returns-in_err-read_items-clause-malformed c =
    (answers c.args.text.now c.from_residual.result None (refused c) (refused_value c)).malformed

pub returns-in_err-read_items-clause-value : goal.returns-in_err-read_items-clause-value
returns-in_err-read_items-clause-value c = refused_value c ∙ ap duration_result (sym (refused c))

pub returns-in_err-read_items-clause-grammar : goal.returns-in_err-read_items-clause-grammar
returns-in_err-read_items-clause-grammar c = grammar c.args.text.now

pub returns : goal.returns
returns c =
    let text = c.args.text.now in
    let sum = c.in_ok-read_items.ensures in
    let found : duration_of text ≡ Some sum.0 =
    duration_of-words text (sym c.eq.ensures ∙ c.if-eq.false)
    ∙ ap (λ t. some_sum_of (words_of t)) (sym c.as_bytes.ensures.value) ∙ sum.2 in
    let value : c.ok_or.result ≡ duration_result (Some sum.0) =
    c.ok_or.ensures.value ∙ ok_or-within_limit sum.0 _ sum.1 in
    let told = answers text c.ok_or.result (Some sum.0) found value in
    record {
      read = told.read;
      out_of_range = told.out_of_range;
      malformed = told.malformed;
      value =
          value ∙ ap duration_result (sym found);
      grammar = grammar text;
    }
