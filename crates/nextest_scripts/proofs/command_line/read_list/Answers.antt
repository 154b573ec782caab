use Rattle.std.proofs.Common.{◌∙◌, refl}
use Rattle.std.proofs.lemmas.Result.{err_from_is_err_and}
use Rattle.nextest_scripts.proofs.CommandLines.{list_empty, list_first, list_reading}
use Rattle.nextest_scripts.proofs.command_line.read_list.Goals as goal

pub returns-in_err-words-clause-reads : goal.returns-in_err-words-clause-reads
returns-in_err-words-clause-reads c =
    let p = err_from_is_err_and c.from_residual.result c.from_residual.ensures.1 in
    rw (p.1, p.2)
    (λ f told. list_reading _ _ c.requires ∙ rw (c.in_err-words.ensures.reads f told) refl)

pub returns-in-Some-clause-reads : goal.returns-in-Some-clause-reads
returns-in-Some-clause-reads c =
    let first = list_first _ _ _ _ c.requires c.in_ok-words.ensures.value c.in-Some.ensures in
    list_reading _ _ c.requires ∙ rw (c.in_ok-words.ensures.reads, first) refl

pub returns-in-None-clause-reads : goal.returns-in-None-clause-reads
returns-in-None-clause-reads c f told =
    let refused = c.fault.ensures f told in
    let none = list_empty _ _ c.requires c.in_ok-words.ensures.value c.in-None.ensures in
    list_reading _ _ c.requires ∙ rw (c.in_ok-words.ensures.reads, none) (cc)
