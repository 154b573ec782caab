use Rattle.std.proofs.Common.{[], Bor, List, get_or, refl, subst, ℕ}
use Rattle.std.proofs.lemmas.List.{take_all}
use Rattle.std.specs.List.{AllZip}
use Rattle.rinqebo_request.specs.Requests.{IsToolNamed}
use Rattle.rinqebo_request.proofs.NamedTools.{of_texts, one_more}
use Rattle.rinqebo_request.proofs.words.tool_files.Goals as goal

pub loop-value-preserved : goal.loop-value-preserved
loop-value-preserved c =
    let none : Bor (List ℕ) = record { ref_ptr = (0, 0); now = [] } in
    one_more (λ value file. IsToolNamed value.now file) c.args.values.now c.loop-value.value-index
    (get_or c.args.values.now c.loop-value.value-index none) none c.loop-value-test.true
    refl c.loop-value.tools.items c.add_file.new.tools.items c.in_ok-file.file c.loop-value.invariant c.in_ok-file.ensures
    c.in_ok-add_file.ensures

pub returns : goal.returns
returns c =
    of_texts IsToolNamed c.args.values.now c.loop-value.tools.items
    (subst (λ named. AllZip (λ value file. IsToolNamed value.now file) named c.loop-value.tools.items)
    (take_all c.loop-value.value-index c.args.values.now c.loop-value-test.false) c.loop-value.invariant)
