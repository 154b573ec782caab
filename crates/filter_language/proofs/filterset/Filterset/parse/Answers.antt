use Rattle.std.proofs.Common.{◌≡◌, ℕ, Bool, List, Result, Ok, Err, map, sym, ◌∙◌, ap}
use Rattle.std.specs.Result.{result_map_both}
use Rattle.nextest_engines.specs.declared.queries.FiltersetKind.{FiltersetKind}
use Rattle.filter_language.specs.declared.fault.FiltersetFault.{FiltersetFault}
use Rattle.filter_language.specs.declared.fault.Stop as stop
use Rattle.filter_language.specs.declared.fault.Stop.TheVariants.{Misread, Memory}
use Rattle.filter_language.specs.Filters.{marks_in, fault_in, refusal_at, filter_in}
use Rattle.filter_language.specs.Grammar.{Mark, mark_view}
use Rattle.filter_language.specs.Places.{misreading_view, IfMisread, IfRefused}
use Rattle.filter_language.specs.Predicates.{Compiler}
use Rattle.filter_language.specs.Writing.{IsNoFilter}
use Rattle.filter_language.proofs.Depths.{filters_close}
use Rattle.filter_language.proofs.Writings.{filter_is_read, read_is_filter}
use Rattle.filter_language.proofs.filterset.Filterset.parse.Goals as goal

refused_is : {L : Type 0} (compiler : Compiler L) (knows : Bool) (kind : FiltersetKind) (text : List ℕ) (s : stop.Stop)
    → IfMisread s (λ m. marks_in compiler knows kind text ≡ Err m)
    → IfRefused (refusal_at text s) (λ refusal. filter_in compiler knows kind text ≡ Err refusal)
refused_is {L} compiler knows kind text (Misread m) wrong =
    ap (result_map_both (λ (marks : List (Mark L)). marks) (fault_in text)) wrong
refused_is compiler knows kind text Memory wrong = tt

-- A text that is refused is not a filter.
not_both : {L : Type 0} (found : Result (List (Mark L)) FiltersetFault) (marks : List (Mark L)) (fault : FiltersetFault)
    → found ≡ Ok marks → found ≡ Err fault → ⊥
not_both found marks fault ok err =
    let clash : ◌≡◌ {A = Result (List (Mark _)) FiltersetFault} (Ok marks) (Err fault) = sym ok ∙ err in cc

unwritten_is : {L : Type 0} (compiler : Compiler L) (knows : Bool) (kind : FiltersetKind) (text : List ℕ)
    (s : stop.Stop)
    → IfMisread s (λ m. marks_in compiler knows kind text ≡ Err m)
    → IfRefused (refusal_at text s) (λ _. IsNoFilter compiler knows kind text)
unwritten_is {L} compiler knows kind text (Misread m) wrong =
    λ marks is. not_both (filter_in compiler knows kind text) marks (fault_in text (misreading_view m))
    (filter_is_read compiler knows kind text marks is)
    (ap (result_map_both (λ (ms : List (Mark L)). ms) (fault_in text)) wrong)
unwritten_is compiler knows kind text Memory wrong = tt

pub new-requires : goal.new-requires
new-requires g c = filters_close g.E.Matchers.meaning c.in-Ok.marks.items c.in-Ok.ensures.ok

pub returns-in-Ok-clause-written : goal.returns-in-Ok-clause-written
returns-in-Ok-clause-written g c =
    let compiler = g.E.Matchers.compiled c.args.engine.now in
    let knows = g.E.Matchers.knows_packages c.args.engine.now in
    let marks : List (Mark g.E.Matchers.Meaning) = map (mark_view g.E.Matchers.meaning) c.in-Ok.marks.items in
    rw c.new.ensures (read_is_filter compiler knows c.args.kind c.args.text.now marks
    (ap (result_map_both (λ (ms : List (Mark g.E.Matchers.Meaning)). ms) (fault_in c.args.text.now))
    c.in-Ok.ensures.value))

pub returns-in-Err-clause-unwritten : goal.returns-in-Err-clause-unwritten
returns-in-Err-clause-unwritten g c =
    rw c.refused.ensures.value
    (unwritten_is (g.E.Matchers.compiled c.args.engine.now) (g.E.Matchers.knows_packages c.args.engine.now)
    c.args.kind c.args.text.now c.in-Err.stop c.in-Err.ensures.wrong)

pub returns-in-Err-clause-err : goal.returns-in-Err-clause-err
returns-in-Err-clause-err g c =
    rw c.refused.ensures.value
    (refused_is (g.E.Matchers.compiled c.args.engine.now) (g.E.Matchers.knows_packages c.args.engine.now)
    c.args.kind c.args.text.now c.in-Err.stop c.in-Err.ensures.wrong)
