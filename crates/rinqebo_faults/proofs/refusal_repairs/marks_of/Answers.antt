-- One mark more is in the set.
use Rattle.std.proofs.Common.{◌≡◌, ◌∙◌, ◌+◌, ◌||◌, Bool, true, false, cond, drop, refl, sym, ap, string_bytes}
use Rattle.std.specs.Prelude.{codes}
use Rattle.std.specs.BTreeSet.{contains_text}
use Rattle.std.specs.List.{list_any}
use Rattle.std.specs.Str.{bytes_eq}
use Rattle.std.proofs.lemmas.List.{at_drop_all, at_drop_more}
use Rattle.nextest_elements.specs.TestGroup.{custom_group_text}
use Rattle.rinqebo_faults.specs.Repairs.{names_group, naming_mark}
use Rattle.rinqebo_faults.proofs.MarkSets.{none_in, one_more}
use Rattle.rinqebo_faults.proofs.refusal_repairs.marks_of.Goals as goal

moved : (b o r : Bool) → (cond b true o || r) ≡ (o || (b || r))
moved true true r = refl
moved true false r = refl
moved false true r = refl
moved false false r = refl

no_other : (b : Bool) → b ≡ (b || false)
no_other true = refl
no_other false = refl

pub loop-error-init : goal.loop-error-init
loop-error-init c = λ mark.
    ap (λ b. b || list_any (names_group mark) c.args.errors.now)
    (none_in c.new-marks.result c.new-marks.ensures.empty mark)

pub loop-error-preserved : goal.loop-error-preserved
loop-error-preserved c = λ mark.
    let l = c.loop-error in
    let errors = c.args.errors.now in
    let error = c.error-item.result in
    let text = naming_mark (string_bytes error.profile_name) (codes "test-group") (custom_group_text error.name) in
    let rest = list_any (names_group mark) (drop (l.error-index + 1) errors) in
    let same : string_bytes c.in_ok-mark.mark ≡ text =
    cc (c.in_ok-mark.ensures, c.in_ok-name.ensures.ok) in
    ap (λ b. b || rest) (one_more l.marks c.insert.new.self c.in_ok-mark.mark text same c.in_ok-insert.ensures.updates mark)
    ∙ moved (bytes_eq text mark) (contains_text l.marks mark) rest
    ∙ ap (λ b. contains_text l.marks mark || b)
    (sym (at_drop_more (list_any (names_group mark)) errors l.error-index error c.loop-error-test.true
    ∙ ap (λ e. names_group mark e || rest) (sym c.error-item.is)))
    ∙ l.invariant mark

pub returns : goal.returns
returns c = λ mark.
    let l = c.loop-error in
    no_other (contains_text l.marks mark)
    ∙ ap (λ b. contains_text l.marks mark || b)
    (sym (at_drop_all (list_any (names_group mark)) c.args.errors.now l.error-index c.loop-error-test.false))
    ∙ l.invariant mark
