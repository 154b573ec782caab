use Rattle.std.proofs.Common.{◌≡◌, sym, ◌∙◌, ⊎_elim, ltb-true}
use Rattle.regex_hir.specs.Meaning.{meaning}
use Rattle.filter_engine.specs.Globs.{IsGlob}
use Rattle.filter_engine.specs.declared.glob.fault.RowFault.TheVariants.{Malformed, Memory}
use Rattle.filter_engine.proofs.GlobMachines.{glob_ends, glob_machine, glob_of, refused_glob}
use Rattle.filter_engine.proofs.glob.compile.Goals as goal

pub returns-in-Err-Malformed-clause-malformed : goal.returns-in-Err-Malformed-clause-malformed
returns-in-Err-Malformed-clause-malformed c = λ _ (is : IsGlob c.args.text.now).
    ⊎_elim
    (λ (memory : c.in-Err-Malformed.field-0 ≡ Memory).
    absurd (let clash : Malformed ≡ Memory = sym c.in-Err-Malformed.field-0-is ∙ memory in cc))
    (λ (none : IsGlob c.args.text.now → ⊥). none is)
    (refused_glob c.args.text.now c.in-Err-Malformed.field-0
    (rw c.as_bytes.ensures.value at c.in-Err-Malformed.ensures.refused))

pub returns-then-is_large-clause-large : goal.returns-then-is_large-clause-large
returns-then-is_large-clause-large c = λ _.
    let ends = rw c.as_bytes.ensures.value at c.in-Ok.ensures.ends in (
      glob_of c.args.text.now c.in-Ok.read.0.items _
          (rw c.as_bytes.ensures.value at c.in-Ok.ensures.row) (glob_ends _ ends.1),
      ltb-true _ _ (sym c.is_large.ensures ∙ c.if-is_large.true),
    )

pub returns-clause-machine : goal.returns-clause-machine
returns-clause-machine c =
    let ends = rw c.as_bytes.ensures.value at c.in-Ok.ensures.ends in
    glob_machine c.args.text.now c.in-Ok.read.0.items _ c.in_ok-machine.machine.nfa
    (meaning c.in_ok-whole_pattern.field-0)
    (rw c.as_bytes.ensures.value at c.in-Ok.ensures.row) (glob_ends _ ends.1)
    c.in_ok-whole_pattern.ensures c.in_ok-machine.ensures

pub returns-clause-written : goal.returns-clause-written
returns-clause-written c =
    let ends = rw c.as_bytes.ensures.value at c.in-Ok.ensures.ends in
    glob_of c.args.text.now c.in-Ok.read.0.items _
    (rw c.as_bytes.ensures.value at c.in-Ok.ensures.row) (glob_ends _ ends.1)
