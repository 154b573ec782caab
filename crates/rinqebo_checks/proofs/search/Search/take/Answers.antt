use Rattle.std.proofs.Common.{◌≡◌, ◌∙◌, None, Some, ap, inl, inr, refl, subst, sym}
use Rattle.rinqebo_faults.specs.Checks.{check_of}
use Rattle.rinqebo_faults.specs.declared.checks.Check.TheVariants as checks
use Rattle.rinqebo_checks.specs.Refusals.{refused_position}
use Rattle.rinqebo_checks.proofs.search.Search.take.Goals as goal

pub take_file-requires : goal.take_file-requires
take_file-requires c = record {
  at = sym (c.in-Some.ensures ∙ ap (λ layers. refused_position layers c.args.error.now) c.deref.ensures.value);
  whole = subst (λ kind. check_of kind ≡ None) c.kind.ensures (rw c.in-DuplicateToolConfigFile.is refl);
}

pub take_text-requires : goal.take_text-requires
take_text-requires c = record {
  at = sym (c.in-Some.ensures ∙ ap (λ layers. refused_position layers c.args.error.now) c.deref.ensures.value);
  whole = subst (λ kind. check_of kind ≡ None) c.kind.ensures
      (elim c.in-ReadError.is [
        | inl is ↦ rw is.1 refl
        | inr is ↦ rw is.1 refl
      ]);
}

pub take_element-requires : goal.take_element-requires
take_element-requires c = record {
  at = sym (c.in-Some.ensures ∙ ap (λ layers. refused_position layers c.args.error.now) c.deref.ensures.value);
  of_values = subst (λ kind. check_of kind ≡ Some checks.Elements) c.kind.ensures
      (rw c.in-DeserializeError.is refl);
}

pub take_check-requires : goal.take_check-requires
take_check-requires c = record {
  at = sym (c.in-Some.ensures ∙ ap (λ layers. refused_position layers c.args.error.now) c.deref.ensures.value);
}
