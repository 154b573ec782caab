use Rattle.std.proofs.Common.{◌∙◌, inl, inr, refl, sym}
use Rattle.std.proofs.lemmas.Bool.{true≢false}
use Rattle.rinqebo_rules.proofs.setup_rules.known_by_setup.Goals as goal

pub returns-then-names_setup-clause-answer : goal.returns-then-names_setup-clause-answer
returns-then-names_setup-clause-answer g c = λ shown. record {
  so = sym (c.open_script_rule_holds.ensures.answer shown);
  named = λ names. refl;
  kept = λ none. refl;
}

pub returns-then-names_setup-clause-tally : goal.returns-then-names_setup-clause-tally
returns-then-names_setup-clause-tally g c = elim c.open_script_rule_holds.ensures.tally [
  | inl same ↦ inl same
  | inr w ↦ inr (
    w.0,
    record {
      names = sym c.names_setup.ensures ∙ c.if-names_setup.true;
      unknown = refl;
      hidden = w.1.1;
      asked = w.1.0;
    },
  )
]

pub returns-else-names_setup-clause-answer : goal.returns-else-names_setup-clause-answer
returns-else-names_setup-clause-answer g c = λ shown. record {
  so = tt;
  named = λ names. absurd (true≢false (sym names ∙ sym c.names_setup.ensures ∙ c.if-names_setup.false));
  kept = λ none. refl;
}

pub returns-else-names_setup-clause-tally : goal.returns-else-names_setup-clause-tally
returns-else-names_setup-clause-tally g c = inl refl
