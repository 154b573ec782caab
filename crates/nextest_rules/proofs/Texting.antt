-- A default filter beside its text, by what it means.
use Rattle.std.proofs.Common.{◌≡◌, ℕ, List, Option, None, Some, option_map, refl}
use Rattle.nextest_rules.specs.Meaning.{written_meaning}
use Rattle.nextest_rules.specs.Rules.{with_text}

-- the text stays beside what is meant
pub text_kept : {E M : Type 0} (f : E → M) (expr : Option E) (text : Option (List ℕ))
    → option_map (written_meaning f) (with_text expr text) ≡ with_text (option_map f expr) text
text_kept f expr None = refl
text_kept f None (Some t) = refl
text_kept f (Some e) (Some t) = refl
