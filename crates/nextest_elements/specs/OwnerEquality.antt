-- That two owners are the same is an equivalence.
use Rattle.std.specs.Prelude.{◌≡◌, true, refl}
use Rattle.std.specs.Cmp.{IsEquivalence}
use Rattle.std.proofs.lemmas.Bool.{false≢true}
use Rattle.std.specs.Cmp.Lexicographic.{nat_list_eq_equiv}
use Rattle.nextest_elements.specs.Owner.{Owner, nobody, the_organisation, a_tool, is_same_owner}
use Rattle.nextest_elements.specs.OwnerView.{owner_view}
use Rattle.nextest_elements.specs.declared.identifier.owner.IdentifierOwner.{IdentifierOwner}

itself : (a : Owner) → is_same_owner a a ≡ true
itself nobody = refl
itself the_organisation = refl
itself (a_tool s) = nat_list_eq_equiv.refl s

turned : (a b : Owner) → is_same_owner a b ≡ is_same_owner b a
turned nobody nobody = refl
turned nobody the_organisation = refl
turned nobody (a_tool t) = refl
turned the_organisation nobody = refl
turned the_organisation the_organisation = refl
turned the_organisation (a_tool t) = refl
turned (a_tool s) nobody = refl
turned (a_tool s) the_organisation = refl
turned (a_tool s) (a_tool t) = nat_list_eq_equiv.symm s t

carried : (a b c : Owner) → is_same_owner a b ≡ true → is_same_owner a c ≡ is_same_owner b c
carried nobody nobody c same = refl
carried nobody the_organisation c same = absurd (false≢true same)
carried nobody (a_tool t) c same = absurd (false≢true same)
carried the_organisation nobody c same = absurd (false≢true same)
carried the_organisation the_organisation c same = refl
carried the_organisation (a_tool t) c same = absurd (false≢true same)
carried (a_tool s) nobody c same = absurd (false≢true same)
carried (a_tool s) the_organisation c same = absurd (false≢true same)
carried (a_tool s) (a_tool t) nobody same = refl
carried (a_tool s) (a_tool t) the_organisation same = refl
carried (a_tool s) (a_tool t) (a_tool u) same = nat_list_eq_equiv.congr s t u same

-- to be the same owner is an equivalence
pub owner_equiv : IsEquivalence {K = IdentifierOwner}
    (λ a b. is_same_owner (owner_view a) (owner_view b))
owner_equiv = record {
  refl = λ a. itself (owner_view a);
  symm = λ a b. turned (owner_view a) (owner_view b);
  congr = λ a b c. carried (owner_view a) (owner_view b) (owner_view c);
}
