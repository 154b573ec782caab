-- A chain, followed name by name.
use Rattle.std.proofs.Common.{◌≡◌, ◌≢◌, ◌+◌, ◌≤◌, List, [], ◌∷◌, ◌++◌, length, refl, sym, ap, ◌∙◌, subst, arith, append_assoc, append-nil, length-append, Bor, Option, None, Some, option_map, unwrap_or}
use Rattle.std.proofs.lemmas.Cmp.{nat_list_eq_equiv}
use Rattle.std.proofs.lemmas.Map.Made.{length-le_from_is_member}
use Rattle.nextest_inheritance.specs.Names.{Name, default_name, IsIn}
use Rattle.nextest_inheritance.specs.Parents.{Parents, parent_or_default, LeadToDefault, IsChain, HasOneChain}
use Rattle.nextest_inheritance.proofs.Members.{in_member, all_at}

-- Some names of a chain, and the name after them.
pub record IsFollowed (parents : Parents) (profiles : List Name) (name : Name) (so_far : List Name)
    (next : Name) : Type 0 where
  pub rest : List Name
  pub chain : IsChain parents name (so_far ++ rest)
  pub leads : LeadToDefault parents next rest
  pub short : length (so_far ++ rest) ≤ length profiles

-- before the first name
pub follow_start : (parents : Parents) (profiles : List Name) (name : Name)
    → HasOneChain parents profiles name → IsFollowed parents profiles name [] name
follow_start parents profiles name one = record {
  rest = one.chain.one;
  chain = one.chain.fact;
  leads = one.chain.fact.leads;
  short = length-le_from_is_member nat_list_eq_equiv one.chain.one profiles one.chain.fact.distinct
      (λ q is. all_at (IsIn profiles) q one.chain.one one.members (in_member q one.chain.one is));
}

-- one name more
pub follow_step : (parents : Parents) (profiles : List Name) (name : Name) (so_far : List Name) (next : Name)
    → IsFollowed parents profiles name so_far next → next ≢ default_name
    → IsFollowed parents profiles name (so_far ++ next ∷ []) (parent_or_default parents next)
follow_step parents profiles name so_far next f other = at f.rest refl f.leads
  where
    at : (rest : List Name) → f.rest ≡ rest → LeadToDefault parents next rest
        → IsFollowed parents profiles name (so_far ++ next ∷ []) (parent_or_default parents next)
    at [] is leads = absurd (other leads)
    at (x ∷ xs) is leads =
        let same : so_far ++ f.rest ≡ (so_far ++ next ∷ []) ++ xs =
        ap (λ l. so_far ++ l) (is ∙ ap (λ v. v ∷ xs) leads.0) ∙ sym (append_assoc so_far (next ∷ []) xs) in
        let P : List Name → Type 0 = IsChain parents name in
        let Q : List Name → Type 0 = λ l. length l ≤ length profiles in record {
          rest = xs;
          chain = subst P same f.chain;
          leads = leads.2;
          short = subst Q same f.short;
        }

-- there are profiles left while it goes on
pub follow_short : (parents : Parents) (profiles : List Name) (name : Name) (so_far : List Name) (next : Name)
    → IsFollowed parents profiles name so_far next → next ≢ default_name → length so_far + 1 ≤ length profiles
follow_short parents profiles name so_far next f other = at f.rest f.leads f.short
  where
    at : (rest : List Name) → LeadToDefault parents next rest → length (so_far ++ rest) ≤ length profiles
        → length so_far + 1 ≤ length profiles
    at [] leads short = absurd (other leads)
    at (x ∷ xs) leads short = omega (arith, length-append so_far (x ∷ xs))

-- at `default` the chain is whole
pub follow_end : (parents : Parents) (profiles : List Name) (name : Name) (so_far : List Name) (next : Name)
    → IsFollowed parents profiles name so_far next → next ≡ default_name → IsChain parents name so_far
follow_end parents profiles name so_far next f same = at f.rest f.leads f.chain
  where
    at : (rest : List Name) → LeadToDefault parents next rest → IsChain parents name (so_far ++ rest)
        → IsChain parents name so_far
    at [] leads chain = let P : List Name → Type 0 = IsChain parents name in subst P (append-nil so_far) chain
    at (x ∷ xs) leads chain = absurd (leads.1 same)

-- the parent, or `default`
pub unwrap_seen : (o : Option (Bor Name)) (other : Bor Name)
    → (unwrap_or o other).now ≡ unwrap_or (option_map (λ name. name.now) o) other.now
unwrap_seen None other = refl
unwrap_seen (Some name) other = refl
