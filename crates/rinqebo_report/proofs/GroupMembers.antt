-- Lists of groups, of which one gets a member more.
use Rattle.std.proofs.Common.{ℕ, zero, suc, ◌<◌, List, [], ◌∷◌, ◌++◌, map, length, get_or, slice_set, ◌≡◌, ap, arith}
use Rattle.rinqebo_report.specs.Groups.{with_member}

module _ {V A : Type 0} (view : V → List A) (x : A) (new : V) where
  -- a member more in the group at an index
  pub member_at : (groups : List V) (n : ℕ) (d : V) → n < length groups
      → view new ≡ view (get_or groups n d) ++ x ∷ []
      → map view (slice_set groups n new) ≡ with_member (map view groups) n x
  member_at [] n d lt is = absurd (omega arith)
  member_at (g ∷ gs) zero d lt is = ap (λ h. h ∷ map view gs) is
  member_at (g ∷ gs) (suc n) d lt is =
      ap (λ hs. view g ∷ hs) (member_at gs n d (omega arith) is)

  -- a group more, with one member
  pub member_behind : (groups : List V) (empty : V) → view new ≡ x ∷ []
      → map view (slice_set (groups ++ empty ∷ []) (length groups) new)
      ≡ with_member (map view groups) (length groups) x
  member_behind [] empty is = ap (λ h. h ∷ []) is
  member_behind (g ∷ gs) empty is = ap (λ hs. view g ∷ hs) (member_behind gs empty is)
