-- Ways up from an item, along the front of a path.
use Rattle.std.proofs.Common.{◌≡◌, ◌≤◌, ◌==◌, ℕ, zero, suc, List, [], ◌∷◌, ◌++◌, length, map, take, Option, Some, None, refl, sym, ap, ◌∙◌, subst, arith}
use Rattle.std.specs.Bool.{OnTrue}
use Rattle.std.specs.List.{slice_get}
use Rattle.std.proofs.Math.Dec.{eqb-suc-zero}
use Rattle.std.proofs.lemmas.Option.{none-some, same_Some}
use Rattle.std.proofs.Math.Seq.{take-length}
use Rattle.std.proofs.lemmas.List.{length-take-le}
use Rattle.nextest_places.specs.declared.step.Step.{Step}
use Rattle.nextest_places.specs.declared.spans.item.Item.{Item}
use Rattle.nextest_places.specs.Spans.Paths.{IsEndedBy, LeadsTo, PathStep, at_root, inner_steps, path_step, through}

-- a way up from an item has come to this base, with so many steps of the path left
pub record Climbs (items : List Item) (parent : Option ℕ) (path : List Step) (base : Option ℕ) (left : ℕ) : Type 0 where
  pub within : left ≤ length path
  pub leads : LeadsTo items base (map path_step (take left path)) → LeadsTo items parent (map path_step path)

pub climbs_start : (items : List Item) (parent : Option ℕ) (path : List Step) (left : ℕ) → left ≡ length path → Climbs items parent path parent left
climbs_start items parent path left is = record {
  within = omega (arith, is);
  leads = λ l. subst (λ p. LeadsTo items parent (map path_step p)) (ap (λ n. take n path) is ∙ take-length path) l;
}

take_twice : (n m : ℕ) (path : List Step) → n ≤ m → take n (take m path) ≡ take n path
take_twice zero m path le = refl
take_twice (suc n) zero path le = absurd (omega (arith, le))
take_twice (suc n) (suc m) [] le = refl
take_twice (suc n) (suc m) (step ∷ path) le = ap (λ p. step ∷ p) (take_twice n m path (omega (arith, le)))

pub climbs_on : (items : List Item) (parent : Option ℕ) (path : List Step) (i left n : ℕ) (item : Item) (steps : List PathStep)
    → Climbs items parent path (Some i) left → slice_get items i ≡ Some item → inner_steps item.role ≡ Some steps
    → IsEndedBy (take left path) steps n → Climbs items parent path item.parent n
climbs_on items parent path i left n item steps c here inner ends =
    let size : length (take left path) ≡ left = length-take-le left path c.within in
    let le : n ≤ left = omega (arith, ends.0, size) in
    let front : map path_step (take left path) ≡ map path_step (take n path) ++ steps =
    ends.1 ∙ ap (λ p. map path_step p ++ steps) (take_twice n left path le) in
    record {
      within = omega (arith, le, c.within);
      leads = λ l. c.leads (subst (LeadsTo items (Some i)) (sym front) (through i item steps here l inner));
    }

pub climbs_end : (items : List Item) (parent : Option ℕ) (path : List Step) (left : ℕ) → Climbs items parent path None left → left ≡ 0
    → LeadsTo items parent (map path_step path)
climbs_end items parent path left c none =
    c.leads (subst (λ n. LeadsTo items None (map path_step (take n path))) (sym none) at_root)

-- a test for nothing that is left
pub on_zero : (n : ℕ) (P : Type 0) → (n ≡ 0 → P) → OnTrue (n == 0) P
on_zero zero P then = then refl
on_zero (suc n) P then = subst (λ b. OnTrue b P) (sym (eqb-suc-zero n)) tt

-- ---- the end of a path

pub ended : (path : List Step) (n : ℕ) (step : Step) → suc n ≡ length path → slice_get path n ≡ Some step → IsEndedBy path (path_step step ∷ []) n
ended [] n step size here = absurd (none-some step here)
ended (x ∷ []) zero step size here = (omega arith, ap (λ s. path_step s ∷ []) (same_Some x step here))
ended (x ∷ y ∷ path) zero step size here = absurd (omega (arith, size))
ended (x ∷ path) (suc n) step size here =
    let r = ended path n step (omega (arith, size)) here in
    (omega (arith, r.0), ap (λ ps. path_step x ∷ ps) r.1)
