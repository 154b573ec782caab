-- Entries spell one list of scripts at most.
use Rattle.std.proofs.Common.{◌≡◌, ◌∙◌, List, [], ◌∷◌, sym, refl}
use Rattle.nextest_tree.specs.Node.{Node, Entries, no_entries, entry}
use Rattle.nextest_tables.specs.Scripts.{SpellByName}
use Rattle.nextest_tables.specs.Written.{Name}

-- where a node spells one script at most
module _ {X : Type 0} (P : Node → X → Type 0) (one : (n : Node) (x y : X) → P n x → P n y → x ≡ y) where
  pub same_scripts : (es : Entries) (xs ys : List (Name × X)) → SpellByName P es xs → SpellByName P es ys → xs ≡ ys
  same_scripts no_entries [] [] hx hy = refl
  same_scripts no_entries [] (y ∷ ys) hx hy = absurd hy
  same_scripts no_entries (x ∷ xs) ys hx hy = absurd hx
  same_scripts (entry k n es) [] ys hx hy = absurd hx
  same_scripts (entry k n es) (x ∷ xs) [] hx hy = absurd hy
  same_scripts (entry k n es) (x ∷ xs) (y ∷ ys) hx hy =
      λ i. ((hx.0 ∙ sym hy.0) i, one n x.1 y.1 hx.1 hy.1 i) ∷ same_scripts es xs ys hx.2 hy.2 i
