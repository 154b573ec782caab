-- A path that is there by some lines is there by more lines, where these are a document.
use Rattle.std.proofs.Common.{◌≡◌, ℕ, zero, suc, ◌≤◌, Bool, true, false, ◌==◌, List, [], ◌∷◌, ◌++◌, length, Option, Some, None, refl, ap, inl, inr, arith, eqb-true}
use Rattle.std.proofs.lemmas.Bool.{cases_Bool, false≢true}
use Rattle.std.specs.Option.{option_map_or}
use Rattle.toml.proofs.OnLiterals.{toml_on_literals}
use Rattle.nextest_tree.specs.Node.{Node, table, no_entries}
use Rattle.nextest_documents.specs.Text.{tree_of}
use Rattle.nextest_places.specs.Lines.{first_lines}
use Rattle.nextest_places.specs.declared.step.Step.{Step}
use Rattle.nextest_places.specs.declared.step.Step.TheVariants.{Key, Position}
use Rattle.nextest_places.specs.Path.{has_path}
use Rattle.nextest_places.specs.Place.{is_there_by, text_has}
use Rattle.nextest_places.proofs.Nodes.{longer_keep}

-- how fewer lines relate to more
data Begins : List ℕ → List ℕ → Type 0 where
  empty : (y : List ℕ) → Begins [] y
  whole : (x : List ℕ) → Begins x x
  lines : (text more : List ℕ) → Begins (text ++ 10 ∷ []) (text ++ 10 ∷ more)

after_newline : (c : ℕ) (x y : List ℕ) → c ≡ 10 → Begins x y → Begins (c ∷ x) (c ∷ y)
after_newline c x y lf (empty z) = rw lf (lines [] z)
after_newline c x y lf (whole z) = whole (c ∷ z)
after_newline c x y lf (lines text more) = lines (c ∷ text) more

after_byte : (c : ℕ) (x y : List ℕ) → (x ≡ [] → y ≡ []) → Begins x y → Begins (c ∷ x) (c ∷ y)
after_byte c x y none (empty z) = rw (none refl) (whole (c ∷ []))
after_byte c x y none (whole z) = whole (c ∷ z)
after_byte c x y none (lines text more) = lines (c ∷ text) more

no_lines : (m n : ℕ) (cs : List ℕ) → first_lines (suc m) cs ≡ [] → first_lines (suc n) cs ≡ []
no_lines m n [] e = refl
no_lines m n (c ∷ cs) e = absurd (omega (arith, ap length e))

begins : (text : List ℕ) (m n : ℕ) → m ≤ n → Begins (first_lines m text) (first_lines n text)
begins text zero n h = empty _
begins [] (suc m) n h = empty _
begins (c ∷ cs) (suc m) zero h = absurd (omega arith)
begins (c ∷ cs) (suc m) (suc n) h =
    elim (cases_Bool (c == 10)) [
      | inl lf ↦ rw lf (after_newline c _ _ (eqb-true c 10 lf) (begins cs m n (omega arith)))
      | inr other ↦ rw other (after_byte c _ _ (no_lines m n cs) (begins cs (suc m) (suc n) h))
    ]

-- the empty document has the root alone
root_alone : (path : List Step) (document : Node) → has_path path (table no_entries) ≡ true
    → has_path path document ≡ true
root_alone [] document h = refl
root_alone (Key k ∷ path) document h = absurd (false≢true h)
root_alone (Position i ∷ path) document h = absurd (false≢true h)

pub in_empty : (path : List Step) → text_has path [] ≡ has_path path (table no_entries)
unfolding toml_on_literals
in_empty path = refl

some_document : (o : Option Node) (test : Node → Bool) → option_map_or test o false ≡ true
    → (n : Node) × (o ≡ Some n) × (test n ≡ true)
some_document None test h = absurd (false≢true h)
some_document (Some n) test h = (n, refl, h)

text_keeps : (path : List Step) (x y : List ℕ) (document : Node) → Begins x y → text_has path x ≡ true
    → tree_of y ≡ Some document → has_path path document ≡ true
text_keeps path x y document (empty z) h is = root_alone path document (rw (in_empty path) at h)
text_keeps path x y document (whole z) h is = rw is at h
text_keeps path x y document (lines text more) h is =
    let (short, one, there) = some_document (tree_of (text ++ 10 ∷ [])) (has_path path) h in
    longer_keep text more short document path one is there

-- the law, of the first lines of a text
pub there_later : (path : List Step) (text : List ℕ) (document : Node) (m n : ℕ) → m ≤ n
    → is_there_by path text m ≡ true → tree_of (first_lines n text) ≡ Some document
    → has_path path document ≡ true
there_later path text document m n h there is =
    text_keeps path (first_lines m text) (first_lines n text) document (begins text m n h) there is
