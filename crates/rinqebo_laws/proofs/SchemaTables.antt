-- The schemas of tables are valid of what their forms accept.
use Rattle.std.proofs.Common.{◌≡◌, ◌↔◌, ℕ, Bool, true, false, not, cond, filter, IsFalse, IsSome, IfSome, map, List, [], ◌∷◌, Option, Some, None, Ordering, Less, Equal, Greater, nat_cmp, refl, sym, ap, ◌∙◌}
use Rattle.std.proofs.lemmas.Bool.{false≢true}
use Rattle.std.proofs.lemmas.Cmp.{nat_list_cmp_total}
use Rattle.std.proofs.lemmas.Map.Lookups.{exact_bytes}
use Rattle.std.specs.Cmp.{tied_itself}
use Rattle.std.specs.Cmp.Lexicographic.{slice_cmp}
use Rattle.std.specs.Ordering.{match_ordering}
use Rattle.nextest_tree.specs.declared.key.Key.{Key}
use Rattle.nextest_tree.specs.Key.{key_text}
use Rattle.nextest_tree.specs.Node.{Node, Entries, no_entries, entry, get, keys}
use Rattle.nextest_tree.specs.Schema.{is_one_of}
use Rattle.nextest_shape.specs.Accepts.{MeetsAt, HasNoOthers}
use Rattle.rinqebo_laws.specs.Validation.{EachProperty}

-- ---- no other keys

-- each name of a table passes the test
abbrev AllPass : (List ℕ → Bool) → Entries → Type 0
AllPass t es = (name : List ℕ) → (v : Node) → get name es ≡ Some v → t name ≡ true

passes : (b : Bool) (x : List ℕ) (xs : List (List ℕ)) → cond (not b) (x ∷ xs) xs ≡ [] → (b ≡ true) × (xs ≡ [])
passes true x xs h = (refl, h)
passes false x xs h = cc

all_pass : (t : List ℕ → Bool) (es : Entries) → filter (λ k. not (t k)) (keys es) ≡ [] → AllPass t es
all_pass t no_entries h name v there = cc
all_pass t (entry l n es) h name v there =
    let parts = passes (t l) l (filter (λ k. not (t k)) (keys es)) h in
    by_order (slice_cmp nat_cmp name l) refl there parts.0 (all_pass t es parts.1 name v)
  where
    by_order : (o : Ordering) → slice_cmp nat_cmp name l ≡ o
        → match_ordering o (get name es) (Some n) (get name es) ≡ Some v → t l ≡ true
        → (get name es ≡ Some v → t name ≡ true) → t name ≡ true
    by_order Less is found here more = more found
    by_order Equal is found here more = ap t (exact_bytes name l is) ∙ here
    by_order Greater is found here more = more found

-- what is in a table is in it with one more entry
still_there : (l name : List ℕ) (n v : Node) (es : Entries) → get name es ≡ Some v
    → (w : Node) × (get name (entry l n es) ≡ Some w)
still_there l name n v es there = by_order (slice_cmp nat_cmp name l)
  where
    by_order : (o : Ordering) → (w : Node) × (match_ordering o (get name es) (Some n) (get name es) ≡ Some w)
    by_order Less = (v, there)
    by_order Equal = (n, refl)
    by_order Greater = (v, there)

none_left : (t : List ℕ → Bool) (es : Entries) → AllPass t es → filter (λ k. not (t k)) (keys es) ≡ []
none_left t no_entries all = refl
none_left t (entry l n es) all =
    let first : get l (entry l n es) ≡ Some n =
    ap (λ o. match_ordering o (get l es) (Some n) (get l es)) (tied_itself nat_list_cmp_total l) in
    let here : t l ≡ true = all l n first in
    let rest : filter (λ k. not (t k)) (keys es) ≡ [] = none_left t es (λ name v there.
    let found = still_there l name n v es there in all name found.0 found.1) in
    ap (λ b. cond (not b) (l ∷ filter (λ k. not (t k)) (keys es)) (filter (λ k. not (t k)) (keys es))) here ∙ rest

not_false : (b : Bool) → (b ≡ false → ⊥) → b ≡ true
not_false true h = refl
not_false false h = absurd (h refl)

-- a table has no keys but these where no property has another name
pub others_same : (t : List ℕ → Bool) (known : List Key) (es : Entries)
    → ((name : List ℕ) → t name ≡ is_one_of (map key_text known) name)
    → (EachProperty (λ name value. IsFalse (t name) → ⊥) es ↔ HasNoOthers known es)
others_same t known es same = (
  λ h. none_left (is_one_of (map key_text known)) es (λ name v there.
      sym (same name) ∙ not_false (t name) (h name v there)),
  λ h. λ name v there no.
      let yes : t name ≡ true = same name ∙ all_pass (is_one_of (map key_text known)) es h name v there in
      false≢true (sym no ∙ yes),
)

-- ---- what is at a key

pub required_same : (V A : Node → Type 0) → ((v : Node) → V v ↔ A v) → (o : Option Node)
    → ((IsSome o × IfSome o V) ↔ MeetsAt true A o)
required_same V A same None = (λ h. absurd (false≢true h.0), λ h. absurd (false≢true (sym h)))
required_same V A same (Some n) = (λ h. (same n).0 h.1, λ h. (refl, (same n).1 h))

pub optional_same : (V A : Node → Type 0) → ((v : Node) → V v ↔ A v) → (o : Option Node)
    → (IfSome o V ↔ MeetsAt false A o)
optional_same V A same None = (λ h. refl, λ h. tt)
optional_same V A same (Some n) = same n
