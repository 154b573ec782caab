-- Puts at two keys, and look-ups in what was laid over.
use Rattle.std.proofs.Common.{◌≡◌, ℕ, List, Option, Some, None, Ordering, Less, Equal, Greater, nat_cmp, sym, ap, ◌∙◌, refl}
use Rattle.std.proofs.lemmas.Map.Lookups.{exact_bytes}
use Rattle.std.proofs.lemmas.Cmp.{nat_list_cmp_total}
use Rattle.std.specs.Cmp.{tied_itself}
use Rattle.std.specs.Cmp.Lexicographic.{slice_cmp}
use Rattle.std.specs.Option.{option_map_or}
use Rattle.std.specs.Ordering.{match_ordering, ordering_reverse}
use Rattle.nextest_tree.specs.Node.{Node, Entries, no_entries, entry, get, put}
use Rattle.nextest_documents.specs.Merge.{over, entries_over}

abbrev pub cmp : List ℕ → List ℕ → Ordering
cmp = slice_cmp nat_cmp

pub turned : (l k : List ℕ) (o : Ordering) → cmp l k ≡ o → cmp k l ≡ ordering_reverse o
turned l k o h = nat_list_cmp_total.antisymm k l ∙ ap ordering_reverse h

commute_at : (o p : Ordering) (l k x : List ℕ) (w v d : Node) (ms : Entries) → cmp k x ≡ o → cmp l x ≡ p
    → cmp l k ≡ Less → put l w (put k v ms) ≡ put k v (put l w ms)
    → put l w (put k v (entry x d ms)) ≡ put k v (put l w (entry x d ms))
commute_at Less p l k x w v d ms ek el h ih =
    let lx : cmp l x ≡ Less = nat_list_cmp_total.trans l k x h ek in
    let kl : cmp k l ≡ Greater = turned l k Less h in
    simp (ek, lx, h, kl)
commute_at Equal p l k x w v d ms ek el h ih =
    let xk : cmp x k ≡ Equal = turned k x Equal ek in
    let xl : cmp x l ≡ Greater = nat_list_cmp_total.congr x k l xk ∙ turned l k Less h in
    let lx : cmp l x ≡ Less = turned x l Greater xl in
    let kl : cmp k l ≡ Greater = turned l k Less h in
    simp (ek, lx, h, kl)
commute_at Greater Less l k x w v d ms ek el h ih =
    let kl : cmp k l ≡ Greater = turned l k Less h in
    simp (ek, el, h, kl)
commute_at Greater Equal l k x w v d ms ek el h ih = simp (ek, el)
commute_at Greater Greater l k x w v d ms ek el h ih = simp (ek, el) (ap (entry x d) ih)

-- puts at two keys in either order
pub commute : (l k : List ℕ) (w v : Node) (ms : Entries) → cmp l k ≡ Less → put l w (put k v ms) ≡ put k v (put l w ms)
commute l k w v no_entries h =
    let kl : cmp k l ≡ Greater = turned l k Less h in
    simp (h, kl)
commute l k w v (entry x d ms) h = commute_at (cmp k x) (cmp l x) l k x w v d ms refl refl h (commute l k w v ms h)

same_at : (o : Ordering) (k x : List ℕ) (d e : Node) (ms : Entries) → cmp k x ≡ o
    → get k (put k d ms) ≡ Some d → get k (put k d (entry x e ms)) ≡ Some d
same_at Less k x d e ms is ih = simp (is, tied_itself nat_list_cmp_total k)
same_at Equal k x d e ms is ih = simp is
same_at Greater k x d e ms is ih = simp is ih

-- what a key has after a put there
pub get-put_same : (k : List ℕ) (d : Node) (ms : Entries) → get k (put k d ms) ≡ Some d
get-put_same k d no_entries = simp (tied_itself nat_list_cmp_total k)
get-put_same k d (entry x e ms) = same_at (cmp k x) k x d e ms refl (get-put_same k d ms)

other_at : (o p r : Ordering) (q k x : List ℕ) (d e : Node) (ms : Entries) → cmp k x ≡ o → cmp q x ≡ p
    → cmp q k ≡ r → (r ≡ Equal → ⊥) → get q (put k d ms) ≡ get q ms
    → get q (put k d (entry x e ms)) ≡ get q (entry x e ms)
other_at o p Equal q k x d e ms ek eq er ne ih = absurd (ne refl)
other_at Less p Less q k x d e ms ek eq er ne ih = simp (ek, er)
other_at Less p Greater q k x d e ms ek eq er ne ih = simp (ek, er)
other_at Equal Less r q k x d e ms ek eq er ne ih = simp (ek, eq)
other_at Equal Greater r q k x d e ms ek eq er ne ih = simp (ek, eq)
other_at Equal Equal r q k x d e ms ek eq er ne ih =
    let xk : cmp x k ≡ Equal = turned k x Equal ek in
    let qk : cmp q k ≡ Equal = nat_list_cmp_total.congr q x k eq ∙ xk in
    absurd (ne (sym er ∙ qk))
other_at Greater Less r q k x d e ms ek eq er ne ih = simp (ek, eq) ih
other_at Greater Equal r q k x d e ms ek eq er ne ih = simp (ek, eq)
other_at Greater Greater r q k x d e ms ek eq er ne ih = simp (ek, eq) ih

none_at : (o : Ordering) (d : Node) → (o ≡ Equal → ⊥) → match_ordering o None (Some d) None ≡ None
none_at Less d ne = refl
none_at Equal d ne = absurd (ne refl)
none_at Greater d ne = refl

-- what another key has after a put
pub get-put_other : (q k : List ℕ) (d : Node) (ms : Entries) → (cmp q k ≡ Equal → ⊥) → get q (put k d ms) ≡ get q ms
get-put_other q k d no_entries ne = none_at (cmp q k) d ne
get-put_other q k d (entry x e ms) ne =
    other_at (cmp k x) (cmp q x) (cmp q k) q k x d e ms refl refl refl ne (get-put_other q k d ms ne)

abbrev pub equal_text : (q k : List ℕ) → cmp q k ≡ Equal → q ≡ k
equal_text = exact_bytes

-- a higher entry over a lower one, where they are there
abbrev pub laid_over : Option Node → Option Node → Option Node
laid_over None below = below
laid_over (Some d) below = Some (option_map_or (λ lower. over d lower) below d)

over_at : (o : Ordering) (q k : List ℕ) (d : Node) (ms below : Entries) → cmp q k ≡ o
    → get q (entries_over ms below) ≡ laid_over (get q ms) (get q below)
    → get q (entries_over (entry k d ms) below) ≡ laid_over (get q (entry k d ms)) (get q below)
over_at Less q k d ms below is ih =
    simp is (get-put_other q k _ (entries_over ms below) (λ e. let no : Less ≡ Equal = sym is ∙ e in cc) ∙ ih)
over_at Greater q k d ms below is ih =
    simp is (get-put_other q k _ (entries_over ms below) (λ e. let no : Greater ≡ Equal = sym is ∙ e in cc) ∙ ih)
over_at Equal q k d ms below is ih =
    let same : q ≡ k = equal_text q k is in
    rw (is, same) (get-put_same k _ (entries_over ms below))

-- what a key has in members laid over others
pub get-entries_over : (q : List ℕ) (ms below : Entries)
    → get q (entries_over ms below) ≡ laid_over (get q ms) (get q below)
get-entries_over q no_entries below = refl
get-entries_over q (entry k d ms) below = over_at (cmp q k) q k d ms below refl (get-entries_over q ms below)

-- each key of the members is below k
abbrev pub AllBelow : List ℕ → Entries → Type 0
AllBelow k no_entries = Unit {0}
AllBelow k (entry l d ms) = (cmp l k ≡ Less) × AllBelow k ms

-- a key above all of them is not there
pub get-above : (k : List ℕ) (ms : Entries) → AllBelow k ms → get k ms ≡ None
get-above k no_entries h = refl
get-above k (entry l d ms) h =
    let kl : cmp k l ≡ Greater = turned l k Less h.0 in
    simp kl (get-above k ms h.1)

-- a entry after all the others
abbrev pub with_last : Entries → List ℕ → Node → Entries
with_last no_entries k d = entry k d no_entries
with_last (entry l e ms) k d = entry l e (with_last ms k d)

last_goes : (ms below : Entries) (k : List ℕ) (d : Node) → AllBelow k ms
    → entries_over (with_last ms k d) below
    ≡ put k (option_map_or (λ lower. over d lower) (get k below) d) (entries_over ms below)
last_goes no_entries below k d h = refl
last_goes (entry l e ms) below k d h =
    ap (λ xs. put l (option_map_or (λ lower. over e lower) (get l below) e) xs) (last_goes ms below k d h.1)
    ∙ commute l k _ _ (entries_over ms below) h.0

-- one more entry, above the others, is laid over last
pub entries_over-last : (ms below : Entries) (k : List ℕ) (d : Node) → AllBelow k ms
    → entries_over (with_last ms k d) below
    ≡ put k (option_map_or (λ lower. over d lower) (get k (entries_over ms below)) d) (entries_over ms below)
entries_over-last ms below k d h = rw (get-entries_over k ms below, get-above k ms h) (last_goes ms below k d h)
