-- Keys of a table that is laid over another one, and keys that are all known.
use Rattle.std.proofs.Common.{◌≡◌, ℕ, List, [], ◌∷◌, Bool, true, false, not, map, filter, cond, Ordering, Less, Equal, Greater, refl, subst, sym}
use Rattle.std.specs.Ordering.{match_ordering}
use Rattle.nextest_tree.specs.declared.key.Key.{Key}
use Rattle.nextest_tree.specs.Key.{key_text}
use Rattle.nextest_tree.specs.Node.{Node, Entries, no_entries, entry, put, keys}
use Rattle.nextest_tree.specs.Schema.{is_one_of, others}
use Rattle.nextest_documents.specs.Merge.{entries_over}
use Rattle.nextest_documents.proofs.Laying.{cmp, equal_text}

-- no key passes the test
abbrev pub NonePass : (List ℕ → Bool) → Entries → Type 0
NonePass t no_entries = Unit {0}
NonePass t (entry k n es) = (t k ≡ false) × NonePass t es

first_fails : {X : Type 0} (b : Bool) (x : X) (xs : List X) → cond b (x ∷ xs) xs ≡ [] → b ≡ false
first_fails true x xs h = cc
first_fails false x xs h = refl

others_fail : {X : Type 0} (b : Bool) (x : X) (xs : List X) → cond b (x ∷ xs) xs ≡ [] → xs ≡ []
others_fail true x xs h = cc
others_fail false x xs h = h

none_pass : (t : List ℕ → Bool) (es : Entries) → filter t (keys es) ≡ [] → NonePass t es
none_pass t no_entries h = tt
none_pass t (entry k n es) h =
    (first_fails (t k) k (filter t (keys es)) h, none_pass t es (others_fail (t k) k (filter t (keys es)) h))

nothing_passes : (t : List ℕ → Bool) (es : Entries) → NonePass t es → filter t (keys es) ≡ []
nothing_passes t no_entries h = refl
nothing_passes t (entry k n es) h = rw h.0 (nothing_passes t es h.1)

put_at : (o : Ordering) (t : List ℕ → Bool) (k l : List ℕ) (n m : Node) (es : Entries) → cmp k l ≡ o
    → (NonePass t (put k n es) → (t k ≡ false) × NonePass t es)
    → NonePass t (match_ordering o (entry k n (entry l m es)) (entry l n es) (entry l m (put k n es)))
    → (t k ≡ false) × NonePass t (entry l m es)
put_at Less t k l n m es is more h = h
put_at Equal t k l n m es is more h =
    let same : l ≡ k = sym (equal_text k l is) in
    (subst (λ j. t j ≡ false) same h.0, h)
put_at Greater t k l n m es is more h =
    let rest = more h.1 in
    (rest.0, (h.0, rest.1))

-- where none passes after a put, neither the key does nor one from before
put_none : (t : List ℕ → Bool) (k : List ℕ) (n : Node) (es : Entries) → NonePass t (put k n es)
    → (t k ≡ false) × NonePass t es
put_none t k n no_entries h = h
put_none t k n (entry l m es) h = put_at (cmp k l) t k l n m es refl (put_none t k n es) h

over_none : (t : List ℕ → Bool) (es ds : Entries) → NonePass t (entries_over es ds) → NonePass t es
over_none t no_entries ds h = tt
over_none t (entry k n es) ds h =
    let parts = put_none t k _ (entries_over es ds) h in
    (parts.0, over_none t es ds parts.1)

-- a table has no other keys where none stand after it was laid over another
pub no_others_over : (names : List Key) (es ds : Entries) → others names (entries_over es ds) ≡ []
    → others names es ≡ []
no_others_over names es ds h =
    let t : List ℕ → Bool = λ k. not (is_one_of (map key_text names) k) in
    nothing_passes t es (over_none t es ds (none_pass t (entries_over es ds) h))

pub map_nil : {X Y : Type 0} (f : X → Y) (xs : List X) → map f xs ≡ [] → xs ≡ []
map_nil f [] h = refl
map_nil f (x ∷ xs) h = cc
