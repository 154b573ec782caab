-- What files without fault define is defined in the merged tree: no such file hides it.
use Rattle.std.proofs.Common.{◌≡◌, ◌⊎◌, inl, inr, ℕ, List, [], ◌∷◌, ◌++◌, ◌||◌, Bool, true, false, Option, None, Some, IsSome, option_and_then, unwrap_or, Ordering, Less, Equal, Greater, refl, sym}
use Rattle.std.specs.Cmp.{tied_itself}
use Rattle.std.specs.List.{AllByRecursion}
use Rattle.std.specs.Ordering.{match_ordering}
use Rattle.std.specs.Str.{bytes_eq}
use Rattle.std.proofs.lemmas.Bool.{or_cases}
use Rattle.std.proofs.lemmas.Cmp.{nat_list_cmp_total}
use Rattle.std.proofs.lemmas.Slice.Eq.{bytes_eq-Decides}
use Rattle.nextest_documents.specs.Merge.{over, merged}
use Rattle.nextest_documents.proofs.Laying.{cmp, laid_over, get-entries_over, equal_text}
use Rattle.nextest_tree.specs.Node as tree
use Rattle.nextest_tree.specs.Node.{Node, table, array, text, int, bool, opaque, Entries, no_entries, entry, get, as_table, member_of}
use Rattle.nextest_tree.specs.Schema.{is_one_of}

-- a fact of what is there; without anything it holds, or it does not
abbrev pub IfThere : (Node → Type 0) → Option Node → Type 0
IfThere P None = Unit {0}
IfThere P (Some n) = P n

abbrev pub There : (Node → Type 0) → Option Node → Type 0
There P None = ⊥
There P (Some n) = P n

abbrev pub IsTable : Node → Type 0
IsTable (table es) = Unit {0}
IsTable _ = ⊥

-- a path of keys
abbrev pub KeyPath : Type 0
KeyPath = List (List ℕ)

-- the table at a path has a key
abbrev pub HasKey : KeyPath → List ℕ → Node → Type 0
HasKey [] q n = IsSome (member_of q n)
HasKey (k ∷ path) q n = There (HasKey path q) (member_of k n)

-- tables lead along a path, as far as something is there
abbrev pub LeadsAlong : KeyPath → Node → Type 0
LeadsAlong [] n = IsTable n
LeadsAlong (k ∷ path) n = IsTable n × IfThere (LeadsAlong path) (member_of k n)

some_above : (o p : Option Node) → IsSome o → IsSome (laid_over o p)
some_above None p h = cc
some_above (Some n) p h = refl

some_below : (o p : Option Node) → IsSome p → IsSome (laid_over o p)
some_below None p h = h
some_below (Some n) p h = refl

pub some_either : (o p : Option Node) → IsSome (laid_over o p) → IsSome o ⊎ IsSome p
some_either None p h = inr h
some_either (Some n) p h = inl refl

-- two tables are united, and any other node replaces what is below
pub data Laid : Node → Node → Type 0 where
  united : {xs ys : Entries} → Laid (table xs) (table ys)
  replaced : {n m : Node} → over n m ≡ n → (IsTable n → IsTable m → ⊥) → Laid n m

pub laid : (n m : Node) → Laid n m
laid (table xs) (table ys) = united
laid (table xs) (array ns) = replaced refl (λ a b. b)
laid (table xs) (text t) = replaced refl (λ a b. b)
laid (table xs) (int z) = replaced refl (λ a b. b)
laid (table xs) (bool b) = replaced refl (λ a b. b)
laid (table xs) opaque = replaced refl (λ a b. b)
laid (array ns) m = replaced refl (λ a b. a)
laid (text t) m = replaced refl (λ a b. a)
laid (int z) m = replaced refl (λ a b. a)
laid (bool b) m = replaced refl (λ a b. a)
laid opaque m = replaced refl (λ a b. a)

some_table : (q : List ℕ) (n : Node) → IsSome (member_of q n) → IsTable n
some_table q (table es) h = tt
some_table q (array ns) h = cc
some_table q (text t) h = cc
some_table q (int z) h = cc
some_table q (bool b) h = cc
some_table q opaque h = cc

there_table : (P : Node → Type 0) (k : List ℕ) (n : Node) → There P (member_of k n) → IsTable n
there_table P k (table es) h = tt
there_table P k (array ns) h = absurd h
there_table P k (text t) h = absurd h
there_table P k (int z) h = absurd h
there_table P k (bool b) h = absurd h
there_table P k opaque h = absurd h

-- a key of the higher node
higher_end : (q : List ℕ) (n m : Node) → Laid n m → HasKey [] q n → HasKey [] q (over n m)
higher_end q n m (united {xs = xs} {ys = ys}) h = rw (get-entries_over q xs ys) (some_above (get q xs) (get q ys) h)
higher_end q n m (replaced e apart) h = rw e h

higher_at : (P : Node → Type 0) (o p : Option Node) → ((n m : Node) → P n → P (over n m)) → There P o
    → There P (laid_over o p)
higher_at P None p ih h = absurd h
higher_at P (Some n) None ih h = h
higher_at P (Some n) (Some m) ih h = ih n m h

higher_more : (k : List ℕ) (path : KeyPath) (q : List ℕ) (n m : Node) → Laid n m
    → ((x y : Node) → HasKey path q x → HasKey path q (over x y)) → HasKey (k ∷ path) q n
    → HasKey (k ∷ path) q (over n m)
higher_more k path q n m (united {xs = xs} {ys = ys}) ih h =
    rw (get-entries_over k xs ys) (higher_at (HasKey path q) (get k xs) (get k ys) ih h)
higher_more k path q n m (replaced e apart) ih h = rw e h

higher_key : (path : KeyPath) (q : List ℕ) (n m : Node) → HasKey path q n → HasKey path q (over n m)
higher_key [] q n m h = higher_end q n m (laid n m) h
higher_key (k ∷ path) q n m h = higher_more k path q n m (laid n m) (higher_key path q) h

-- a key of the lower node, where tables lead along the path in the higher one
lower_end : (q : List ℕ) (n m : Node) → Laid n m → IsTable n → HasKey [] q m → HasKey [] q (over n m)
lower_end q n m (united {xs = xs} {ys = ys}) leads h =
    rw (get-entries_over q xs ys) (some_below (get q xs) (get q ys) h)
lower_end q n m (replaced e apart) leads h = absurd (apart leads (some_table q m h))

lower_at : (P Q : Node → Type 0) (o p : Option Node) → ((n m : Node) → Q n → P m → P (over n m)) → IfThere Q o
    → There P p → There P (laid_over o p)
lower_at P Q None p ih leads h = h
lower_at P Q (Some n) None ih leads h = absurd h
lower_at P Q (Some n) (Some m) ih leads h = ih n m leads h

lower_more : (k : List ℕ) (path : KeyPath) (q : List ℕ) (n m : Node) → Laid n m
    → ((x y : Node) → LeadsAlong path x → HasKey path q y → HasKey path q (over x y))
    → LeadsAlong (k ∷ path) n → HasKey (k ∷ path) q m → HasKey (k ∷ path) q (over n m)
lower_more k path q n m (united {xs = xs} {ys = ys}) ih leads h =
    rw (get-entries_over k xs ys) (lower_at (HasKey path q) (LeadsAlong path) (get k xs) (get k ys) ih leads.1 h)
lower_more k path q n m (replaced e apart) ih leads h = absurd (apart leads.0 (there_table (HasKey path q) k m h))

lower_key : (path : KeyPath) (q : List ℕ) (n m : Node) → LeadsAlong path n → HasKey path q m → HasKey path q (over n m)
lower_key [] q n m leads h = lower_end q n m (laid n m) leads h
lower_key (k ∷ path) q n m leads h = lower_more k path q n m (laid n m) (lower_key path q) leads h

-- a key of both is one of either
either_end : (q : List ℕ) (n m : Node) → Laid n m → HasKey [] q (over n m) → HasKey [] q n ⊎ HasKey [] q m
either_end q n m (united {xs = xs} {ys = ys}) h = some_either (get q xs) (get q ys) (rw (get-entries_over q xs ys) at h)
either_end q n m (replaced e apart) h = inl (rw e at h)

either_at : (P : Node → Type 0) (o p : Option Node) → ((n m : Node) → P (over n m) → P n ⊎ P m)
    → There P (laid_over o p) → There P o ⊎ There P p
either_at P None p ih h = inr h
either_at P (Some n) None ih h = inl h
either_at P (Some n) (Some m) ih h = ih n m h

either_more : (k : List ℕ) (path : KeyPath) (q : List ℕ) (n m : Node) → Laid n m
    → ((x y : Node) → HasKey path q (over x y) → HasKey path q x ⊎ HasKey path q y)
    → HasKey (k ∷ path) q (over n m) → HasKey (k ∷ path) q n ⊎ HasKey (k ∷ path) q m
either_more k path q n m (united {xs = xs} {ys = ys}) ih h =
    either_at (HasKey path q) (get k xs) (get k ys) ih (rw (get-entries_over k xs ys) at h)
either_more k path q n m (replaced e apart) ih h = inl (rw e at h)

pub either_key : (path : KeyPath) (q : List ℕ) (n m : Node) → HasKey path q (over n m)
    → HasKey path q n ⊎ HasKey path q m
either_key [] q n m h = either_end q n m (laid n m) h
either_key (k ∷ path) q n m h = either_more k path q n m (laid n m) (either_key path q) h

-- where tables lead along a path over something, they do so alone
alone_end : (n m : Node) → Laid n m → LeadsAlong [] (over n m) → LeadsAlong [] n
alone_end n m (united {xs = xs} {ys = ys}) h = tt
alone_end n m (replaced e apart) h = rw e at h

alone_at : (P : Node → Type 0) (o p : Option Node) → ((n m : Node) → P (over n m) → P n)
    → IfThere P (laid_over o p) → IfThere P o
alone_at P None p ih h = tt
alone_at P (Some n) None ih h = h
alone_at P (Some n) (Some m) ih h = ih n m h

alone_more : (k : List ℕ) (path : KeyPath) (n m : Node) → Laid n m
    → ((x y : Node) → LeadsAlong path (over x y) → LeadsAlong path x) → LeadsAlong (k ∷ path) (over n m)
    → LeadsAlong (k ∷ path) n
alone_more k path n m (united {xs = xs} {ys = ys}) ih h =
    (tt, alone_at (LeadsAlong path) (get k xs) (get k ys) ih (rw (get-entries_over k xs ys) at h.1))
alone_more k path n m (replaced e apart) ih h = rw e at h

pub leads_alone : (path : KeyPath) (n m : Node) → LeadsAlong path (over n m) → LeadsAlong path n
leads_alone [] n m h = alone_end n m (laid n m) h
leads_alone (k ∷ path) n m h = alone_more k path n m (laid n m) (leads_alone path) h

-- layers keep the keys of what is below them
layers_keep : (path : KeyPath) (q : List ℕ) (base : Node) (layers : List Node)
    → AllByRecursion (LeadsAlong path) layers → HasKey path q base → HasKey path q (merged base layers)
layers_keep path q base [] leads h = h
layers_keep path q base (n ∷ layers) leads h =
    layers_keep path q (over n base) layers leads.1 (lower_key path q n base leads.0 h)

-- and give their own
pub layers_give : (path : KeyPath) (q : List ℕ) (base : Node) (below : List Node) (n : Node)
    (above : List Node) → AllByRecursion (LeadsAlong path) (below ++ n ∷ above) → HasKey path q (over n base)
    → HasKey path q (merged base (below ++ n ∷ above))
layers_give path q base below n above leads h =
    elim (either_key path q n base h) [
      | inl own ↦ own_given path q base below n above leads own
      | inr lower ↦ layers_keep path q base (below ++ n ∷ above) leads lower
    ]
  where
    own_given : (path : KeyPath) (q : List ℕ) (base : Node) (below : List Node) (n : Node) (above : List Node)
        → AllByRecursion (LeadsAlong path) (below ++ n ∷ above) → HasKey path q n
        → HasKey path q (merged base (below ++ n ∷ above))
    own_given path q base [] n above leads own =
        layers_keep path q (over n base) above leads.1 (higher_key path q n base own)
    own_given path q base (m ∷ below) n above leads own = own_given path q (over m base) below n above leads.1 own

key_at : (o : Ordering) (rest : Option Node) (m : Node) → IsSome rest → IsSome (match_ordering o rest (Some m) rest)
key_at Less rest m h = h
key_at Equal rest m h = refl
key_at Greater rest m h = h

-- a key of entries is one of their keys
pub key_there : (q : List ℕ) (es : Entries) → is_one_of (tree.keys es) q ≡ true → IsSome (get q es)
key_there q no_entries h = cc
key_there q (entry l m es) h =
    elim (or_cases (bytes_eq l q) (is_one_of (tree.keys es) q) h) [
      | inl same ↦ let is : l ≡ q = (bytes_eq-Decides l q).0 same in rw (is, tied_itself nat_list_cmp_total q) refl
      | inr more ↦ key_at (cmp q l) (get q es) m (key_there q es more)
    ]

either_true : (b : Bool) → (b || true) ≡ true
either_true true = refl
either_true false = refl

there_at : (o : Ordering) (q l : List ℕ) (m : Node) (es : Entries) → cmp q l ≡ o
    → (IsSome (get q es) → is_one_of (tree.keys es) q ≡ true)
    → IsSome (match_ordering o (get q es) (Some m) (get q es)) → is_one_of (l ∷ tree.keys es) q ≡ true
there_at Less q l m es is ih h = rw (ih h) (either_true (bytes_eq l q))
there_at Equal q l m es is ih h = rw ((bytes_eq-Decides l q).1 (sym (equal_text q l is))) refl
there_at Greater q l m es is ih h = rw (ih h) (either_true (bytes_eq l q))

pub there_key : (q : List ℕ) (es : Entries) → IsSome (get q es) → is_one_of (tree.keys es) q ≡ true
there_key q no_entries h = cc
there_key q (entry l m es) h = there_at (cmp q l) q l m es refl (there_key q es) h

-- the keys of the table that is there, none where there is no table
abbrev pub keys_of_table : Option Node → List (List ℕ)
keys_of_table o = tree.keys (unwrap_or (option_and_then as_table o) no_entries)

pub table_has : (q : List ℕ) (o : Option Node) → is_one_of (keys_of_table o) q ≡ true → There (HasKey [] q) o
table_has q None h = cc
table_has q (Some (table es)) h = key_there q es h
table_has q (Some (array ns)) h = cc
table_has q (Some (text t)) h = cc
table_has q (Some (int z)) h = cc
table_has q (Some (bool b)) h = cc
table_has q (Some opaque) h = cc

pub has_table : (q : List ℕ) (o : Option Node) → There (HasKey [] q) o → is_one_of (keys_of_table o) q ≡ true
has_table q None h = absurd h
has_table q (Some (table es)) h = there_key q es h
has_table q (Some (array ns)) h = cc
has_table q (Some (text t)) h = cc
has_table q (Some (int z)) h = cc
has_table q (Some (bool b)) h = cc
has_table q (Some opaque) h = cc

-- the same of a table in a table
pub inner_has : (k q : List ℕ) (o : Option Node)
    → is_one_of (keys_of_table (member_of k (unwrap_or o (table no_entries)))) q ≡ true → There (HasKey (k ∷ []) q) o
inner_has k q None h = cc
inner_has k q (Some n) h = table_has q (member_of k n) h

pub has_inner : (k q : List ℕ) (o : Option Node) → There (HasKey (k ∷ []) q) o
    → is_one_of (keys_of_table (member_of k (unwrap_or o (table no_entries)))) q ≡ true
has_inner k q None h = absurd h
has_inner k q (Some n) h = has_table q (member_of k n) h
