-- Entries that were laid upon others, and are taken off one by one.
use Rattle.std.proofs.Common.{◌≡◌, ℕ, List, Option, Some, None, Ordering, Less, Equal, Greater, refl, sym, ap, ◌∙◌, subst}
use Rattle.std.proofs.lemmas.Cmp.{nat_list_cmp_total}
use Rattle.std.specs.Cmp.{tied_itself}
use Rattle.std.specs.Option.{option_map_or}
use Rattle.std.specs.Ordering.{match_ordering}
use Rattle.nextest_tree.specs.Node.{Node, table, Entries, no_entries, entry, get, put, PrecedesKeys, IsSorted, EntriesAreSorted}
use Rattle.nextest_documents.specs.Displaced.{Under, added, within, Unders, no_unders, under, displaced_by, entries_displaced_by}
use Rattle.nextest_documents.specs.Merge.{over, entries_over}
use Rattle.nextest_documents.proofs.Laying.{cmp, turned, laid_over, get-entries_over}
use Rattle.nextest_documents.proofs.Sorted.{before_lower, entries_sorted}

-- nothing is at a key that precedes all of them
pub precedes_none : (k : List ℕ) (es : Entries) → PrecedesKeys k es → get k es ≡ None
precedes_none k no_entries b = refl
precedes_none k (entry l d es) b = simp b.0 (precedes_none k es b.1)

put_put_at : (o : Ordering) (k l : List ℕ) (m n d : Node) (es : Entries) → cmp k l ≡ o
    → put k m (put k n es) ≡ put k m es → put k m (put k n (entry l d es)) ≡ put k m (entry l d es)
put_put_at Less k l m n d es is ih = simp (is, tied_itself nat_list_cmp_total k)
put_put_at Equal k l m n d es is ih = simp is
put_put_at Greater k l m n d es is ih = simp is (ap (entry l d) ih)

-- of two puts at a key the later one stays
pub put_put : (k : List ℕ) (m n : Node) (es : Entries) → put k m (put k n es) ≡ put k m es
put_put k m n no_entries = simp (tied_itself nat_list_cmp_total k)
put_put k m n (entry l d es) = put_put_at (cmp k l) k l m n d es refl (put_put k m n es)

put_there_at : (o : Ordering) (k l : List ℕ) (m d : Node) (es : Entries) → cmp k l ≡ o
    → EntriesAreSorted (entry l d es) → match_ordering o (get k es) (Some d) (get k es) ≡ Some m
    → (get k es ≡ Some m → put k m es ≡ es)
    → match_ordering o (entry k m (entry l d es)) (entry l m es) (entry l d (put k m es)) ≡ entry l d es
put_there_at Less k l m d es is s there ih =
    let none : get k es ≡ None = precedes_none k es (before_lower k l es is s.0) in cc
put_there_at Equal k l m d es is s there ih = let same : d ≡ m = cc in ap (λ n. entry l n es) (sym same)
put_there_at Greater k l m d es is s there ih = ap (entry l d) (ih there)

-- a put of what is there changes nothing
pub put_there : (k : List ℕ) (m : Node) (es : Entries) → EntriesAreSorted es → get k es ≡ Some m → put k m es ≡ es
put_there k m no_entries s there = cc
put_there k m (entry l d es) s there =
    put_there_at (cmp k l) k l m d es refl s there (put_there k m es s.2)

-- the entries without the one at a key
abbrev pub without : List ℕ → Entries → Entries
without k no_entries = no_entries
without k (entry l n es) = match_ordering (cmp k l) (entry l n (without k es)) es (entry l n (without k es))

without_at : (o : Ordering) (k l : List ℕ) (n d : Node) (es : Entries) → cmp k l ≡ o
    → match_ordering o (get k es) (Some d) (get k es) ≡ None
    → (get k es ≡ None → without k (put k n es) ≡ es) → without k (put k n (entry l d es)) ≡ entry l d es
without_at Less k l n d es is none ih = simp (is, tied_itself nat_list_cmp_total k)
without_at Equal k l n d es is none ih = cc
without_at Greater k l n d es is none ih = simp is (ap (entry l d) (ih none))

-- what was put where nothing stood is taken away
pub without_put : (k : List ℕ) (n : Node) (es : Entries) → get k es ≡ None → without k (put k n es) ≡ es
without_put k n no_entries none = simp (tied_itself nat_list_cmp_total k)
without_put k n (entry l d es) none = without_at (cmp k l) k l n d es refl none (without_put k n es)

-- some entries, and others after them
abbrev pub joined : Entries → Entries → Entries
joined no_entries es = es
joined (entry k n ds) es = entry k n (joined ds es)

sorted_rest : (ds es : Entries) → EntriesAreSorted (joined ds es) → EntriesAreSorted es
sorted_rest no_entries es s = s
sorted_rest (entry k n ds) es s = sorted_rest ds es s.2

precedes_rest : (j k : List ℕ) (n : Node) (ds es : Entries) → PrecedesKeys j (joined ds (entry k n es)) → cmp j k ≡ Less
precedes_rest j k n no_entries es b = b.0
precedes_rest j k n (entry l d ds) es b = precedes_rest j k n ds es b.1

put_next : (k : List ℕ) (n : Node) (ds es : Entries) → EntriesAreSorted (joined ds (entry k n es))
    → put k n ds ≡ joined ds (entry k n no_entries)
put_next k n no_entries es s = refl
put_next k n (entry l d ds) es s =
    let kl : cmp k l ≡ Greater = turned l k Less (precedes_rest l k n ds es s.0) in
    simp kl (ap (entry l d) (put_next k n ds es s.2))

joined_next : (k : List ℕ) (n : Node) (ds es : Entries)
    → joined (joined ds (entry k n no_entries)) es ≡ joined ds (entry k n es)
joined_next k n no_entries es = refl
joined_next k n (entry l d ds) es = ap (entry l d) (joined_next k n ds es)

-- of the entries above, the first were taken off, and the others still lie upon those below
pub record HaveParted (above below taken members : Entries) (left : Unders) : Type 0 where
  pub rest : Entries
  pub splits : above ≡ joined taken rest
  pub laid : members ≡ entries_over rest below
  pub displaced : left ≡ entries_displaced_by rest below

-- the next of them lies upon the others
pub record IsNext (above below taken members : Entries) (k : List ℕ) (u : Under) (left : Unders) : Type 0 where
  pub higher : Node
  pub lower : Entries
  pub higher_sorted : IsSorted higher
  pub lower_sorted : EntriesAreSorted lower
  pub laid : members ≡ put k (option_map_or (λ n. over higher n) (get k lower) higher) lower
  pub displaced : u ≡ option_map_or (λ n. displaced_by higher n) (get k lower) added
  pub parted : HaveParted above below (put k higher taken) lower left

next_at : (rest above below taken members : Entries) (k : List ℕ) (u : Under) (left : Unders)
    → EntriesAreSorted above → EntriesAreSorted below → above ≡ joined taken rest → members ≡ entries_over rest below
    → under k u left ≡ entries_displaced_by rest below → IsNext above below taken members k u left
next_at no_entries above below taken members k u left sa sb splits laid displaced = cc
next_at (entry j n es) above below taken members k u left sa sb splits laid displaced =
    let same : k ≡ j = cc in
    let all : EntriesAreSorted (joined taken (entry j n es)) = subst EntriesAreSorted splits sa in
    let s : EntriesAreSorted (entry j n es) = sorted_rest taken (entry j n es) all in
    let there : get j (entries_over es below) ≡ get j below =
    get-entries_over j es below ∙ ap (λ o. laid_over o (get j below)) (precedes_none j es s.0) in
    let unders : u ≡ option_map_or (λ m. displaced_by n m) (get j below) added = cc in
    let lefts : left ≡ entries_displaced_by es below = cc in
    subst (λ i. IsNext above below taken members i u left) (sym same)
    (record {
      higher = n;
      lower = entries_over es below;
      higher_sorted = s.1;
      lower_sorted = entries_sorted es below s.2 sb;
      laid = laid ∙ rw there;
      displaced = unders ∙ rw there;
      parted = record {
        rest = es;
        splits = splits ∙ sym (joined_next j n taken es) ∙ ap (λ ds. joined ds es) (sym (put_next j n taken es all));
        laid = refl;
        displaced = lefts;
      };
    })

pub is_next : (above below taken members : Entries) (k : List ℕ) (u : Under) (left : Unders)
    → EntriesAreSorted above → EntriesAreSorted below → HaveParted above below taken members (under k u left)
    → IsNext above below taken members k u left
is_next above below taken members k u left sa sb h =
    next_at h.rest above below taken members k u left sa sb h.splits h.laid h.displaced

joined_none : (ds : Entries) → joined ds no_entries ≡ ds
joined_none no_entries = refl
joined_none (entry k n ds) = ap (entry k n) (joined_none ds)

all_at : (rest above below taken members : Entries) → above ≡ joined taken rest → members ≡ entries_over rest below
    → no_unders ≡ entries_displaced_by rest below → (taken ≡ above) × (members ≡ below)
all_at no_entries above below taken members splits laid displaced = (sym (splits ∙ joined_none taken), laid)
all_at (entry k n es) above below taken members splits laid displaced = absurd (cc)

-- all of them were taken off
pub have_all_parted : (above below taken members : Entries) → HaveParted above below taken members no_unders
    → (taken ≡ above) × (members ≡ below)
have_all_parted above below taken members h =
    all_at h.rest above below taken members h.splits h.laid h.displaced

not_added : (above below : Node) → added ≡ displaced_by above below → ⊥
not_added (table xs) (table ys) e = cc
not_added above below e = cc

-- nothing stood where nothing was displaced
pub none_displaced : (above : Node) (there : Option Node)
    → added ≡ option_map_or (λ n. displaced_by above n) there added → there ≡ None
none_displaced above None e = refl
none_displaced above (Some below) e = absurd (not_added above below e)

-- only tables displace what tables displaced
pub parted_tables : (above below : Node) (laid higher lower : Entries) (left : Unders)
    → IsSorted above → IsSorted below → table laid ≡ over above below → within left ≡ displaced_by above below
    → ((xs ys : Entries) → EntriesAreSorted xs → EntriesAreSorted ys → laid ≡ entries_over xs ys
    → left ≡ entries_displaced_by xs ys → (higher ≡ xs) × (lower ≡ ys))
    → (table higher ≡ above) × (table lower ≡ below)
parted_tables (table xs) (table ys) laid higher lower left sa sb is displaced parted =
    let tables : laid ≡ entries_over xs ys = cc in
    let under : left ≡ entries_displaced_by xs ys = cc in
    let all = parted xs ys sa sb tables under in
    (ap table all.0, ap table all.1)
parted_tables above below laid higher lower left sa sb is displaced parted = absurd (cc)
