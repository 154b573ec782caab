-- What is laid over keeps the keys of each table in order.
use Rattle.std.proofs.Common.{◌≡◌, ℕ, List, [], ◌∷◌, Option, Some, None, Result, Ok, Err, IfOk, sym, subst, Ordering, Less, Equal, Greater, refl}
use Rattle.std.proofs.lemmas.Cmp.{nat_list_cmp_total}
use Rattle.std.specs.List.{AllByRecursion}
use Rattle.std.specs.Option.{option_map_or}
use Rattle.std.specs.Ordering.{match_ordering}
use Rattle.nextest_tree.specs.Node.{Node, table, Entries, no_entries, entry, get, put, PrecedesKeys, IsSorted, EntriesAreSorted}
use Rattle.std.specs.declared.alloc.AllocError.{AllocError}
use Rattle.nextest_tree.specs.View.{tree_view}
use Rattle.nextest_tree.specs.declared.tree.Tree.{Tree}
use Rattle.nextest_documents.specs.Merge.{over, entries_over, merged}
use Rattle.nextest_documents.proofs.Laying.{cmp, turned}

pub before_lower : (j k : List ℕ) (es : Entries) → cmp j k ≡ Less → PrecedesKeys k es → PrecedesKeys j es
before_lower j k no_entries h b = tt
before_lower j k (entry l m es) h b = (nat_list_cmp_total.trans j k l h b.0, before_lower j k es h b.1)

before_at : (o : Ordering) (j k l : List ℕ) (n m : Node) (es : Entries) → cmp j k ≡ Less
    → PrecedesKeys j (entry l m es) → PrecedesKeys j (put k n es)
    → PrecedesKeys j (match_ordering o (entry k n (entry l m es)) (entry l n es) (entry l m (put k n es)))
before_at Less j k l n m es h b ih = (h, b)
before_at Equal j k l n m es h b ih = b
before_at Greater j k l n m es h b ih = (b.0, ih)

before_put : (j k : List ℕ) (n : Node) (es : Entries) → cmp j k ≡ Less → PrecedesKeys j es → PrecedesKeys j (put k n es)
before_put j k n no_entries h b = (h, tt)
before_put j k n (entry l m es) h b = before_at (cmp k l) j k l n m es h b (before_put j k n es h b.1)

put_at : (o : Ordering) (k l : List ℕ) (n m : Node) (es : Entries) → cmp k l ≡ o → IsSorted n
    → EntriesAreSorted (entry l m es) → EntriesAreSorted (put k n es)
    → EntriesAreSorted (match_ordering o (entry k n (entry l m es)) (entry l n es) (entry l m (put k n es)))
put_at Less k l n m es is h s ih = ((is, before_lower k l es is s.0), h, s)
put_at Equal k l n m es is h s ih = (s.0, h, s.2)
put_at Greater k l n m es is h s ih = (before_put l k n es (turned k l Greater is) s.0, s.1, ih)

put_sorted : (k : List ℕ) (n : Node) (es : Entries) → IsSorted n → EntriesAreSorted es → EntriesAreSorted (put k n es)
put_sorted k n no_entries h s = (tt, h, tt)
put_sorted k n (entry l m es) h s = put_at (cmp k l) k l n m es refl h s (put_sorted k n es h s.2)

-- what is there, if anything is, is sorted
abbrev pub IsSortedThere : Option Node → Type 0
IsSortedThere None = Unit {0}
IsSortedThere (Some n) = IsSorted n

there_at : (o : Ordering) (n : Node) (rest : Option Node) → IsSorted n → IsSortedThere rest
    → IsSortedThere (match_ordering o rest (Some n) rest)
there_at Less n rest h s = s
there_at Equal n rest h s = h
there_at Greater n rest h s = s

pub get_sorted : (k : List ℕ) (es : Entries) → EntriesAreSorted es → IsSortedThere (get k es)
get_sorted k no_entries s = tt
get_sorted k (entry l m es) s = there_at (cmp k l) m (get k es) s.1 (get_sorted k es s.2)

laid_at : (n : Node) (there : Option Node) → ((lower : Node) → IsSorted lower → IsSorted (over n lower))
    → IsSorted n → IsSortedThere there → IsSorted (option_map_or (λ lower. over n lower) there n)
laid_at n None ih h s = h
laid_at n (Some lower) ih h s = ih lower s

mutual
  pub over_sorted : (above below : Node) → IsSorted above → IsSorted below → IsSorted (over above below)
  over_sorted (table xs) (table ys) h s = entries_sorted xs ys h s
  over_sorted above below h s = h

  pub entries_sorted : (xs ys : Entries) → EntriesAreSorted xs → EntriesAreSorted ys
      → EntriesAreSorted (entries_over xs ys)
  entries_sorted no_entries ys h s = s
  entries_sorted (entry k n xs) ys h s =
      put_sorted k _ (entries_over xs ys)
      (laid_at n (get k ys) (λ lower sorted. over_sorted n lower h.1 sorted) h.1 (get_sorted k ys s))
      (entries_sorted xs ys h.2 s)

pub merged_sorted : (base : Node) (layers : List Node) → IsSorted base → AllByRecursion IsSorted layers
    → IsSorted (merged base layers)
merged_sorted base [] h s = h
merged_sorted base (layer ∷ layers) h s = merged_sorted (over layer base) layers (over_sorted layer base s.0 h) s.1

pub laid_sorted : (r : Result Tree AllocError) (above below : Node) → IfOk r (λ tree. tree_view tree ≡ over above below)
    → IsSorted below → IsSorted above → IfOk r (λ tree. IsSorted (tree_view tree))
laid_sorted (Ok tree) above below is lower higher =
    let P : Node → Type 0 = IsSorted in
    subst P (sym is) (over_sorted above below higher lower)
laid_sorted (Err e) above below is lower higher = is
