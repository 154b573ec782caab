-- What layers keep of the tables below them.
use Rattle.std.proofs.Common.{List, [], ◌∷◌, Option, Some, None}
use Rattle.std.specs.List.{AllByRecursion}
use Rattle.std.specs.Option.{IsSomeAnd}
use Rattle.nextest_tree.specs.Node.{Node, table, array, text, int, bool, opaque, Entries, no_entries, entry, get}
use Rattle.nextest_documents.specs.Merge.{over, entries_over, merged}
use Rattle.nextest_documents.proofs.Laying.{laid_over, get-entries_over}

-- a node keeps a form: where the form is a table it is one too, with something at each of its keys
abbrev mutual
  pub Keeps : Node → Node → Type 0
  Keeps (table ks) (table es) = KeepsAll ks es
  Keeps (table ks) _ = ⊥
  Keeps _ _ = Unit {0}

  pub KeepsAll : Entries → Entries → Type 0
  KeepsAll no_entries es = Unit {0}
  KeepsAll (entry k s ks) es = IsSomeAnd (get k es) (Keeps s) × KeepsAll ks es

-- a node keeps a form as far as it is made of tables
abbrev mutual
  pub Follows : Node → Node → Type 0
  Follows (table ks) (table es) = FollowsAll ks es
  Follows _ _ = Unit {0}

  pub FollowsAll : Entries → Entries → Type 0
  FollowsAll no_entries es = Unit {0}
  FollowsAll (entry k s ks) es = IsSomeAnd (get k es) (Follows s) × FollowsAll ks es

-- what is laid over a node that keeps a form keeps it too, where it does over another one
kept_at : (s : Node) → ((a c b : Node) → Keeps s c → Keeps s (over a c) → Keeps s b → Keeps s (over a b))
    → (x z y : Option Node) → IsSomeAnd z (Keeps s) → IsSomeAnd (laid_over x z) (Keeps s)
    → IsSomeAnd y (Keeps s) → IsSomeAnd (laid_over x y) (Keeps s)
kept_at s each None z y hz hx hy = hy
kept_at s each (Some a) (Some c) (Some b) hz hx hy = each a c b hz hx hy
kept_at s each (Some a) None y hz hx hy = absurd hz
kept_at s each (Some a) (Some c) None hz hx hy = absurd hy

mutual
  pub over_keeps : (s a c b : Node) → Keeps s c → Keeps s (over a c) → Keeps s b → Keeps s (over a b)
  over_keeps (table ks) (table es) (table cs) (table bs) hc ha hb = all_keep ks es cs bs hc ha hb
  over_keeps (table ks) (array ns) (table cs) (table bs) hc ha hb = absurd ha
  over_keeps (table ks) (text t) (table cs) (table bs) hc ha hb = absurd ha
  over_keeps (table ks) (int z) (table cs) (table bs) hc ha hb = absurd ha
  over_keeps (table ks) (bool f) (table cs) (table bs) hc ha hb = absurd ha
  over_keeps (table ks) opaque (table cs) (table bs) hc ha hb = absurd ha
  over_keeps (table ks) a (array ns) b hc ha hb = absurd hc
  over_keeps (table ks) a (text t) b hc ha hb = absurd hc
  over_keeps (table ks) a (int z) b hc ha hb = absurd hc
  over_keeps (table ks) a (bool f) b hc ha hb = absurd hc
  over_keeps (table ks) a opaque b hc ha hb = absurd hc
  over_keeps (table ks) a (table cs) (array ns) hc ha hb = absurd hb
  over_keeps (table ks) a (table cs) (text t) hc ha hb = absurd hb
  over_keeps (table ks) a (table cs) (int z) hc ha hb = absurd hb
  over_keeps (table ks) a (table cs) (bool f) hc ha hb = absurd hb
  over_keeps (table ks) a (table cs) opaque hc ha hb = absurd hb
  over_keeps (array ns) a c b hc ha hb = tt
  over_keeps (text t) a c b hc ha hb = tt
  over_keeps (int z) a c b hc ha hb = tt
  over_keeps (bool f) a c b hc ha hb = tt
  over_keeps opaque a c b hc ha hb = tt

  all_keep : (ks es cs bs : Entries) → KeepsAll ks cs → KeepsAll ks (entries_over es cs) → KeepsAll ks bs
      → KeepsAll ks (entries_over es bs)
  all_keep no_entries es cs bs hc ha hb = tt
  all_keep (entry k s ks) es cs bs hc ha hb =
      let over_c : IsSomeAnd (laid_over (get k es) (get k cs)) (Keeps s) = rw (get-entries_over k es cs) at ha.0 in
      let one = kept_at s (over_keeps s) (get k es) (get k cs) (get k bs) hc.0 over_c hb.0 in
      (rw (get-entries_over k es bs) one, all_keep ks es cs bs hc.1 ha.1 hb.1)

-- so do layers, each of which keeps it over one base
pub merged_keeps : (s c base : Node) (layers : List Node) → Keeps s c
    → AllByRecursion (λ a. Keeps s (over a c)) layers → Keeps s base → Keeps s (merged base layers)
merged_keeps s c base [] hc hs hb = hb
merged_keeps s c base (a ∷ layers) hc hs hb =
    merged_keeps s c (over a base) layers hc hs.1 (over_keeps s a c base hc hs.0 hb)

followed_at : (s : Node) → ((n : Node) → Keeps s n → Follows s n) → (o : Option Node) → IsSomeAnd o (Keeps s)
    → IsSomeAnd o (Follows s)
followed_at s each (Some n) h = each n h
followed_at s each None h = absurd h

mutual
  follows : (s n : Node) → Keeps s n → Follows s n
  follows (table ks) (table es) h = all_follow ks es h
  follows (table ks) (array ns) h = absurd h
  follows (table ks) (text t) h = absurd h
  follows (table ks) (int z) h = absurd h
  follows (table ks) (bool f) h = absurd h
  follows (table ks) opaque h = absurd h
  follows (array ns) n h = tt
  follows (text t) n h = tt
  follows (int z) n h = tt
  follows (bool f) n h = tt
  follows opaque n h = tt

  all_follow : (ks es : Entries) → KeepsAll ks es → FollowsAll ks es
  all_follow no_entries es h = tt
  all_follow (entry k s ks) es h = (followed_at s (follows s) (get k es) h.0, all_follow ks es h.1)

-- what is laid over a node that keeps a form follows it
follows_at : (s : Node) → ((a b : Node) → Keeps s b → Follows s (over a b)) → (x y : Option Node)
    → IsSomeAnd y (Keeps s) → IsSomeAnd (laid_over x y) (Follows s)
follows_at s each None y h = followed_at s (follows s) y h
follows_at s each (Some a) (Some b) h = each a b h
follows_at s each (Some a) None h = absurd h

mutual
  pub over_follows : (s a b : Node) → Keeps s b → Follows s (over a b)
  over_follows (table ks) (table es) (table bs) h = all_follows ks es bs h
  over_follows (table ks) (table es) (array ns) h = absurd h
  over_follows (table ks) (table es) (text t) h = absurd h
  over_follows (table ks) (table es) (int z) h = absurd h
  over_follows (table ks) (table es) (bool f) h = absurd h
  over_follows (table ks) (table es) opaque h = absurd h
  over_follows (table ks) (array ns) b h = tt
  over_follows (table ks) (text t) b h = tt
  over_follows (table ks) (int z) b h = tt
  over_follows (table ks) (bool f) b h = tt
  over_follows (table ks) opaque b h = tt
  over_follows (array ns) a b h = tt
  over_follows (text t) a b h = tt
  over_follows (int z) a b h = tt
  over_follows (bool f) a b h = tt
  over_follows opaque a b h = tt

  all_follows : (ks es bs : Entries) → KeepsAll ks bs → FollowsAll ks (entries_over es bs)
  all_follows no_entries es bs h = tt
  all_follows (entry k s ks) es bs h =
      let one = follows_at s (over_follows s) (get k es) (get k bs) h.0 in
      (rw (get-entries_over k es bs) one, all_follows ks es bs h.1)
