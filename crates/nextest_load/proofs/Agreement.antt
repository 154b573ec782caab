-- Sources that write the same of profiles are merged to trees that do so, and so are sources beside
-- which another one stays apart.
use Rattle.std.proofs.Common.{◌≡◌, ◌≢◌, ◌∙◌, ℕ, List, [], ◌∷◌, ◌++◌, map, reverse, None, refl, sym, ap, subst₂}
use Rattle.std.proofs.lemmas.List.{reverse-append}
use Rattle.std.specs.List.{AllZip}
use Rattle.nextest_documents.specs.Merge.{over, merged}
use Rattle.nextest_documents.proofs.Laying.{laid_over}
use Rattle.nextest_sources.specs.InputFaults.{Each}
use Rattle.nextest_sources.specs.Inputs.{SourceText}
use Rattle.nextest_tables.specs.Defaults.{defaults}
use Rattle.nextest_tables.specs.Written.{Name}
use Rattle.nextest_tree.specs.declared.key.Key.TheVariants as keys
use Rattle.nextest_tree.specs.Key.{key_text}
use Rattle.nextest_tree.specs.Node.{Node, member_of}
use Rattle.nextest_load.specs.Agreement.{node_of_profile, AgreeOn, StaysApart}
use Rattle.nextest_load.specs.Trees.{tree_in, own_tree, merged_tree}
use Rattle.nextest_load.proofs.Under.{Leads, member_over, profile_over, leads_over, defaults_lead}

-- Two trees agree on profiles of these names, and on all that is outside of profiles.
pub record Alike (names : List Name) (a b : Node) : Type 0 where
  pub profiles : Each (λ name. node_of_profile name a ≡ node_of_profile name b) names
  pub elsewhere : (key : List ℕ) → key ≢ key_text keys.Profile → member_of key a ≡ member_of key b

each_same : (names : List Name) (a : Node) → Each (λ name. node_of_profile name a ≡ node_of_profile name a) names
each_same [] a = tt
each_same (name ∷ names) a = (refl, each_same names a)

alike_itself : (names : List Name) (a : Node) → Alike names a a
alike_itself names a = record { profiles = each_same names a; elsewhere = λ key apart. refl }

module _ (a b c d : Node) (la : Leads a) (lb : Leads b) (lc : Leads c) (ld : Leads d) where
  each_over : (names : List Name) → Each (λ name. node_of_profile name a ≡ node_of_profile name b) names
      → Each (λ name. node_of_profile name c ≡ node_of_profile name d) names
      → Each (λ name. node_of_profile name (over a c) ≡ node_of_profile name (over b d)) names
  each_over [] h k = tt
  each_over (name ∷ names) h k = (
    profile_over name a c la lc ∙ (λ i. laid_over (h.0 i) (k.0 i)) ∙ sym (profile_over name b d lb ld),
    each_over names h.1 k.1,
  )

  alike_over : (names : List Name) → Alike names a b → Alike names c d → Alike names (over a c) (over b d)
  alike_over names h k = record {
    profiles = each_over names h.profiles k.profiles;
    elsewhere = λ key apart. member_over key a c la.0 lc.0
        ∙ (λ i. laid_over (h.elsewhere key apart i) (k.elsewhere key apart i)) ∙ sym (member_over key b d lb.0 ld.0);
  }

module _ (names : List Name) where
  trees_alike : (s t : SourceText) → AgreeOn names s t → Alike names (tree_in s) (tree_in t)
  trees_alike s t h = record { profiles = h.profiles; elsewhere = h.elsewhere }

  -- two sources over the defaults
  pub own_alike : (s t : SourceText) → AgreeOn names s t → Leads (tree_in s) → Leads (tree_in t)
      → Alike names (own_tree s) (own_tree t)
  own_alike s t h ls lt = alike_over (tree_in s) (tree_in t) defaults defaults ls lt defaults_lead
      defaults_lead names (trees_alike s t h) (alike_itself names defaults)

  over_alike : (ss ts : List SourceText) → AllZip (AgreeOn names) ss ts → Each (λ s. Leads (tree_in s)) ss
      → Each (λ t. Leads (tree_in t)) ts → (c d : Node) → Leads c → Leads d → Alike names c d
      → Alike names (merged c (map tree_in ss)) (merged d (map tree_in ts))
  over_alike [] [] z all_s all_t c d lc ld h = h
  over_alike [] (t ∷ ts) z all_s all_t c d lc ld h = absurd z
  over_alike (s ∷ ss) [] z all_s all_t c d lc ld h = absurd z
  over_alike (s ∷ ss) (t ∷ ts) z all_s all_t c d lc ld h =
      over_alike ss ts z.1 all_s.1 all_t.1 (over (tree_in s) c) (over (tree_in t) d)
      (leads_over (tree_in s) c all_s.0 lc) (leads_over (tree_in t) d all_t.0 ld)
      (alike_over (tree_in s) (tree_in t) c d all_s.0 all_t.0 lc ld names (trees_alike s t z.0) h)

  pub merged_alike : (ss ts : List SourceText) → AllZip (AgreeOn names) ss ts
      → Each (λ s. Leads (tree_in s)) ss → Each (λ t. Leads (tree_in t)) ts
      → Alike names (merged_tree ss) (merged_tree ts)
  merged_alike ss ts z all_s all_t =
      over_alike ss ts z all_s all_t defaults defaults defaults_lead defaults_lead (alike_itself names defaults)

  all_agree : (ss : List SourceText) → AllZip (AgreeOn names) ss ss
  all_agree [] = tt
  all_agree (s ∷ ss) = (
    record
        { source = refl; profiles = each_same names (tree_in s); elsewhere = λ key apart. refl },
    all_agree ss,
  )

  each_apart : (ns : List Name) (s : SourceText) (c : Node) → Leads (tree_in s) → Leads c
      → Each (λ name. node_of_profile name (tree_in s) ≡ None) ns
      → Each (λ name. node_of_profile name c ≡ node_of_profile name (over (tree_in s) c)) ns
  each_apart [] s c ls lc h = tt
  each_apart (name ∷ ns) s c ls lc h = (
    sym (profile_over name (tree_in s) c ls lc ∙ ap (λ o. laid_over o (node_of_profile name c)) h.0),
    each_apart ns s c ls lc h.1,
  )

  -- a source that stays apart, laid over a tree
  apart_over : (s : SourceText) (c : Node) → Leads (tree_in s) → Leads c → StaysApart names s
      → Alike names c (over (tree_in s) c)
  apart_over s c ls lc h = record {
    profiles = each_apart names s c ls lc h.profiles;
    elsewhere = λ key other. sym
        (member_over key (tree_in s) c ls.0 lc.0 ∙ ap (λ o. laid_over o (member_of key c)) (h.elsewhere key other));
  }

  without_from : (below : List SourceText) (s : SourceText) (above : List SourceText) → StaysApart names s
      → (c : Node) → Leads c → Each (λ t. Leads (tree_in t)) (below ++ s ∷ above)
      → Alike names (merged c (map tree_in (below ++ above))) (merged c (map tree_in (below ++ s ∷ above)))
  without_from [] s above h c lc all =
      over_alike above above (all_agree above) all.1 all.1 c (over (tree_in s) c) lc
      (leads_over (tree_in s) c all.0 lc) (apart_over s c all.0 lc h)
  without_from (t ∷ below) s above h c lc all =
      without_from below s above h (over (tree_in t) c) (leads_over (tree_in t) c all.0 lc) all.1

  -- the merged trees without a source that stays apart, and with it
  pub merged_without : (below : List SourceText) (s : SourceText) (above : List SourceText)
      → StaysApart names s → Each (λ t. Leads (tree_in t)) (below ++ s ∷ above)
      → Alike names (merged_tree (below ++ above)) (merged_tree (below ++ s ∷ above))
  merged_without below s above h all = without_from below s above h defaults defaults_lead all

-- lists of which each two elements are related
module _ {A B : Type 0} where
  pub zip_from : (R S : A → B → Type 0) → ((x : A) (y : B) → R x y → S x y) → (xs : List A) (ys : List B)
      → AllZip R xs ys → AllZip S xs ys
  zip_from R S f [] [] z = tt
  zip_from R S f [] (y ∷ ys) z = absurd z
  zip_from R S f (x ∷ xs) [] z = absurd z
  zip_from R S f (x ∷ xs) (y ∷ ys) z = (f x y z.0, zip_from R S f xs ys z.1)

  zip_last : (R : A → B → Type 0) (x : A) (y : B) → R x y → (xs : List A) (ys : List B) → AllZip R xs ys
      → AllZip R (xs ++ x ∷ []) (ys ++ y ∷ [])
  zip_last R x y r [] [] z = (r, tt)
  zip_last R x y r [] (v ∷ ys) z = absurd z
  zip_last R x y r (u ∷ xs) [] z = absurd z
  zip_last R x y r (u ∷ xs) (v ∷ ys) z = (z.0, zip_last R x y r xs ys z.1)

  pub zip_reversed : (R : A → B → Type 0) (xs : List A) (ys : List B) → AllZip R xs ys
      → AllZip R (reverse xs) (reverse ys)
  zip_reversed R [] [] z = tt
  zip_reversed R [] (y ∷ ys) z = absurd z
  zip_reversed R (x ∷ xs) [] z = absurd z
  zip_reversed R (x ∷ xs) (y ∷ ys) z =
      subst₂ (AllZip R) (sym (reverse-append (x ∷ []) xs)) (sym (reverse-append (y ∷ []) ys))
      (zip_last R x y z.0 (reverse xs) (reverse ys) (zip_reversed R xs ys z.1))
