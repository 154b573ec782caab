-- The first naming of a name at one of some keys has the lowest rule.
use Rattle.std.proofs.Common.{◌≡◌, ◌<◌, ◌≤◌, ℕ, zero, suc, List, [], ◌∷◌, Option, None, Some, refl, sym, ap, ◌∙◌, subst, inl, inr, arith, lt-ltb, le-ltb}
use Rattle.std.specs.Prelude.{fold, slice_get, if◌then◌else◌}
use Rattle.std.proofs.lemmas.Bool.{cases_lt}
use Rattle.rinqebo_faults.specs.Namings.{IsFirstAt, IsFirstNaming, earlier, first_naming, naming_of}
use Rattle.rinqebo_faults.specs.declared.namings.Naming.{Naming}
use Rattle.rinqebo_faults.specs.declared.namings.Namings.{Namings}

-- of two the other is first, if its rule is lower
other_first : (a b : Naming) → b.rule < a.rule → earlier (Some a) (Some b) ≡ Some b
other_first a b low = ap (λ t. if t then Some b else Some a) (lt-ltb b.rule a.rule low)

-- and else the one
one_first : (a b : Naming) → a.rule ≤ b.rule → earlier (Some a) (Some b) ≡ Some a
one_first a b high = ap (λ t. if t then Some b else Some a) (le-ltb b.rule a.rule high)

-- of three the first is that of the first and of the first of the others
three : (a b c : Naming)
    → earlier (earlier (Some a) (Some b)) (Some c) ≡ earlier (Some a) (earlier (Some b) (Some c))
three a b c =
    elim (cases_lt b.rule a.rule) [
      | inl ba ↦ elim (cases_lt c.rule b.rule) [
        | inl cb ↦
            ap (λ o. earlier o (Some c)) (other_first a b ba) ∙ other_first b c cb
            ∙ sym (ap (earlier (Some a)) (other_first b c cb) ∙ other_first a c (omega arith))
        | inr bc ↦
            ap (λ o. earlier o (Some c)) (other_first a b ba) ∙ one_first b c bc
            ∙ sym (ap (earlier (Some a)) (one_first b c bc) ∙ other_first a b ba)
      ]
      | inr ab ↦ elim (cases_lt c.rule b.rule) [
        | inl cb ↦
            ap (λ o. earlier o (Some c)) (one_first a b ab)
            ∙ sym (ap (earlier (Some a)) (other_first b c cb))
        | inr bc ↦
            ap (λ o. earlier o (Some c)) (one_first a b ab) ∙ one_first a c (omega arith)
            ∙ sym (ap (earlier (Some a)) (one_first b c bc) ∙ one_first a b ab)
      ]
    ]

no_other : (o : Option Naming) → earlier o None ≡ o
no_other None = refl
no_other (Some x) = refl

together : (a b c : Option Naming) → earlier (earlier a b) c ≡ earlier a (earlier b c)
together None b c = refl
together (Some a) None None = refl
together (Some a) None (Some c) = refl
together (Some a) (Some b) None =
    no_other (earlier (Some a) (Some b))
together (Some a) (Some b) (Some c) = three a b c

module _ (namings : Namings) (profile name : List ℕ) where
  at_key : List ℕ → Option Naming
  at_key key = naming_of namings profile key name

  firsts : Option Naming → List (List ℕ) → Option Naming
  firsts first keys = fold (λ one key. earlier one (naming_of namings profile key name)) first keys

  -- the first of one and of those at keys
  from_one : (first : Option Naming) (keys : List (List ℕ))
      → firsts first keys ≡ earlier first (firsts None keys)
  unfolding firsts
  from_one first [] = sym (no_other first)
  from_one first (key ∷ keys) =
      let here = naming_of namings profile key name in
      from_one (earlier first here) keys
      ∙ together first here (firsts None keys)
      ∙ ap (earlier first) (sym (from_one here keys))

  same_key : (key other : List ℕ) → Some key ≡ Some other → key ≡ other
  same_key key other e = cc

  same_naming : (one other : Naming) (o : Option Naming) → o ≡ Some one → o ≡ Some other → one ≡ other
  same_naming one other o p q = cc

  none_some : (o : Option Naming) (one : Naming) → o ≡ None → o ≡ Some one → ⊥
  none_some o one p q = absurd (cc)

  -- of the keys of a list, its first one and the others
  lower_all : (bound : ℕ) (key : List ℕ) (keys : List (List ℕ))
      → ((naming : Naming) → naming_of namings profile key name ≡ Some naming → bound ≤ naming.rule)
      → ((at : ℕ) (other : List ℕ) (naming : Naming) → slice_get keys at ≡ Some other
      → naming_of namings profile other name ≡ Some naming → bound ≤ naming.rule)
      → (at : ℕ) (other : List ℕ) (naming : Naming) → slice_get (key ∷ keys) at ≡ Some other
      → naming_of namings profile other name ≡ Some naming → bound ≤ naming.rule
  lower_all bound key keys here rest zero other naming is there =
      here naming (ap (λ k. naming_of namings profile k name) (same_key key other is) ∙ there)
  lower_all bound key keys here rest (suc at) other naming is there = rest at other naming is there

  before_all : (bound place : ℕ) (key : List ℕ) (keys : List (List ℕ))
      → ((naming : Naming) → naming_of namings profile key name ≡ Some naming → bound < naming.rule)
      → ((at : ℕ) (other : List ℕ) (naming : Naming) → at < place → slice_get keys at ≡ Some other
      → naming_of namings profile other name ≡ Some naming → bound < naming.rule)
      → (at : ℕ) (other : List ℕ) (naming : Naming) → at < suc place
      → slice_get (key ∷ keys) at ≡ Some other
      → naming_of namings profile other name ≡ Some naming → bound < naming.rule
  before_all bound place key keys here rest zero other naming low is there =
      here naming (ap (λ k. naming_of namings profile k name) (same_key key other is) ∙ there)
  before_all bound place key keys here rest (suc at) other naming low is there =
      rest at other naming (omega arith) is there

  -- a first naming at the others, where the one here is not lower
  further : (key : List ℕ) (keys : List (List ℕ)) (first : Naming)
      → ((naming : Naming) → naming_of namings profile key name ≡ Some naming → first.rule < naming.rule)
      → IsFirstAt namings profile keys name first → IsFirstAt namings profile (key ∷ keys) name first
  further key keys first here is =
      record {
        place = suc is.place;
        key = is.key;
        is = is.is;
        there = is.there;
        none_lower = lower_all first.rule key keys
            (λ naming e. let h = here naming e in omega arith) is.none_lower;
        none_before = before_all first.rule is.place key keys here is.none_before;
      }

  nearest : (key : List ℕ) (keys : List (List ℕ)) (first : Naming)
      → naming_of namings profile key name ≡ Some first
      → ((at : ℕ) (other : List ℕ) (naming : Naming) → slice_get keys at ≡ Some other
      → naming_of namings profile other name ≡ Some naming → first.rule ≤ naming.rule)
      → IsFirstAt namings profile (key ∷ keys) name first
  nearest key keys first is rest =
      record {
        place = 0;
        key = key;
        is = refl;
        there = is;
        none_lower = lower_all first.rule key keys
            (λ naming e. let s = ap (λ n. n.rule) (same_naming first naming _ is e) in omega arith) rest;
        none_before = λ at other naming low. absurd (omega arith);
      }

  none_all : (key : List ℕ) (keys : List (List ℕ)) → naming_of namings profile key name ≡ None
      → ((at : ℕ) (other : List ℕ) → slice_get keys at ≡ Some other
      → naming_of namings profile other name ≡ None)
      → (at : ℕ) (other : List ℕ) → slice_get (key ∷ keys) at ≡ Some other
      → naming_of namings profile other name ≡ None
  none_all key keys here rest zero other is =
      ap (λ k. naming_of namings profile k name) (sym (same_key key other is)) ∙ here
  none_all key keys here rest (suc at) other is = rest at other is

  -- the first of the one at a key and of the first at the others
  one_more : (key : List ℕ) (keys : List (List ℕ)) (here rest : Option Naming)
      → naming_of namings profile key name ≡ here → IsFirstNaming namings profile keys name rest
      → IsFirstNaming namings profile (key ∷ keys) name (earlier here rest)
  one_more key keys None None is others = none_all key keys is others
  one_more key keys None (Some first) is others =
      further key keys first (λ naming e. absurd (none_some _ naming is e)) others
  one_more key keys (Some first) None is others =
      nearest key keys first is
      (λ at other naming there e. absurd (none_some _ naming (others at other there) e))
  one_more key keys (Some first) (Some other) is others =
      elim (cases_lt other.rule first.rule) [
        | inl low ↦
            subst (IsFirstNaming namings profile (key ∷ keys) name) (sym (other_first first other low))
            (further key keys other
            (λ naming e. let s = ap (λ n. n.rule) (same_naming first naming _ is e) in omega arith) others)
        | inr high ↦
            subst (IsFirstNaming namings profile (key ∷ keys) name) (sym (one_first first other high))
            (nearest key keys first is (λ at key naming there e.
            let h = others.none_lower at key naming there e in omega arith))
      ]

  pub is_first : (keys : List (List ℕ))
      → IsFirstNaming namings profile keys name (first_naming namings profile keys name)
  unfolding firsts
  is_first [] = λ at key is. absurd (cc)
  is_first (key ∷ keys) =
      subst (IsFirstNaming namings profile (key ∷ keys) name)
      (sym (from_one (naming_of namings profile key name) keys))
      (one_more key keys (naming_of namings profile key name) (first_naming namings profile keys name) refl (is_first keys))
