-- The rows that change are exactly those between which something changes, each once.
use Rattle.std.proofs.Common.{◌≡◌, ℕ, ◌<◌, ◌≤◌, ◌+◌, ◌∙◌, Bool, true, false, cond, List, [], ◌∷◌, None, Some, map, filter, zero, suc, refl, sym, ap, subst, arith}
use Rattle.std.specs.List.{AllByRecursion, enumerate_from, zip}
use Rattle.std.specs.Prelude.{slice_get}
use Rattle.rinqebo_changes.specs.declared.change.RowChange.{RowChange}
use Rattle.rinqebo_changes.specs.declared.change.SideRow.{SideRow}
use Rattle.rinqebo_changes.specs.Changes.{changed_rows, change_of}
use Rattle.rinqebo_changes.specs.Laws.{IsOneOf, IsChangeAt, AreRising, AreExactly}

-- the rows that change, with places from n on
abbrev pub changed_from : (SideRow → SideRow → Bool) → ℕ → List SideRow → List SideRow → List RowChange
changed_from test n from to =
    filter (λ c. test c.from c.to) (map change_of (enumerate_from n (zip from to)))

-- a change is of two rows at a place from n on
record Found (test : SideRow → SideRow → Bool) (n : ℕ) (from to : List SideRow) (c : RowChange) : Type 0 where
  k : ℕ
  place : c.place ≡ n + k
  left_row : slice_get from k ≡ Some c.from
  right_row : slice_get to k ≡ Some c.to
  changes : test c.from c.to ≡ true

-- one that is found behind the first rows is found
found_behind : (test : SideRow → SideRow → Bool) (n : ℕ) (a b : SideRow) (from to : List SideRow)
    (c : RowChange) → Found test (n + 1) from to c → Found test n (a ∷ from) (b ∷ to) c
found_behind test n a b from to c f = record {
  k = suc f.k;
  place = omega (arith, f.place);
  left_row = f.left_row;
  right_row = f.right_row;
  changes = f.changes;
}

sound_step : (test : SideRow → SideRow → Bool) (n : ℕ) (a b : SideRow) (from to : List SideRow)
    (c : RowChange) (q : Bool) → test a b ≡ q
    → ((i : ℕ) → slice_get (changed_from test (n + 1) from to) i ≡ Some c → Found test (n + 1) from to c)
    → (i : ℕ) → slice_get (cond q (change_of (n, (a, b)) ∷ changed_from test (n + 1) from to)
    (changed_from test (n + 1) from to)) i ≡ Some c → Found test n (a ∷ from) (b ∷ to) c
sound_step test n a b from to c false is behind i here = found_behind test n a b from to c (behind i here)
sound_step test n a b from to c true is behind zero here =
    let same : change_of (n, (a, b)) ≡ c = cc in record {
      k = 0;
      place = sym (ap (λ d. d.place) same) ∙ (omega arith);
      left_row = ap (λ d. Some d.from) same;
      right_row = ap (λ d. Some d.to) same;
      changes = subst (λ d. test d.from d.to ≡ true) same is;
    }
sound_step test n a b from to c true is behind (suc i) here = found_behind test n a b from to c (behind i here)

sound_from : (test : SideRow → SideRow → Bool) (n : ℕ) (from to : List SideRow) (c : RowChange) (i : ℕ)
    → slice_get (changed_from test n from to) i ≡ Some c → Found test n from to c
sound_from test n [] to c i here = absurd (let no : None ≡ Some c = here in cc)
sound_from test n (a ∷ from) [] c i here = absurd (let no : None ≡ Some c = here in cc)
sound_from test n (a ∷ from) (b ∷ to) c i here =
    sound_step test n a b from to c (test a b) refl (sound_from test (n + 1) from to c) i here

-- one that is behind others is one of them all
one_behind : (q : Bool) (x : RowChange) (xs : List RowChange) (c : RowChange) → IsOneOf xs c
    → IsOneOf (cond q (x ∷ xs) xs) c
one_behind true x xs c one = record { index = suc one.index; here = one.here }
one_behind false x xs c one = one

-- the first one is one of them, if it passes
first_one : (q : Bool) (x : RowChange) (xs : List RowChange) (c : RowChange) → q ≡ true → x ≡ c
    → IsOneOf (cond q (x ∷ xs) xs) c
first_one true x xs c passes is = record { index = 0; here = ap Some is }
first_one false x xs c passes is = absurd (cc)

-- changes of equal parts
alike : (m k : ℕ) (a f b t : SideRow) → m ≡ k → a ≡ f → b ≡ t
    → ◌≡◌ {A = RowChange} (change_of (m, (a, b))) (record { place = k; from = f; to = t })
alike m k a f b t p e g = λ i. record { place = p i; from = e i; to = g i }

whole_from : (test : SideRow → SideRow → Bool) (n : ℕ) (from to : List SideRow) (k : ℕ) (f t : SideRow)
    → slice_get from k ≡ Some f → slice_get to k ≡ Some t → test f t ≡ true
    → IsOneOf (changed_from test n from to) (record { place = n + k; from = f; to = t })
whole_from test n [] to k f t left right changes = absurd (let no : None ≡ Some f = left in cc)
whole_from test n (a ∷ from) [] k f t left right changes = absurd (let no : None ≡ Some t = right in cc)
whole_from test n (a ∷ from) (b ∷ to) zero f t left right changes =
    let e : a ≡ f = cc in
    let g : b ≡ t = cc in
    let is : test a b ≡ true = ap (λ r. test r b) e ∙ ap (λ r. test f r) g ∙ changes in
    first_one (test a b) (change_of (n, (a, b))) (changed_from test (n + 1) from to)
    (record { place = n + 0; from = f; to = t }) is (alike n (n + 0) a f b t (omega arith) e g)
whole_from test n (a ∷ from) (b ∷ to) (suc k) f t left right changes =
    let behind = whole_from test (n + 1) from to k f t left right changes in
    let same : (n + 1) + k ≡ n + suc k = omega arith in
    let Here : ℕ → Type 0 = λ m. IsOneOf (changed_from test (n + 1) from to) (record { place = m; from = f; to = t }) in
    one_behind (test a b) (change_of (n, (a, b))) (changed_from test (n + 1) from to)
    (record { place = n + suc k; from = f; to = t }) (subst Here same behind)

-- places from n on are n at least, and rise
record Rises (n : ℕ) (ns : List ℕ) : Type 0 where
  above : AllByRecursion (λ m. n ≤ m) ns
  rising : AreRising ns

weaker : (n m : ℕ) → n ≤ m → (ns : List ℕ) → AllByRecursion (λ k. m ≤ k) ns → AllByRecursion (λ k. n ≤ k) ns
weaker n m le [] all = tt
weaker n m le (k ∷ ks) all = (let h : m ≤ k = all.0 in omega arith, weaker n m le ks all.1)

stronger : (n : ℕ) → (ns : List ℕ) → AllByRecursion (λ k. n + 1 ≤ k) ns → AllByRecursion (λ k. n < k) ns
stronger n [] all = tt
stronger n (k ∷ ks) all = (let h : n + 1 ≤ k = all.0 in omega arith, stronger n ks all.1)

rises_step : (q : Bool) (n : ℕ) (a b : SideRow) (cs : List RowChange)
    → Rises (n + 1) (map (λ c. c.place) cs)
    → Rises n (map (λ c. c.place) (cond q (change_of (n, (a, b)) ∷ cs) cs))
rises_step false n a b cs r =
    record { above = weaker n (n + 1) (omega arith) (map (λ c. c.place) cs) r.above; rising = r.rising }
rises_step true n a b cs r = record {
  above = (omega arith, weaker n (n + 1) (omega arith) (map (λ c. c.place) cs) r.above);
  rising = (stronger n (map (λ c. c.place) cs) r.above, r.rising);
}

rises_from : (test : SideRow → SideRow → Bool) (n : ℕ) (from to : List SideRow)
    → Rises n (map (λ c. c.place) (changed_from test n from to))
rises_from test n [] to = record { above = tt; rising = tt }
rises_from test n (a ∷ from) [] = record { above = tt; rising = tt }
rises_from test n (a ∷ from) (b ∷ to) =
    rises_step (test a b) n a b (changed_from test (n + 1) from to) (rises_from test (n + 1) from to)

pub exactly : (test : SideRow → SideRow → Bool) (from to : List SideRow) → AreExactly test from to
exactly test from to = record {
  sound = λ c one. at_place c (sound_from test 0 from to c one.index one.here);
  whole = λ c at. from_place c (whole_from test 0 from to c.place c.from c.to at.left_row at.right_row at.changes);
  once = (rises_from test 0 from to).rising;
}
  where
    at_place : (c : RowChange) → Found test 0 from to c → IsChangeAt test from to c
    at_place c f =
        let same : f.k ≡ c.place = omega (arith, f.place) in record {
          left_row = subst (λ k. slice_get from k ≡ Some c.from) same f.left_row;
          right_row = subst (λ k. slice_get to k ≡ Some c.to) same f.right_row;
          changes = f.changes;
        }

    from_place : (c : RowChange) → IsOneOf (changed_from test 0 from to) (record { place = 0 + c.place; from = c.from; to = c.to })
        → IsOneOf (changed_rows test from to) c
    from_place c one =
        subst (λ m. IsOneOf (changed_from test 0 from to) (record { place = m; from = c.from; to = c.to }))
        (let e : 0 + c.place ≡ c.place = omega arith in e) one
