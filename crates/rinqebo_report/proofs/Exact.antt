-- Values that nest to a depth at most, and have no number that is a float.
use Rattle.std.proofs.Common.{◌≡◌, ◌≤◌, ◌+◌, ℕ, Bool, true, false, ◌||◌, List, [], ◌∷◌, map, fold, refl, arith}
use Rattle.std.specs.Cmp.Lexicographic.{slice_cmp}
use Rattle.std.specs.declared.cmp.Ordering.{Ordering}
use Rattle.std.specs.declared.cmp.Ordering.TheVariants.{Less, Equal, Greater}
use Rattle.std.specs.Ordering.{nat_cmp, match_ordering}
use Rattle.serde_json.specs.Data.{Data, null, boolean, string, object, Members, no_members, member, put, depth, items_depth, members_depth}
use Rattle.serde_json.specs.View.{items_of}
use Rattle.serde_json.specs.Written.{has_float, items_have_float, members_have_float}
use Rattle.rinqebo_report.specs.Documents.{list_data}
use Rattle.rinqebo_report.specs.Filled.{is_empty_data, put_filled, put_unless}

pub record IsExact (n : ℕ) (d : Data) : Type 0 where
  pub nests : depth d ≤ n
  pub whole : has_float d ≡ false

pub record AreExact (n : ℕ) (ms : Members) : Type 0 where
  pub nests : members_depth ms ≤ n
  pub whole : members_have_float ms ≡ false

-- a text, a truth, and nothing
pub exact_text : (n : ℕ) (s : List ℕ) → IsExact n (string s)
exact_text n s = record { nests = omega arith; whole = refl }

pub exact_null : (n : ℕ) → IsExact n null
exact_null n = record { nests = omega arith; whole = refl }

pub exact_truth : (n : ℕ) (b : Bool) → IsExact n (boolean b)
exact_truth n b = record { nests = omega arith; whole = refl }

-- a list
items_of_exact : {X : Type 0} (n : ℕ) (f : X → Data) → ((x : X) → IsExact n (f x)) → (xs : List X)
    → (items_depth (items_of (map f xs)) ≤ n) × (items_have_float (items_of (map f xs)) ≡ false)
items_of_exact n f each [] = (omega arith, refl)
items_of_exact n f each (x ∷ xs) =
    let rest = items_of_exact n f each xs in
    let first = each x in
    (omega (arith, first.nests, rest.0), rw first.whole rest.1)

pub exact_list : {X : Type 0} (n : ℕ) (f : X → Data) → ((x : X) → IsExact n (f x)) → (xs : List X)
    → IsExact (n + 1) (list_data f xs)
exact_list n f each xs =
    let items = items_of_exact n f each xs in
    record { nests = omega (arith, items.0); whole = items.1 }

-- members
pub no_more : (n : ℕ) → AreExact n no_members
no_more n = record { nests = omega arith; whole = refl }

pub and_member : {n : ℕ} {d : Data} {ms : Members} (k : List ℕ) → IsExact n d → AreExact n ms
    → AreExact n (member k d ms)
and_member k first rest =
    record { nests = omega (arith, first.nests, rest.nests); whole = rw first.whole rest.whole }

pub exact_object : (n : ℕ) {ms : Members} → AreExact n ms → IsExact (n + 1) (object ms)
exact_object n h = record { nests = omega (arith, h.nests); whole = h.whole }

neither : (a b : Bool) → a || b ≡ false → (a ≡ false) × (b ≡ false)
neither true b h = absurd (cc)
neither false b h = (refl, h)

parts : {n : ℕ} (l : List ℕ) (e : Data) (ms : Members) → AreExact n (member l e ms) → IsExact n e × AreExact n ms
parts l e ms h =
    let whole = neither (has_float e) (members_have_float ms) h.whole in (
      record { nests = omega (arith, h.nests); whole = whole.0 },
      record { nests = omega (arith, h.nests); whole = whole.1 },
    )

pub exact_put : {n : ℕ} (k : List ℕ) (d : Data) (ms : Members) → IsExact n d → AreExact n ms → AreExact n (put k d ms)
exact_put k d no_members first h = and_member k first h
exact_put {n} k d (member l e ms) first h =
    let rest = parts l e ms h in
    let P : Ordering → Type 0 =
    λ o. AreExact n (match_ordering o (member k d (member l e ms)) (member l d ms) (member l e (put k d ms))) in
    elim (slice_cmp nat_cmp k l) as P [
      | Less ↦ and_member k first h
      | Equal ↦ and_member l first rest.1
      | Greater ↦ and_member l rest.0 (exact_put k d ms first rest.1)
    ]

pub exact_filled : {n : ℕ} (k : List ℕ) (d : Data) (ms : Members) → IsExact n d → AreExact n ms
    → AreExact n (put_filled k d ms)
exact_filled {n} k d ms first h =
    let P : Bool → Type 0 = λ b. AreExact n (put_unless b k d ms) in
    elim (is_empty_data d) as P [
      | true ↦ h
      | false ↦ exact_put k d ms first h
    ]

pub exact_puts : {X : Type 0} (n : ℕ) (key : X → List ℕ) (f : X → Data) → ((x : X) → IsExact n (f x))
    → (xs : List X) (ms : Members) → AreExact n ms → AreExact n (fold (λ members x. put (key x) (f x) members) ms xs)
exact_puts n key f each [] ms h = h
exact_puts n key f each (x ∷ xs) ms h =
    exact_puts n key f each xs (put (key x) (f x) ms) (exact_put (key x) (f x) ms (each x) h)
