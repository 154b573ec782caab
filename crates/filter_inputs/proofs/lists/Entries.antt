-- Entries of maps beside the members of objects that they are of.
use Rattle.std.proofs.Common.{◌≡◌, ℕ, List, [], ◌∷◌, Bool, true, false, String, Global, None, Ordering, Less, Equal, Greater, string_bytes, string_cmp, nat_cmp, is_eq, bytes_eq, refl, sym, ap, subst, ◌∙◌, map, true≢false}
use Rattle.std.proofs.lemmas.Map.Text.{is_eq-slice_cmp}
use Rattle.std.proofs.lemmas.Slice.Eq.{bytes_eq-Decides}
use Rattle.std.specs.BTreeMap.{insert_entry}
use Rattle.std.specs.Cmp.Lexicographic.{slice_cmp}
use Rattle.std.specs.List.{AllZip, flat_map}
use Rattle.std.specs.Ordering.{match_ordering}
use Rattle.serde_json.specs.Data.{Data, Members, no_members, member, put}
use Rattle.serde_json.specs.Find.{get_member}
use Rattle.serde_json.proofs.Views.{get_member-put, get_member-put_other}
use Rattle.filter_inputs.specs.Lists.Demands.{first_fault, listed, suite_demands}
use Rattle.filter_inputs.specs.Lists.ListView.{listed_view}
use Rattle.filter_inputs.specs.Lists.Lists.{IsSuiteOf, cases_in, values}
use Rattle.filter_inputs.specs.Lists.Parts.{AreEntriesOf, IsBinaryOf, IsCaseOf, IsEntryOf, entry_case}
use Rattle.filter_inputs.specs.declared.lists.list.ListedBinary.{ListedBinary}
use Rattle.filter_inputs.proofs.lists.FirstFaults.{fault_behind}

module _ {V : Type 0} (R : List ℕ × Data → V → Type 0) (k : String Global) (d : Data) (v : V) where
  entry_put_at : (o : Ordering) (l : List ℕ) (e : Data) (ms : Members) (f : String Global × V)
      (es : List (String Global × V))
      → slice_cmp nat_cmp (string_bytes k) l ≡ o → IsEntryOf R (l, e) f → R (string_bytes k, d) v
      → AreEntriesOf R ms es → AreEntriesOf R (put (string_bytes k) d ms) (insert_entry string_cmp es k v)
      → AreEntriesOf R (match_ordering o (member (string_bytes k) d (member l e ms)) (member l d ms)
      (member l e (put (string_bytes k) d ms)))
      (match_ordering o ((k, v) ∷ f ∷ es) ((f.0, v) ∷ es) (f ∷ insert_entry string_cmp es k v))
  entry_put_at Less l e ms f es at first is are more = ((refl, is), (first, are))
  entry_put_at Equal l e ms f es at first is are more =
      let same : string_bytes k ≡ l =
      (bytes_eq-Decides (string_bytes k) l).0 (sym (is_eq-slice_cmp (string_bytes k) l) ∙ ap is_eq at) in
      ((first.0, subst (λ name. R (name, d) v) same is), are)
  entry_put_at Greater l e ms f es at first is are more = (first, more)

  -- a member that is put and an entry that is inserted
  pub entry_put : (ms : Members) (es : List (String Global × V)) → AreEntriesOf R ms es → R (string_bytes k, d) v
      → AreEntriesOf R (put (string_bytes k) d ms) (insert_entry string_cmp es k v)
  entry_put no_members [] are is = ((refl, is), tt)
  entry_put no_members (f ∷ es) are is = absurd are
  entry_put (member l e ms) [] are is = absurd are
  entry_put (member l e ms) (f ∷ es) are is =
      let more = entry_put ms es are.1 is in
      let o = slice_cmp nat_cmp (string_bytes k) l in
      subst (λ name. AreEntriesOf R
      (match_ordering o (member (string_bytes k) d (member l e ms)) (member l d ms)
      (member l e (put (string_bytes k) d ms)))
      (match_ordering (slice_cmp nat_cmp (string_bytes k) name) ((k, v) ∷ f ∷ es) ((f.0, v) ∷ es)
      (f ∷ insert_entry string_cmp es k v)))
      are.0.0 (entry_put_at o l e ms f es refl are.0 is are.1 more)

-- the tests of the entries of test cases
pub entry_cases : (ms : Members) (es : List (String Global × Bool)) → AreEntriesOf IsCaseOf ms es
    → map entry_case es ≡ cases_in ms
entry_cases no_members [] are = refl
entry_cases no_members (e ∷ es) are = absurd are
entry_cases (member k d ms) [] are = absurd are
entry_cases (member k d ms) (e ∷ es) are =
    rw (are.0.0, are.0.1) (ap (λ cases. entry_case e ∷ cases) (entry_cases ms es are.1))

-- the binaries of the entries of suites
pub entry_suites : (ms : Members) (es : List (String Global × ListedBinary)) → AreEntriesOf IsBinaryOf ms es
    → AllZip IsSuiteOf (values ms) (map listed_view (map (λ e. e.1) es))
    × (first_fault (flat_map suite_demands (listed ms)) ≡ None)
entry_suites no_members [] are = (tt, refl)
entry_suites no_members (e ∷ es) are = absurd are
entry_suites (member k d ms) [] are = absurd are
entry_suites (member k d ms) (e ∷ es) are =
    let rest = entry_suites ms es are.1 in (
      (are.0.1.0, rest.0),
      fault_behind (suite_demands (k, d)) (flat_map suite_demands (listed ms)) None are.0.1.1 rest.1,
    )

-- names with other bytes differ
pub differ_by : (xs ys : List ℕ) → bytes_eq xs ys ≡ false → xs ≡ ys → ⊥
differ_by xs ys is same = true≢false (sym ((bytes_eq-Decides xs ys).1 same) ∙ is)

same_after_put_by : (b : Bool) (other k : List ℕ) (d : Data) (xs ys : Members) → bytes_eq other k ≡ b
    → get_member other xs ≡ get_member other ys → get_member other (put k d xs) ≡ get_member other (put k d ys)
same_after_put_by true other k d xs ys is same =
    let at : other ≡ k = (bytes_eq-Decides other k).0 is in
    ap (λ name. get_member name (put k d xs)) at ∙ get_member-put k d xs
    ∙ sym (ap (λ name. get_member name (put k d ys)) at ∙ get_member-put k d ys)
same_after_put_by false other k d xs ys is same =
    let apart = differ_by other k is in
    get_member-put_other other k d xs apart ∙ same ∙ sym (get_member-put_other other k d ys apart)

-- objects with the same value at a key have it after the same change
pub same_after_put : (other k : List ℕ) (d : Data) (xs ys : Members) → get_member other xs ≡ get_member other ys
    → get_member other (put k d xs) ≡ get_member other (put k d ys)
same_after_put other k d xs ys same = same_after_put_by (bytes_eq other k) other k d xs ys refl same
