-- Tests that are compared one after another.
use Rattle.std.proofs.Common.{◌≡◌, ◌∙◌, ℕ, ◌+◌, Bool, false, List, [], ◌∷◌, ◌++◌, Option, None, Some, MatchOption, IfOk, Result, Ok, Err, append_assoc, length-append, refl, sym, ap, subst, arith}
use Rattle.std.specs.List.{filter_map}
use Rattle.std.specs.Option.{option_to_list}
use Rattle.std.proofs.lemmas.List.{append-nil}
use Rattle.std.proofs.lemmas.List.Elements.{filter_map-append}
use Rattle.filter_inputs.specs.Lists.Lists.{ListTest}
use Rattle.rinqebo_changes.specs.Changes.{changed_rows, rows_in, IsChangedTest}
use Rattle.rinqebo_changes.specs.declared.change.SideRow.{SideRow}
use Rattle.rinqebo_changes.specs.declared.change.TestChanges.{TestChanges}
use Rattle.rinqebo_report.specs.declared.report.TestRows.{TestRows}
use Rattle.rinqebo_request.specs.declared.request.RequestedSettings.{RequestedSettings}
use Rattle.rinqebo_origins.specs.TestOrigins.{Basis}
use Rattle.rinqebo_changes.specs.Sides.Matched.{is_in, HasPair, TestPair}
use Rattle.rinqebo_changes.proofs.Matching.{pair_lacking, pair_one, pairs_behind, pairs_none}
use Rattle.rinqebo_changes.proofs.Zips.{zip_behind}
use Rattle.rinqebo_diff.specs.Compared.{AddsCompared, AddsTest, AreTestsCompared, IsComparedBy}
use Rattle.rinqebo_diff.specs.declared.compared.ComparedTests.{ComparedTests}

-- what is kept of one result
kept_one : {X : Type 0} (r : Option X) → option_to_list r ≡ filter_map (λ q. q) (r ∷ [])
kept_one None = refl
kept_one (Some x) = refl

-- what changes for a pair, by the rows that each side reports
pub compared_by : (left right : ListTest → TestRows → Type 0) (changes : SideRow → SideRow → Bool) {E : Type 0}
    (with_runs : Bool) (pair : TestPair) (before after : TestRows) (result : Result (Option TestChanges) E)
    → left pair.from before → right pair.to after
    → IfOk result (λ found. MatchOption found
    (changed_rows changes (rows_in with_runs before) (rows_in with_runs after) ≡ [])
    (IsChangedTest changes with_runs before after))
    → IfOk result (IsComparedBy left right changes with_runs pair)
compared_by left right changes with_runs pair before after (Ok found) l r verdict =
    record { before = before; after = after; left_reports = l; right_reports = r; verdict = verdict }
compared_by left right changes with_runs pair before after (Err e) l r verdict = tt

-- what is said of settings and of where origins are looked up is said of them by other names
pub renamed : (P : RequestedSettings → RequestedSettings → Bool → Basis → Basis → Type 0)
    (one two asked : RequestedSettings) (runs with_runs : Bool) (a b c d : Basis) → one ≡ asked → two ≡ asked
    → runs ≡ with_runs → a ≡ b → c ≡ d → P one two runs a c → P asked asked with_runs b d
renamed P one two asked runs with_runs a b c d is_one is_two is_runs is_left is_right is =
    subst (P asked asked with_runs b) is_right
    (subst (λ left. P asked asked with_runs left c) is_left
    (subst (λ with. P asked asked with a c) is_runs
    (subst (λ other. P asked other runs a c) is_two
    (subst (λ other. P other two runs a c) is_one is))))

-- what is said of two things is said of them by other names
pub by_names : {A B : Type 0} (a b : A) (c d : B) → a ≡ b → c ≡ d → (P : A → B → Type 0) → P a c → P b d
by_names a b c d one two P is = subst (P b) two (subst (λ x. P x c) one is)

module _ (left right : ListTest → TestRows → Type 0) (changes : SideRow → SideRow → Bool) (with_runs : Bool)
    (from : List ListTest) where
  abbrev AreSo : List ListTest → List TestChanges → ℕ → Type 0
  AreSo = AreTestsCompared left right changes with_runs from

  -- tests are compared behind others
  abbrev Adds : List ListTest → ComparedTests → ComparedTests → Type 0
  Adds = AddsCompared left right changes with_runs from

  so_none : AreSo [] [] 0
  so_none = record {
    pairs = [];
    are_pairs = pairs_none from;
    are_compared = record { results = []; each = tt; kept = refl };
    counted = refl;
  }

  so_behind : (xs ys : List ListTest) (cs ds : List TestChanges) (n m : ℕ) → AreSo xs cs n → AreSo ys ds m
      → AreSo (xs ++ ys) (cs ++ ds) (n + m)
  so_behind xs ys cs ds n m one two = record {
    pairs = one.pairs ++ two.pairs;
    are_pairs = pairs_behind from xs ys one.pairs two.pairs one.are_pairs two.are_pairs;
    are_compared = record {
      results = one.are_compared.results ++ two.are_compared.results;
      each = zip_behind (IsComparedBy left right changes with_runs) one.pairs two.pairs one.are_compared.results
          two.are_compared.results one.are_compared.each two.are_compared.each;
      kept = (λ i. one.are_compared.kept i ++ two.are_compared.kept i)
          ∙ sym (filter_map-append (λ q. q) one.are_compared.results two.are_compared.results);
    };
    counted = (λ i. one.counted i + two.counted i) ∙ sym (length-append one.pairs two.pairs);
  }

  -- no test is compared
  pub adds_none : (old new : ComparedTests) → new.changed.items ≡ old.changed.items → new.count ≡ old.count → Adds [] old new
  adds_none old new same count = record {
    added = [];
    number = 0;
    are = so_none;
    changed = same ∙ sym (append-nil old.changed.items);
    count = omega (arith, count);
  }

  -- a test that the left list lacks is not compared
  pub adds_lacking : (test : ListTest) (old new : ComparedTests) → is_in from test ≡ false
      → new.changed.items ≡ old.changed.items → new.count ≡ old.count → Adds (test ∷ []) old new
  adds_lacking test old new none same count = record {
    added = [];
    number = 0;
    are = record {
      pairs = [];
      are_pairs = pair_lacking from test none;
      are_compared = record { results = []; each = tt; kept = refl };
      counted = refl;
    };
    changed = same ∙ sym (append-nil old.changed.items);
    count = omega (arith, count);
  }

  -- a test that the left list has is compared
  pub adds_test : (test : ListTest) (pair : TestPair) (result : Option TestChanges) (old new : ComparedTests)
      → HasPair from test pair → IsComparedBy left right changes with_runs pair result → AddsTest result old new
      → Adds (test ∷ []) old new
  adds_test test pair result old new has by adds = record {
    added = option_to_list result;
    number = 1;
    are = record {
      pairs = pair ∷ [];
      are_pairs = pair_one from test pair has;
      are_compared = record { results = result ∷ []; each = (by, tt); kept = kept_one result };
      counted = refl;
    };
    changed = adds.changed;
    count = adds.count;
  }

  -- more tests are compared
  pub adds_more : (xs ys zs : List ListTest) (a b c : ComparedTests) → zs ≡ xs ++ ys → Adds xs a b → Adds ys b c
      → Adds zs a c
  adds_more xs ys zs a b c is one two = record {
    added = one.added ++ two.added;
    number = one.number + two.number;
    are = subst (λ ts. AreSo ts (one.added ++ two.added) (one.number + two.number)) (sym is)
        (so_behind xs ys one.added two.added one.number two.number one.are two.are);
    changed = two.changed ∙ ap (λ cs. cs ++ two.added) one.changed ∙ append_assoc a.changed.items one.added two.added;
    count = omega (arith, one.count, two.count);
  }
