-- Verdicts, place by place.
use Rattle.std.proofs.Common.{◌≡◌, ◌≢◌, ℕ, zero, suc, Bool, true, false, ◌&&◌, ◌||◌, cond, Option, Some, None, IfSome, is_some, List, [], ◌∷◌, ◌++◌, take, map, find, slice_get, refl, sym, ◌∙◌, ap, append_assoc}
use Rattle.std.proofs.lemmas.List.{append-nil}
use Rattle.nextest_settings.proofs.StandsFirst.{find-least, find-none}
use Rattle.nextest_settings.specs.Deciding.{QueryContext, filter_holds, rule_holds, decides, winner, StandsFirst}
use Rattle.nextest_settings.specs.Platforms.{EvaluatedRule, is_on}
use Rattle.rinqebo_rules.proofs.Finding.{in_take, to_take, none_found, first_found}
use Rattle.rinqebo_rules.specs.Verdicts.{verdict_of, verdicts_after, verdicts_of, facts_of, IsDeciding}
use Rattle.rinqebo_rules.specs.VerdictsBy.{verdict_by, verdicts_by}
use Rattle.rinqebo_rules.specs.declared.verdict.RuleVerdict.{RuleVerdict}
use Rattle.rinqebo_rules.specs.declared.verdict.RuleVerdict.TheVariants.{Decides}

-- a verdict that decides has all for it
only_decides : (a b c d : Bool) → verdict_by a (a && b) c d ≡ Decides → (((a && b) && c) ≡ true) × (d ≡ false)
only_decides false b c d e = absurd cc
only_decides true false c d e = absurd cc
only_decides true true false d e = absurd cc
only_decides true true true true e = absurd cc
only_decides true true true false e = (refl, refl)

-- and what has all for it decides
decides_with_all : (a b c d : Bool) → ((a && b) && c) ≡ true → d ≡ false → verdict_by a (a && b) c d ≡ Decides
decides_with_all false b c d e f = absurd cc
decides_with_all true false c d e f = absurd cc
decides_with_all true true false d e f = absurd cc
decides_with_all true true true true e f = absurd cc
decides_with_all true true true false e f = refl

none_there : {X : Type 0} (o : Option X) → is_some o ≡ false → o ≡ None
none_there None e = refl
none_there (Some x) e = absurd cc

-- whether the one element is found, by its answer
by_last : {X : Type 0} (x : X) (b : Bool) → is_some (cond b (Some x) None) ≡ b
by_last x true = refl
by_last x false = refl

-- whether something is found, by the answer of the first
by_first : {X : Type 0} (y : X) (b d : Bool) (found rest : Option X)
    → is_some found ≡ (is_some rest || d)
    → is_some (cond b (Some y) found) ≡ (is_some (cond b (Some y) rest) || d)
by_first y true d found rest e = refl
by_first y false d found rest e = e

-- whether something is found in a list and one element more
found_behind : {X : Type 0} (passes : X → Bool) (xs : List X) (x : X)
    → is_some (find passes (xs ++ x ∷ [])) ≡ (is_some (find passes xs) || passes x)
found_behind passes [] x = by_last x (passes x)
found_behind passes (y ∷ ys) x =
    by_first y (passes y) (passes x) (find passes (ys ++ x ∷ [])) (find passes ys) (found_behind passes ys x)

module _ {M W : Type 0} (query : QueryContext M) (wants : W → Bool) where
  -- the verdict at a place is that on the rule there
  verdict_at : (before rules : List (EvaluatedRule M W)) (n : ℕ) (rule : EvaluatedRule M W)
      → slice_get rules n ≡ Some rule
      → slice_get (verdicts_after query wants before rules) n
      ≡ Some (verdict_of query wants (before ++ take n rules) rule)
  verdict_at before [] n rule e = absurd cc
  verdict_at before (r ∷ rules) zero rule e =
      let same : r ≡ rule = cc in
      ap (λ x. Some (verdict_of query wants before x)) same
      ∙ ap (λ front. Some (verdict_of query wants front rule)) (sym (append-nil before))
  verdict_at before (r ∷ rules) (suc n) rule e =
      verdict_at (before ++ r ∷ []) rules n rule e
      ∙ ap (λ front. Some (verdict_of query wants front rule)) (append_assoc before (r ∷ []) (take n rules))

  -- and where there is a verdict, there is a rule
  rule_at : (before rules : List (EvaluatedRule M W)) (n : ℕ) (v : RuleVerdict)
      → slice_get (verdicts_after query wants before rules) n ≡ Some v
      → (rule : EvaluatedRule M W) × (slice_get rules n ≡ Some rule)
  rule_at before [] n v e = absurd cc
  rule_at before (r ∷ rules) zero v e = (r, refl)
  rule_at before (r ∷ rules) (suc n) v e = rule_at (before ++ r ∷ []) rules n v e

  to_deciding : (rules : List (EvaluatedRule M W)) (n : ℕ) (rule : EvaluatedRule M W)
      → slice_get rules n ≡ Some rule → slice_get (verdicts_of query wants rules) n ≡ Some Decides
      → IsDeciding query wants rules n rule
  to_deciding rules n rule at e =
      let is : Some (verdict_of query wants (take n rules) rule) ≡ Some Decides =
      sym (verdict_at [] rules n rule at) ∙ e in
      let same : verdict_of query wants (take n rules) rule ≡ Decides = cc in
      let all = only_decides (is_on rule query.platform) (filter_holds query.matches rule.filter) (wants rule.writes)
      (is_some (winner query wants (take n rules))) same in
      let none = none_there (winner query wants (take n rules)) all.1 in
      record {
        holds = all.0;
        first = λ m earlier lt there. find-none (decides query wants) (take n rules) m earlier none
            (to_take rules n m earlier lt there);
      }

  from_deciding : (rules : List (EvaluatedRule M W)) (n : ℕ) (rule : EvaluatedRule M W)
      → slice_get rules n ≡ Some rule → IsDeciding query wants rules n rule
      → slice_get (verdicts_of query wants rules) n ≡ Some Decides
  from_deciding rules n rule at h =
      let none = none_found (decides query wants) (take n rules)
      (λ m y e. (let p = in_take rules n m y e in h.first m y p.0 p.1)) in
      verdict_at [] rules n rule at
      ∙ ap Some (decides_with_all (is_on rule query.platform) (filter_holds query.matches rule.filter)
      (wants rule.writes) (is_some (winner query wants (take n rules))) h.holds (ap is_some none))

  pub verdicts-nth : (rules : List (EvaluatedRule M W)) (n : ℕ) (rule : EvaluatedRule M W)
      → slice_get rules n ≡ Some rule
      → (slice_get (verdicts_of query wants rules) n ≡ Some Decides → IsDeciding query wants rules n rule)
      × (IsDeciding query wants rules n rule → slice_get (verdicts_of query wants rules) n ≡ Some Decides)
  verdicts-nth rules n rule at = (to_deciding rules n rule at, from_deciding rules n rule at)

  pub verdicts-winner : (rules : List (EvaluatedRule M W)) (n : ℕ)
      → slice_get (verdicts_of query wants rules) n ≡ Some Decides
      → winner query wants rules ≡ slice_get rules n
  verdicts-winner rules n e =
      let there = rule_at [] rules n Decides e in
      let h = to_deciding rules n there.0 there.1 e in
      first_found (decides query wants) rules n there.0 there.1 h.holds h.first ∙ sym there.1

  none_decides : (rules : List (EvaluatedRule M W)) → winner query wants rules ≡ None
      → (n : ℕ) → slice_get (verdicts_of query wants rules) n ≢ Some Decides
  none_decides rules none n e =
      let there = rule_at [] rules n Decides e in
      let h = to_deciding rules n there.0 there.1 e in
      let fails = find-none (decides query wants) rules n there.0 none there.1 in
      let holds = h.holds in
      absurd cc

  some_decides : (rules : List (EvaluatedRule M W)) (o : Option (EvaluatedRule M W))
      → IfSome o (StandsFirst (decides query wants) rules)
      → ((n : ℕ) → slice_get (verdicts_of query wants rules) n ≢ Some Decides) → o ≡ None
  some_decides rules None h never = refl
  some_decides rules (Some rule) h never =
      absurd (never h.0 (from_deciding rules h.0 rule h.1 (record { holds = h.2; first = h.3 })))

  pub verdicts-none : (rules : List (EvaluatedRule M W))
      → (winner query wants rules ≡ None → ((n : ℕ) → slice_get (verdicts_of query wants rules) n ≢ Some Decides))
      × (((n : ℕ) → slice_get (verdicts_of query wants rules) n ≢ Some Decides) → winner query wants rules ≡ None)
  verdicts-none rules =
      (none_decides rules, some_decides rules (winner query wants rules) (find-least (decides query wants) rules))

  facts_after : (before rules : List (EvaluatedRule M W)) (decided : Bool)
      → is_some (winner query wants before) ≡ decided
      → verdicts_after query wants before rules ≡ verdicts_by decided (map (facts_of query wants) rules)
  facts_after before [] decided e = refl
  facts_after before (r ∷ rules) decided e =
      let next : is_some (winner query wants (before ++ r ∷ [])) ≡ (decided || decides query wants r) =
      found_behind (decides query wants) before r ∙ ap (λ b. b || decides query wants r) e in
      ap (λ b. verdict_by (is_on r query.platform) (rule_holds query r) (wants r.writes) b
      ∷ verdicts_after query wants (before ++ r ∷ []) rules) e
      ∙ ap (λ rest. verdict_by (is_on r query.platform) (rule_holds query r) (wants r.writes)
      decided ∷ rest)
      (facts_after (before ++ r ∷ []) rules (decided || decides query wants r) next)

  pub verdicts-facts : (rules : List (EvaluatedRule M W))
      → verdicts_of query wants rules ≡ verdicts_by false (map (facts_of query wants) rules)
  verdicts-facts rules = facts_after [] rules false refl
