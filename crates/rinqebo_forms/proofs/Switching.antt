-- What is written switches features on, one after another.
use Rattle.std.proofs.Common.{◌≡◌, ◌∙◌, ◌<◌, ◌+◌, ◌||◌, ◌↔◌, ◌⊎◌, inl, inr, ℕ, List, [], ◌∷◌, Bool, true, false, IsTrue, Option, Some, None, Ordering, Less, Equal, Greater, ap, get_or, length, map, refl, subst, sym, take, unwrap_or}
use Rattle.std.proofs.lemmas.List.Folds.{list_any_more}
use Rattle.std.proofs.lemmas.Slice.Eq.{bytes_eq-Decides}
use Rattle.std.specs.BTreeSet.{BTreeSet, insert_key}
use Rattle.std.specs.List.{list_any}
use Rattle.std.specs.Option.{option_and_then, option_map_or}
use Rattle.std.specs.Ordering.{match_ordering}
use Rattle.std.specs.Str.{bytes_eq}
use Rattle.nextest_elements.specs.declared.experimental.ConfigExperimental.{ConfigExperimental}
use Rattle.nextest_elements.specs.declared.experimental.ConfigExperimental.TheVariants.{SetupScripts, WrapperScripts}
use Rattle.nextest_rules.specs.KnownView.{features_view, is_feature}
use Rattle.nextest_tree.specs.Node.{Node, table, array, text, int, bool, opaque, Nodes, as_array, as_bool, as_text, member_of}
use Rattle.nextest_tree.specs.View.{nodes_of}
use Rattle.rinqebo_forms.specs.declared.features.TheConstants.{FEATURES}
use Rattle.rinqebo_forms.specs.Features.{is_this_text, AreAdded, AreWith, IsNamedIn, IsSwitchedOnBy, SwitchesOn}

not_true : false ≡ true → ⊥
not_true is = absurd (cc)

not_among : {P : Type 0} → IsTrue false × P → ⊥
not_among q = not_true q.0

or_of : (a b : Bool) → IsTrue a ⊎ IsTrue b → IsTrue (a || b)
or_of true b either = refl
or_of false b (inl is) = absurd (not_true is)
or_of false b (inr is) = is

or_either : (a b : Bool) → IsTrue (a || b) → IsTrue a ⊎ IsTrue b
or_either true b is = inl refl
or_either false b is = inr is

or_false : (a : Bool) → (a || false) ≡ a
or_false true = refl
or_false false = refl

or_again : (a b c : Bool) → a ≡ b → (b || c) ≡ (a || (b || c))
or_again true true c same = refl
or_again true false c same = absurd (cc)
or_again false true c same = refl
or_again false false c same = refl

or_swap : (a b c : Bool) → (a || (b || c)) ≡ (b || (a || c))
or_swap true true c = refl
or_swap true false c = refl
or_swap false b c = refl

either_by : {P Q A B : Type 0} → (P → A) → (Q → B) → P ⊎ Q → A ⊎ B
either_by f g (inl p) = inl (f p)
either_by f g (inr q) = inr (g q)

-- two tests, each of a fact
or_both : (a b : Bool) {P Q : Type 0} → (IsTrue a ↔ P) → (IsTrue b ↔ Q) → IsTrue (a || b) ↔ (P ⊎ Q)
or_both a b p q =
    ((λ is. either_by p.0 q.0 (or_either a b is)), (λ either. or_of a b (either_by p.1 q.1 either)))

-- what true is there says
pub true_there : (o : Option Node) → IsTrue (unwrap_or (option_and_then as_bool o) false) ↔ (o ≡ Some (bool true))
true_there None = ((λ is. absurd (cc)), (λ is. absurd (cc)))
true_there (Some (bool true)) = ((λ is. refl), (λ is. refl))
true_there (Some (bool false)) = ((λ is. absurd (cc)), (λ is. absurd (cc)))
true_there (Some (table es)) = ((λ is. absurd (cc)), (λ is. absurd (cc)))
true_there (Some (array ns)) = ((λ is. absurd (cc)), (λ is. absurd (cc)))
true_there (Some (text s)) = ((λ is. absurd (cc)), (λ is. absurd (cc)))
true_there (Some (int z)) = ((λ is. absurd (cc)), (λ is. absurd (cc)))
true_there (Some opaque) = ((λ is. absurd (cc)), (λ is. absurd (cc)))

text_there : (name : List ℕ) (o : Option (List ℕ))
    → IsTrue (option_map_or (λ written. bytes_eq written name) o false) ↔ (o ≡ Some name)
text_there name None = ((λ is. absurd (cc)), (λ is. absurd (cc)))
text_there name (Some written) = (
  (λ is. ap Some ((bytes_eq-Decides written name).0 is)),
  (λ is. (bytes_eq-Decides written name).1 (ap (λ o. unwrap_or o written) is)),
)

-- an item of some is a text where the list of their nodes names it
pub named_there : {X : Type 0} (view : X → Node) (name : List ℕ) (items : List X)
    → IsTrue (list_any (λ item. is_this_text name (view item)) items) ↔ IsNamedIn name (nodes_of (map view items))
named_there view name [] = ((λ is. absurd (cc)), (λ none. absurd none))
named_there view name (item ∷ items) =
    or_both (is_this_text name (view item)) (list_any (λ other. is_this_text name (view other)) items)
    (text_there name (as_text (view item))) (named_there view name items)

-- a list switches on what it names
pub listed : (n : Node) (items : Nodes) (name : List ℕ) (b : Bool) → Some items ≡ as_array n
    → (IsTrue b ↔ IsNamedIn name items) → IsTrue b ↔ SwitchesOn n name
listed (array ns) items name b is holds =
    let same : items ≡ ns = cc in subst (λ list. IsTrue b ↔ IsNamedIn name list) same holds
listed (table es) items name b is holds = absurd (cc)
listed (text s) items name b is holds = absurd (cc)
listed (int z) items name b is holds = absurd (cc)
listed (bool t) items name b is holds = absurd (cc)
listed opaque items name b is holds = absurd (cc)

nothing_there : (n : Node) → None ≡ Some n → ⊥
nothing_there n is = absurd (cc)

-- anything else switches on a name by a member alone
pub unlisted : (n : Node) (name : List ℕ) (b : Bool) → None ≡ as_array n
    → (IsTrue b ↔ (member_of name n ≡ Some (bool true))) → IsTrue b ↔ SwitchesOn n name
unlisted (array ns) name b is holds = absurd (cc)
unlisted (table es) name b is holds = holds
unlisted (text s) name b is holds = ((λ t. nothing_there (bool true) (holds.0 t)), (λ none. absurd none))
unlisted (int z) name b is holds = ((λ t. nothing_there (bool true) (holds.0 t)), (λ none. absurd none))
unlisted (bool t) name b is holds = ((λ t. nothing_there (bool true) (holds.0 t)), (λ none. absurd none))
unlisted opaque name b is holds = ((λ t. nothing_there (bool true) (holds.0 t)), (λ none. absurd none))

module _ (cmp : ConfigExperimental → ConfigExperimental → Ordering) (one : cmp SetupScripts WrapperScripts ≡ Less)
    (other : cmp WrapperScripts SetupScripts ≡ Greater) where
  equal : (k x : ConfigExperimental) → cmp k x ≡ Equal → k ≡ x
  equal SetupScripts SetupScripts is = refl
  equal SetupScripts WrapperScripts is = absurd (cc)
  equal WrapperScripts SetupScripts is = absurd (cc)
  equal WrapperScripts WrapperScripts is = refl

  inserted_at : (o : Ordering) (f k x : ConfigExperimental) (xs : List ConfigExperimental) → cmp k x ≡ o
      → list_any (is_feature f) (insert_key cmp xs k) ≡ (is_feature f k || list_any (is_feature f) xs)
      → list_any (is_feature f) (match_ordering o (k ∷ x ∷ xs) (x ∷ xs) (x ∷ insert_key cmp xs k))
      ≡ (is_feature f k || list_any (is_feature f) (x ∷ xs))
  inserted_at Less f k x xs is next = refl
  inserted_at Equal f k x xs is next =
      or_again (is_feature f k) (is_feature f x) (list_any (is_feature f) xs) (ap (is_feature f) (equal k x is))
  inserted_at Greater f k x xs is next =
      ap (λ b. is_feature f x || b) next ∙ or_swap (is_feature f x) (is_feature f k) (list_any (is_feature f) xs)

  inserted : (f k : ConfigExperimental) (xs : List ConfigExperimental)
      → list_any (is_feature f) (insert_key cmp xs k) ≡ (is_feature f k || list_any (is_feature f) xs)
  inserted f k [] = refl
  inserted f k (x ∷ xs) = inserted_at (cmp k x) f k x xs refl (inserted f k xs)

only : {Q : Type 0} (b : Bool) → (Q → ⊥) → IsTrue b ⊎ Q → IsTrue b
only b none (inl is) = is
only b none (inr q) = absurd (none q)

-- what is so stays so beside nothing
stays : {Q : Type 0} (b : Bool) → (Q → ⊥) → IsTrue b ↔ (IsTrue b ⊎ Q)
stays b none = ((λ is. inl is), (λ either. only b none either))

added_by : (f k : ConfigExperimental) (b a : Bool) (IsOn : ConfigExperimental → Type 0) → a ≡ (is_feature f k || b)
    → IsOn k → IsTrue a ↔ (IsTrue b ⊎ (IsTrue (is_feature f k || false) × IsOn f))
added_by SetupScripts SetupScripts b a IsOn is on = ((λ t. inr (refl, on)), (λ either. is))
added_by WrapperScripts WrapperScripts b a IsOn is on = ((λ t. inr (refl, on)), (λ either. is))
added_by SetupScripts WrapperScripts b a IsOn is on =
    ((λ t. inl (sym is ∙ t)), (λ either. is ∙ only b not_among either))
added_by WrapperScripts SetupScripts b a IsOn is on =
    ((λ t. inl (sym is ∙ t)), (λ either. is ∙ only b not_among either))

-- a feature that is on is put in
pub added : (cmp : ConfigExperimental → ConfigExperimental → Ordering) (k : ConfigExperimental)
    (before after : BTreeSet ConfigExperimental) → after.keys ≡ insert_key cmp before.keys k
    → cmp SetupScripts WrapperScripts ≡ Less → cmp WrapperScripts SetupScripts ≡ Greater
    → (IsOn : ConfigExperimental → Type 0) → IsOn k → AreAdded IsOn (k ∷ []) before after
added cmp k before after keys one other IsOn on f =
    added_by f k (features_view before f) (features_view after f) IsOn
    (ap (list_any (is_feature f)) keys ∙ inserted cmp one other f k before.keys) on

off_by : (f k : ConfigExperimental) (IsOn : ConfigExperimental → Type 0) → (IsOn k → ⊥)
    → IsTrue (is_feature f k || false) × IsOn f → ⊥
off_by SetupScripts SetupScripts IsOn off q = off q.1
off_by WrapperScripts WrapperScripts IsOn off q = off q.1
off_by SetupScripts WrapperScripts IsOn off q = not_true q.0
off_by WrapperScripts SetupScripts IsOn off q = not_true q.0

-- one that is not leaves them
pub left_out : (IsOn : ConfigExperimental → Type 0) (k : ConfigExperimental) (before : BTreeSet ConfigExperimental)
    → (IsOn k → ⊥) → AreAdded IsOn (k ∷ []) before before
left_out IsOn k before off f = stays (features_view before f) (off_by f k IsOn off)

-- nothing is written
pub nothing_more : (before : BTreeSet ConfigExperimental) → AreWith None before before
nothing_more before f = stays (features_view before f) (λ none. none)

-- no feature was looked at
pub none_yet : (IsOn : ConfigExperimental → Type 0) (before : BTreeSet ConfigExperimental)
    → AreAdded IsOn [] before before
none_yet IsOn before f = stays (features_view before f) (not_among {P = IsOn f})

module _ {On : Type 0} (a b c m n k : Bool) (same : k ≡ (m || n)) (first : IsTrue b ↔ (IsTrue a ⊎ (IsTrue m × On)))
    (second : IsTrue c ↔ (IsTrue b ⊎ (IsTrue (n || false) × On))) where
  on_first : IsTrue a ⊎ (IsTrue m × On) → IsTrue a ⊎ (IsTrue k × On)
  on_first (inl is) = inl is
  on_first (inr q) = inr (same ∙ or_of m n (inl q.0), q.1)

  on_second : IsTrue b ⊎ (IsTrue (n || false) × On) → IsTrue a ⊎ (IsTrue k × On)
  on_second (inl is) = on_first (first.0 is)
  on_second (inr q) = inr (same ∙ or_of m n (inr (sym (or_false n) ∙ q.0)), q.1)

  back_on : On → IsTrue m ⊎ IsTrue n → IsTrue c
  back_on on (inl is) = second.1 (inl (first.1 (inr (is, on))))
  back_on on (inr is) = second.1 (inr (or_false n ∙ is, on))

  back : IsTrue a ⊎ (IsTrue k × On) → IsTrue c
  back (inl is) = second.1 (inl (first.1 (inl is)))
  back (inr q) = back_on q.1 (or_either m n (sym same ∙ q.0))

  two_steps : IsTrue c ↔ (IsTrue a ⊎ (IsTrue k × On))
  two_steps = ((λ is. on_second (second.0 is)), (λ either. back either))

-- one feature more was looked at
pub one_more : (IsOn : ConfigExperimental → Type 0) (xs : List ConfigExperimental) (i : ℕ) (x d : ConfigExperimental)
    → i < length xs → x ≡ get_or xs i d → (before now next : BTreeSet ConfigExperimental)
    → AreAdded IsOn (take i xs) before now → AreAdded IsOn (x ∷ []) now next
    → AreAdded IsOn (take (i + 1) xs) before next
one_more IsOn xs i x d below is before now next first second f =
    two_steps (features_view before f) (features_view now f) (features_view next f)
    (list_any (is_feature f) (take i xs)) (is_feature f x) (list_any (is_feature f) (take (i + 1) xs))
    (list_any_more (is_feature f) xs i d below
    ∙ ap (λ y. list_any (is_feature f) (take i xs) || is_feature f y) (sym is)) (first f) (second f)

among_all : (f : ConfigExperimental) → IsTrue (list_any (is_feature f) FEATURES)
among_all SetupScripts = refl
among_all WrapperScripts = refl

drop_true : {A P On : Type 0} → A ⊎ (P × On) → A ⊎ On
drop_true (inl a) = inl a
drop_true (inr q) = inr q.1

with_true : {A P On : Type 0} → P → A ⊎ On → A ⊎ (P × On)
with_true p (inl a) = inl a
with_true p (inr on) = inr (p, on)

without : {On : Type 0} (a b k : Bool) → IsTrue k → (IsTrue b ↔ (IsTrue a ⊎ (IsTrue k × On)))
    → IsTrue b ↔ (IsTrue a ⊎ On)
without a b k among holds =
    ((λ is. drop_true (holds.0 is)), (λ either. holds.1 (with_true among either)))

-- all features were looked at
pub all_looked_at : (written : Node) (xs : List ConfigExperimental) (before after : BTreeSet ConfigExperimental)
    → xs ≡ FEATURES → AreAdded (λ f. IsSwitchedOnBy (Some written) f) xs before after
    → AreWith (Some written) before after
all_looked_at written xs before after all holds f =
    without (features_view before f) (features_view after f) (list_any (is_feature f) xs)
    (ap (list_any (is_feature f)) all ∙ among_all f) (holds f)

-- a test does not hold and fail
pub not_both : (b : Bool) → b ≡ true → b ≡ false → ⊥
not_both b holds fails = absurd (cc)

-- the features of a copy are those of what was copied
pub copied : (written : Option Node) (named copy after : BTreeSet ConfigExperimental) → copy.keys ≡ named.keys
    → AreWith written copy after → AreWith written named after
copied written named copy after same holds f =
    subst (λ keys. IsTrue (features_view after f) ↔ (IsTrue (list_any (is_feature f) keys) ⊎ IsSwitchedOnBy written f))
    same (holds f)
