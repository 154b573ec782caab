-- The forms of leaves fit their schemas.
use Rattle.std.proofs.Common.{◌≡◌, ℕ, zero, suc, List, [], ◌∷◌, Bool, true, false, ◌||◌, cond, if◌then◌else◌, Option, Some, None, Result, Ok, Err, ℤ, pos, negsuc, nat_lt, int_lt, is_some, map, ok_or, codes, inl, inr, refl, sym, arith}
use Rattle.std.proofs.lemmas.Int.{ints}
use Rattle.std.proofs.lemmas.Slice.Eq.{bytes_eq-Decides}
use Rattle.std.specs.Map.{lookup}
use Rattle.std.specs.Str.{bytes_eq}
use Rattle.nextest_tree.specs.Node.{Node, table, array, text, int, bool, opaque, no_nodes, node}
use Rattle.nextest_tree.specs.Leaf.{cause_of, value, text_at, a_text, bool_at, a_bool, name_at}
use Rattle.nextest_tree.specs.Schema.{FaultCause, bad_value, out_of_range, leaf, at, is_one_of, faults, unknown, each_item}
use Rattle.nextest_elements.specs.DurationFunction.{duration_of, duration_result}
use Rattle.nextest_elements.specs.Identifier.{is_identifier}
use Rattle.nextest_elements.specs.IdentifierReader.{identifier_expected, identifier_at, identifier_cause, an_identifier}
use Rattle.nextest_elements.specs.Nanoseconds.{duration_value, duration_at, a_duration}
use Rattle.nextest_elements.specs.MaxFail.{limit_names, limit_expected, limit_at, limited, a_limit}
use Rattle.nextest_elements.specs.Positive.{positive_at, a_positive}
use Rattle.nextest_elements.specs.RetryPolicy.{count_at, a_count}
use Rattle.nextest_elements.specs.TestGroup.{global_text, test_group_at, a_test_group}
use Rattle.nextest_elements.specs.TestPriority.{priority_at, a_priority}
use Rattle.nextest_elements.specs.TestThreads.{test_threads_names, test_threads_expected, test_threads_at, a_test_threads}
use Rattle.nextest_elements.specs.ThreadsRequired.{threads_required_names, threads_required_expected, threads_required_at, count_required, a_threads_required}
use Rattle.nextest_scripts.specs.CommandLine.{line_cause, a_command_line}
use Rattle.nextest_scripts.specs.EnvKey.{is_env_var_key}
use Rattle.nextest_scripts.specs.EnvMap.{env_key_cause}
use Rattle.nextest_shape.specs.declared.shape.Pattern.TheVariants as patterns
use Rattle.nextest_shape.specs.Accepts.{Accepts, HasPattern}
use Rattle.nextest_shape.specs.FileForm.{words, some_text, positive_form, duration_form, identifier_form, count_form, test_threads_form, threads_required_form, one_or_other, command_line_form}
use Rattle.nextest_shape.specs.Form.{Form, a_truth, a_number, a_text as text_form, of_pattern}
use Rattle.nextest_tables.proofs.Free.{left_nil}
use Rattle.nextest_shape.proofs.Fits.{Fits, items_meet}

no_cause : (p : List ℕ) (c : Option FaultCause) → at p c ≡ [] → c ≡ None
no_cause p None h = refl
no_cause p (Some c) h = cc

-- a leaf fits where each node that is not refused is accepted
pub fits_leaf : (test : Node → Option FaultCause) (f : Form) → ((n : Node) → test n ≡ None → Accepts f n)
    → Fits (leaf test) f
fits_leaf test f each = record { accepts = λ p q n h u. each n (no_cause p (test n) h) }

ok_of : {X : Type 0} (r : Result X FaultCause) → cause_of r ≡ None → (x : X) × (r ≡ Ok x)
ok_of (Ok x) h = (x, refl)
ok_of (Err c) h = cc

-- ---- texts and truth values

pub fits_text : Fits a_text some_text
unfolding a_text
fits_text = fits_leaf _ some_text go
  where
    go : (n : Node) → cause_of (text_at n) ≡ None → Accepts some_text n
    go (text t) h = tt
    go (table es) h = cc
    go (array ns) h = cc
    go (int z) h = cc
    go (bool b) h = cc
    go opaque h = cc

pub fits_bool : Fits a_bool a_truth
unfolding a_bool
fits_bool = fits_leaf _ a_truth go
  where
    go : (n : Node) → cause_of (bool_at n) ≡ None → Accepts a_truth n
    go (bool b) h = tt
    go (text t) h = cc
    go (table es) h = cc
    go (array ns) h = cc
    go (int z) h = cc
    go opaque h = cc

-- ---- words

-- the words of names
abbrev pub words_of : {X : Type 0} → List (List ℕ × X) → List (List ℕ)
words_of names = map (λ p. p.0) names

turned : (a b : List ℕ) → bytes_eq a b ≡ true → bytes_eq b a ≡ true
turned a b h = (bytes_eq-Decides b a).1 (sym ((bytes_eq-Decides a b).0 h))

or_true : (b : Bool) → (b || true) ≡ true
or_true true = refl
or_true false = refl

found : {X : Type 0} (s : List ℕ) (names : List (List ℕ × X)) (expected : List ℕ)
    → cause_of (ok_or (lookup (bytes_eq s) names) (bad_value s expected)) ≡ None → is_one_of (words_of names) s ≡ true
found s [] expected h = cc
found {X} s (p ∷ names) expected h = by_test (bytes_eq s p.0) refl h (found s names expected)
  where
    by_test : (b : Bool) → bytes_eq s p.0 ≡ b
        → cause_of (ok_or (cond b (Some p.1) (lookup (bytes_eq s) names)) (bad_value s expected)) ≡ None
        → (cause_of (ok_or (lookup (bytes_eq s) names) (bad_value s expected)) ≡ None
        → is_one_of (words_of names) s ≡ true)
        → (bytes_eq p.0 s || is_one_of (words_of names) s) ≡ true
    by_test true is h more = rw (turned s p.0 is) refl
    by_test false is h more = rw (more h) (or_true (bytes_eq p.0 s))

name_found : {X : Type 0} (names : List (List ℕ × X)) (expected : List ℕ) (n : Node)
    → cause_of (name_at names expected n) ≡ None → Accepts (words (words_of names)) n
name_found names expected (text s) h = found s names expected h
name_found names expected (table es) h = cc
name_found names expected (array ns) h = cc
name_found names expected (int z) h = cc
name_found names expected (bool b) h = cc
name_found names expected opaque h = cc

pub fits_names : {X : Type 0} (names : List (List ℕ × X)) (expected : List ℕ)
    → Fits (value (name_at names expected)) (words (words_of names))
fits_names names expected = fits_leaf _ _ (name_found names expected)

-- ---- numbers

positive_met : (z : ℤ) → cause_of (positive_at (int z)) ≡ None → Accepts positive_form (int z)
positive_met (pos zero) h = cc
positive_met (pos (suc n)) h = (grind (arith, ints), tt)
positive_met (negsuc n) h = cc

pub fits_positive : Fits a_positive positive_form
unfolding a_positive
fits_positive = fits_leaf _ positive_form go
  where
    go : (n : Node) → cause_of (positive_at n) ≡ None → Accepts positive_form n
    go (int z) h = positive_met z h
    go (text t) h = cc
    go (table es) h = cc
    go (array ns) h = cc
    go (bool b) h = cc
    go opaque h = cc

count_met : (n : ℕ) (b : Bool) → nat_lt n 4294967296 ≡ b → cause_of (if b then Ok n else Err out_of_range) ≡ None
    → Accepts count_form (int (pos n))
count_met n true is h = (grind (arith, ints), grind (arith, ints, is))
count_met n false is h = cc

pub fits_count : Fits a_count count_form
unfolding a_count
fits_count = fits_leaf _ count_form go
  where
    go : (n : Node) → cause_of (count_at n) ≡ None → Accepts count_form n
    go (int (pos n)) h = count_met n (nat_lt n 4294967296) refl h
    go (int (negsuc n)) h = cc
    go (text t) h = cc
    go (table es) h = cc
    go (array ns) h = cc
    go (bool b) h = cc
    go opaque h = cc

-- the form of a priority
abbrev pub priority_form : Form
priority_form = a_number (Some (negsuc 99)) (Some (pos 100))

priority_met : (z : ℤ) (a b : Bool) → int_lt z (negsuc 99) ≡ a → int_lt (pos 100) z ≡ b
    → cause_of (if a || b then Err out_of_range else Ok z) ≡ None → Accepts priority_form (int z)
priority_met z true b low high h = cc
priority_met z false true low high h = cc
priority_met z false false low high h = (low, high)

pub fits_priority : Fits a_priority priority_form
unfolding a_priority
fits_priority = fits_leaf _ priority_form go
  where
    go : (n : Node) → cause_of (priority_at n) ≡ None → Accepts priority_form n
    go (int z) h = priority_met z (int_lt z (negsuc 99)) (int_lt (pos 100) z) refl refl h
    go (text t) h = cc
    go (table es) h = cc
    go (array ns) h = cc
    go (bool b) h = cc
    go opaque h = cc

-- ---- numbers and words

pub fits_test_threads : Fits a_test_threads test_threads_form
unfolding a_test_threads test_threads_names
fits_test_threads = fits_leaf _ test_threads_form go
  where
    go : (n : Node) → cause_of (test_threads_at n) ≡ None → Accepts test_threads_form n
    go (int (pos zero)) h = cc
    go (int (pos (suc n))) h = inr (inl (grind (arith, ints), tt))
    go (int (negsuc n)) h = inl (tt, grind (arith, ints))
    go (text t) h = inr (inr (inl (name_found test_threads_names test_threads_expected (text t) h)))
    go (table es) h = cc
    go (array ns) h = cc
    go (bool b) h = cc
    go opaque h = cc

required_met : (r : Result ℕ FaultCause) → cause_of (count_required r) ≡ None → cause_of r ≡ None
required_met (Ok n) h = refl
required_met (Err c) h = cc

pub fits_threads_required : Fits a_threads_required threads_required_form
unfolding a_threads_required threads_required_names
fits_threads_required = fits_leaf _ threads_required_form go
  where
    go : (n : Node) → cause_of (threads_required_at n) ≡ None → Accepts threads_required_form n
    go (int z) h = inl (positive_met z (required_met (positive_at (int z)) h))
    go (text t) h = inr (inl (name_found threads_required_names threads_required_expected (text t) h))
    go (table es) h = cc
    go (array ns) h = cc
    go (bool b) h = cc
    go opaque h = cc

-- the form of a limit of failures
abbrev pub limit_form : Form
limit_form = one_or_other positive_form (words (codes "all" ∷ []))

limited_met : (r : Result ℕ FaultCause) → cause_of (limited r) ≡ None → cause_of r ≡ None
limited_met (Ok n) h = refl
limited_met (Err c) h = cc

pub fits_limit : Fits a_limit limit_form
unfolding a_limit limit_names
fits_limit = fits_leaf _ limit_form go
  where
    go : (n : Node) → cause_of (limit_at n) ≡ None → Accepts limit_form n
    go (int z) h = inl (positive_met z (limited_met (positive_at (int z)) h))
    go (text t) h = inr (inl (name_found limit_names limit_expected (text t) h))
    go (table es) h = cc
    go (array ns) h = cc
    go (bool b) h = cc
    go opaque h = cc

-- ---- texts of patterns

duration_met : (s : List ℕ) (o : Option ℕ) → cause_of (duration_value s (duration_result o)) ≡ None
    → is_some o ≡ true
duration_met s None h = cc
duration_met s (Some n) h = refl

pub fits_duration : Fits a_duration duration_form
unfolding a_duration
fits_duration = fits_leaf _ duration_form go
  where
    go : (n : Node) → cause_of (duration_at n) ≡ None → Accepts duration_form n
    go (text s) h = duration_met s (duration_of s) h
    go (int z) h = cc
    go (table es) h = cc
    go (array ns) h = cc
    go (bool b) h = cc
    go opaque h = cc

passed : {X : Type 0} (b : Bool) (x : X) (c : FaultCause) → cause_of (if b then Ok x else Err c) ≡ None → b ≡ true
passed true x c h = refl
passed false x c h = cc

pub fits_identifier : Fits an_identifier identifier_form
unfolding an_identifier
fits_identifier = fits_leaf _ identifier_form go
  where
    go : (n : Node) → cause_of (identifier_at n) ≡ None → Accepts identifier_form n
    go (text s) h = passed (is_identifier s) s (bad_value s identifier_expected) h
    go (int z) h = cc
    go (table es) h = cc
    go (array ns) h = cc
    go (bool b) h = cc
    go opaque h = cc

-- the form of a group
abbrev pub test_group_form : Form
test_group_form = text_form (of_pattern patterns.TestGroup)

grouped : {X : Type 0} (a b : Bool) (x y : X) (c : FaultCause)
    → cause_of (if a then Ok x else (if b then Ok y else Err c)) ≡ None → (a || b) ≡ true
grouped true b x y c h = refl
grouped false true x y c h = refl
grouped false false x y c h = cc

pub fits_test_group : Fits a_test_group test_group_form
unfolding a_test_group
fits_test_group = fits_leaf _ test_group_form go
  where
    go : (n : Node) → cause_of (test_group_at n) ≡ None → Accepts test_group_form n
    go (text s) h =
        grouped (bytes_eq s global_text) (is_identifier s) _ _ (bad_value s identifier_expected) h
    go (int z) h = cc
    go (table es) h = cc
    go (array ns) h = cc
    go (bool b) h = cc
    go opaque h = cc

named : (b : Bool) (c : FaultCause) → (if b then None else Some c) ≡ None → b ≡ true
named true c h = refl
named false c h = cc

pub identifier_named : (k : List ℕ) → identifier_cause k ≡ None → HasPattern patterns.Identifier k
identifier_named k h = named (is_identifier k) (bad_value k identifier_expected) h

pub env_named : (k : List ℕ) → env_key_cause k ≡ None → HasPattern patterns.EnvironmentKey k
env_named k h = named (is_env_var_key k) _ h

-- ---- command lines

pub fits_command_line : Fits a_command_line command_line_form
unfolding a_command_line
fits_command_line = record { accepts = go }
  where
    no_line : (p : List ℕ) (n : Node) → at p (line_cause n) ≡ [] → line_cause n ≡ None
    no_line p n h = no_cause p (line_cause n) h

    go : (p q : List ℕ) (n : Node) → faults a_command_line p n ≡ [] → unknown a_command_line q n ≡ []
        → Accepts command_line_form n
    go p q (text s) h u = inl (no_line p (text s) h)
    go p q (array no_nodes) h u = cc
    go p q (array (node n ns)) h u =
        let free = left_nil (each_item (faults a_text) p 0 (node n ns)) [] h in
        let all = items_meet a_text some_text p q 0 0 (node n ns) fits_text free u in
        inr (inl all)
    go p q (table es) h u = cc
    go p q (int z) h u = cc
    go p q (bool b) h u = cc
    go p q opaque h u = cc
