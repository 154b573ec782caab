-- What forms of leaves accept has only faults of range.
use Rattle.std.proofs.Common.{◌≡◌, ℕ, zero, suc, List, [], ◌∷◌, Bool, true, false, ◌||◌, cond, if◌then◌else◌, Option, Some, None, Result, Ok, Err, ℤ, pos, negsuc, nat_lt, nat_le, int_lt, is_some, ok_or, inl, inr, refl, sym}
use Rattle.std.proofs.lemmas.Slice.Eq.{bytes_eq-Decides}
use Rattle.std.specs.Map.{lookup}
use Rattle.std.specs.Str.{bytes_eq, chars}
use Rattle.nextest_tree.specs.Node.{Node, table, array, text, int, bool, opaque, Nodes, no_nodes, node}
use Rattle.nextest_tree.specs.Leaf.{cause_of, value, text_at, a_text, bool_at, a_bool, name_at}
use Rattle.nextest_tree.specs.Schema.{FaultCause, bad_value, out_of_range, is_one_of}
use Rattle.nextest_elements.specs.declared.duration.DurationError.TheVariants as errors
use Rattle.nextest_elements.specs.DurationFunction.{duration_of, duration_result}
use Rattle.nextest_elements.specs.Duration.{longest_duration}
use Rattle.nextest_elements.specs.Identifier.{is_identifier}
use Rattle.nextest_elements.specs.IdentifierReader.{identifier_expected, identifier_at, identifier_cause, an_identifier}
use Rattle.nextest_elements.specs.Nanoseconds.{duration_value, duration_at, a_duration}
use Rattle.nextest_elements.specs.MaxFail.{limit_names, limit_expected, limit_at, limited, a_limit}
use Rattle.nextest_elements.specs.Positive.{positive_at, a_positive}
use Rattle.nextest_elements.specs.RetryPolicy.{count_at, a_count}
use Rattle.nextest_elements.specs.TestGroup.{global_text, test_group_at, a_test_group}
use Rattle.nextest_elements.specs.TestPriority.{priority_at, a_priority}
use Rattle.nextest_elements.specs.TestThreads.{test_threads_names, test_threads_expected, test_threads_at, a_test_threads}
use Rattle.nextest_elements.specs.ThreadsRequired.{threads_required_names, threads_required_expected, threads_required_at, count_required, a_threads_required}
use Rattle.nextest_scripts.specs.CommandLine.{words_cause, line_cause, list_cause, a_command_line}
use Rattle.nextest_scripts.specs.EnvKey.{is_env_var_key}
use Rattle.nextest_scripts.specs.EnvMap.{env_key_cause}
use Rattle.nextest_scripts.specs.ShellReading.{words_in}
use Rattle.nextest_shape.specs.declared.shape.Pattern.TheVariants as patterns
use Rattle.nextest_shape.specs.Accepts.{Accepts, HasPattern}
use Rattle.nextest_shape.specs.FileForm.{words, some_text, positive_form, duration_form, identifier_form, count_form, test_threads_form, threads_required_form, command_line_form}
use Rattle.nextest_shape.specs.Form.{Form, a_truth, a_text as text_form, of_pattern}
use Rattle.nextest_shape.proofs.Leaves.{words_of, priority_form, limit_form, test_group_form}
use Rattle.nextest_shape.proofs.Mild.{MildAll, IsMildIf, mild_leaf, mild_items}

if_none : (c : Option FaultCause) → c ≡ None → IsMildIf c
if_none None h = tt
if_none (Some c) h = cc

pub mild_text : MildAll a_text some_text
unfolding a_text
mild_text = mild_leaf _ some_text go
  where
    go : (n : Node) → Accepts some_text n → IsMildIf (cause_of (text_at n))
    go (text s) a = tt
    go (int z) a = absurd a
    go (bool b) a = absurd a
    go (table es) a = absurd a
    go (array ns) a = absurd a
    go opaque a = absurd a

pub mild_bool : MildAll a_bool a_truth
unfolding a_bool
mild_bool = mild_leaf _ a_truth go
  where
    go : (n : Node) → Accepts a_truth n → IsMildIf (cause_of (bool_at n))
    go (text s) a = absurd a
    go (int z) a = absurd a
    go (bool b) a = tt
    go (table es) a = absurd a
    go (array ns) a = absurd a
    go opaque a = absurd a

-- ---- words

turned : (a b : List ℕ) → bytes_eq a b ≡ true → bytes_eq b a ≡ true
turned a b h = (bytes_eq-Decides b a).1 (sym ((bytes_eq-Decides a b).0 h))

found : {X : Type 0} (s : List ℕ) (names : List (List ℕ × X)) (expected : List ℕ)
    → is_one_of (words_of names) s ≡ true
    → IsMildIf (cause_of (ok_or (lookup (bytes_eq s) names) (bad_value s expected)))
found s [] expected h = cc
found {X} s (p ∷ names) expected h = by_test (bytes_eq s p.0) refl (bytes_eq p.0 s) refl h (found s names expected)
  where
    by_test : (b : Bool) → bytes_eq s p.0 ≡ b → (d : Bool) → bytes_eq p.0 s ≡ d
        → (d || is_one_of (words_of names) s) ≡ true
        → (is_one_of (words_of names) s ≡ true
        → IsMildIf (cause_of (ok_or (lookup (bytes_eq s) names) (bad_value s expected))))
        → IsMildIf (cause_of (ok_or (cond b (Some p.1) (lookup (bytes_eq s) names)) (bad_value s expected)))
    by_test true is d dis h more = tt
    by_test false is false dis h more = more h
    by_test false is true dis h more = let no : bytes_eq s p.0 ≡ true = turned p.0 s dis in cc

name_found : {X : Type 0} (names : List (List ℕ × X)) (expected : List ℕ) (n : Node)
    → Accepts (words (words_of names)) n → IsMildIf (cause_of (name_at names expected n))
name_found names expected (text s) a = found s names expected a
name_found names expected (table es) a = absurd a
name_found names expected (array ns) a = absurd a
name_found names expected (int z) a = absurd a
name_found names expected (bool b) a = absurd a
name_found names expected opaque a = absurd a

pub mild_names : {X : Type 0} (names : List (List ℕ × X)) (expected : List ℕ)
    → MildAll (value (name_at names expected)) (words (words_of names))
mild_names names expected = mild_leaf _ _ (name_found names expected)

-- ---- numbers

either_way : {X : Type 0} (b : Bool) (x : X) → IsMildIf (cause_of (if b then Ok x else Err out_of_range))
either_way true x = tt
either_way false x = tt

or_way : {X : Type 0} (b : Bool) (x : X) → IsMildIf (cause_of (if b then Err out_of_range else Ok x))
or_way true x = tt
or_way false x = tt

positive_mild : (z : ℤ) → IsMildIf (cause_of (positive_at (int z)))
positive_mild (pos n) = either_way (nat_lt 0 n) n
positive_mild (negsuc n) = tt

pub mild_positive : MildAll a_positive positive_form
unfolding a_positive
mild_positive = mild_leaf _ positive_form go
  where
    go : (n : Node) → Accepts positive_form n → IsMildIf (cause_of (positive_at n))
    go (text s) a = absurd a
    go (int z) a = positive_mild z
    go (bool b) a = absurd a
    go (table es) a = absurd a
    go (array ns) a = absurd a
    go opaque a = absurd a

pub mild_count : MildAll a_count count_form
unfolding a_count
mild_count = mild_leaf _ count_form go
  where
    go : (n : Node) → Accepts count_form n → IsMildIf (cause_of (count_at n))
    go (text s) a = absurd a
    go (int (pos n)) a = either_way (nat_lt n 4294967296) n
    go (int (negsuc n)) a = tt
    go (bool b) a = absurd a
    go (table es) a = absurd a
    go (array ns) a = absurd a
    go opaque a = absurd a

pub mild_priority : MildAll a_priority priority_form
unfolding a_priority
mild_priority = mild_leaf _ priority_form go
  where
    go : (n : Node) → Accepts priority_form n → IsMildIf (cause_of (priority_at n))
    go (text s) a = absurd a
    go (int z) a = or_way (int_lt z (negsuc 99) || int_lt (pos 100) z) z
    go (bool b) a = absurd a
    go (table es) a = absurd a
    go (array ns) a = absurd a
    go opaque a = absurd a

-- ---- numbers and words

required_mild : (r : Result ℕ FaultCause) → IsMildIf (cause_of r) → IsMildIf (cause_of (count_required r))
required_mild (Ok n) h = tt
required_mild (Err c) h = h

limited_mild : (r : Result ℕ FaultCause) → IsMildIf (cause_of r) → IsMildIf (cause_of (limited r))
limited_mild (Ok n) h = tt
limited_mild (Err c) h = h

pub mild_test_threads : MildAll a_test_threads test_threads_form
unfolding a_test_threads test_threads_names
mild_test_threads = mild_leaf _ test_threads_form go
  where
    go : (n : Node) → Accepts test_threads_form n → IsMildIf (cause_of (test_threads_at n))
    go (text s) (inl a) = absurd a
    go (text s) (inr (inl a)) = absurd a
    go (text s) (inr (inr (inl a))) = name_found test_threads_names test_threads_expected (text s) a
    go (text s) (inr (inr (inr a))) = absurd a
    go (int (pos zero)) a = tt
    go (int (pos (suc n))) a = tt
    go (int (negsuc n)) a = tt
    go (bool b) (inl a) = absurd a
    go (bool b) (inr (inl a)) = absurd a
    go (bool b) (inr (inr (inl a))) = absurd a
    go (bool b) (inr (inr (inr a))) = absurd a
    go (table es) (inl a) = absurd a
    go (table es) (inr (inl a)) = absurd a
    go (table es) (inr (inr (inl a))) = absurd a
    go (table es) (inr (inr (inr a))) = absurd a
    go (array ns) (inl a) = absurd a
    go (array ns) (inr (inl a)) = absurd a
    go (array ns) (inr (inr (inl a))) = absurd a
    go (array ns) (inr (inr (inr a))) = absurd a
    go opaque (inl a) = absurd a
    go opaque (inr (inl a)) = absurd a
    go opaque (inr (inr (inl a))) = absurd a
    go opaque (inr (inr (inr a))) = absurd a

pub mild_threads_required : MildAll a_threads_required threads_required_form
unfolding a_threads_required threads_required_names
mild_threads_required = mild_leaf _ threads_required_form go
  where
    go : (n : Node) → Accepts threads_required_form n → IsMildIf (cause_of (threads_required_at n))
    go (text s) (inl a) = absurd a
    go (text s) (inr (inl a)) = name_found threads_required_names threads_required_expected (text s) a
    go (text s) (inr (inr a)) = absurd a
    go (int z) a = required_mild (positive_at (int z)) (positive_mild z)
    go (bool b) (inl a) = absurd a
    go (bool b) (inr (inl a)) = absurd a
    go (bool b) (inr (inr a)) = absurd a
    go (table es) (inl a) = absurd a
    go (table es) (inr (inl a)) = absurd a
    go (table es) (inr (inr a)) = absurd a
    go (array ns) (inl a) = absurd a
    go (array ns) (inr (inl a)) = absurd a
    go (array ns) (inr (inr a)) = absurd a
    go opaque (inl a) = absurd a
    go opaque (inr (inl a)) = absurd a
    go opaque (inr (inr a)) = absurd a

pub mild_limit : MildAll a_limit limit_form
unfolding a_limit limit_names
mild_limit = mild_leaf _ limit_form go
  where
    go : (n : Node) → Accepts limit_form n → IsMildIf (cause_of (limit_at n))
    go (text s) (inl a) = absurd a
    go (text s) (inr (inl a)) = name_found limit_names limit_expected (text s) a
    go (text s) (inr (inr a)) = absurd a
    go (int z) a = limited_mild (positive_at (int z)) (positive_mild z)
    go (bool b) (inl a) = absurd a
    go (bool b) (inr (inl a)) = absurd a
    go (bool b) (inr (inr a)) = absurd a
    go (table es) (inl a) = absurd a
    go (table es) (inr (inl a)) = absurd a
    go (table es) (inr (inr a)) = absurd a
    go (array ns) (inl a) = absurd a
    go (array ns) (inr (inl a)) = absurd a
    go (array ns) (inr (inr a)) = absurd a
    go opaque (inl a) = absurd a
    go opaque (inr (inl a)) = absurd a
    go opaque (inr (inr a)) = absurd a

-- ---- texts of patterns

duration_mild : (s : List ℕ) (o : Option ℕ) → is_some o ≡ true
    → IsMildIf (cause_of (duration_value s (duration_result o)))
duration_mild s None h = cc
duration_mild s (Some n) h = in_range (nat_le n longest_duration)
  where
    in_range : (b : Bool) → IsMildIf (cause_of (duration_value s (if b then Ok n else Err errors.OutOfRange)))
    in_range true = tt
    in_range false = tt

passed : {X : Type 0} (b : Bool) (x : X) (c : FaultCause) → b ≡ true → IsMildIf (cause_of (if b then Ok x else Err c))
passed true x c h = tt
passed false x c h = cc

grouped : {X : Type 0} (a b : Bool) (x y : X) (c : FaultCause) → (a || b) ≡ true
    → IsMildIf (cause_of (if a then Ok x else (if b then Ok y else Err c)))
grouped true b x y c h = tt
grouped false true x y c h = tt
grouped false false x y c h = cc

pub mild_duration : MildAll a_duration duration_form
unfolding a_duration
mild_duration = mild_leaf _ duration_form go
  where
    go : (n : Node) → Accepts duration_form n → IsMildIf (cause_of (duration_at n))
    go (text s) a = duration_mild s (duration_of s) a
    go (int z) a = absurd a
    go (bool b) a = absurd a
    go (table es) a = absurd a
    go (array ns) a = absurd a
    go opaque a = absurd a

pub mild_identifier : MildAll an_identifier identifier_form
unfolding an_identifier
mild_identifier = mild_leaf _ identifier_form go
  where
    go : (n : Node) → Accepts identifier_form n → IsMildIf (cause_of (identifier_at n))
    go (text s) a = passed (is_identifier s) s (bad_value s identifier_expected) a
    go (int z) a = absurd a
    go (bool b) a = absurd a
    go (table es) a = absurd a
    go (array ns) a = absurd a
    go opaque a = absurd a

pub mild_test_group : MildAll a_test_group test_group_form
unfolding a_test_group
mild_test_group = mild_leaf _ test_group_form go
  where
    go : (n : Node) → Accepts test_group_form n → IsMildIf (cause_of (test_group_at n))
    go (text s) a = grouped (bytes_eq s global_text) (is_identifier s) _ _ (bad_value s identifier_expected) a
    go (int z) a = absurd a
    go (bool b) a = absurd a
    go (table es) a = absurd a
    go (array ns) a = absurd a
    go opaque a = absurd a

named : (b : Bool) (c : FaultCause) → b ≡ true → IsMildIf (if b then None else Some c)
named true c h = tt
named false c h = cc

pub identifier_mild : (k : List ℕ) → HasPattern patterns.Identifier k → IsMildIf (identifier_cause k)
identifier_mild k h = named (is_identifier k) (bad_value k identifier_expected) h

pub env_mild : (k : List ℕ) → HasPattern patterns.EnvironmentKey k → IsMildIf (env_key_cause k)
env_mild k h = named (is_env_var_key k) _ h

-- ---- command lines

-- the form of a line
abbrev line_form : Form
line_form = text_form (of_pattern patterns.CommandLine)

line_mild : (n : Node) → Accepts line_form n → IsMildIf (line_cause n)
line_mild (text s) a = if_none (words_cause s (words_in (chars s))) a
line_mild (int z) a = absurd a
line_mild (bool b) a = absurd a
line_mild (table es) a = absurd a
line_mild (array ns) a = absurd a
line_mild opaque a = absurd a

list_mild : (ns : Nodes) → IsMildIf (list_cause ns)
list_mild no_nodes = tt
list_mild (node n ns) = tt

pub mild_command_line : MildAll a_command_line command_line_form
unfolding a_command_line
mild_command_line =
    mild_items _ a_text list_cause line_form some_text 1 (mild_leaf line_cause line_form line_mild)
    (λ ns a. a) list_mild mild_text
