-- Values that are to be one of some words.
use Rattle.std.proofs.Common.{◌≡◌, ℕ, ℤ, List, [], ◌∷◌, Bool, true, false, ◌||◌, cond, Option, Some, None, Result, Ok, Err, codes, ok_or, refl, sym, ◌∙◌, subst}
use Rattle.std.proofs.lemmas.Bool.Decides.{same_from_decides}
use Rattle.std.proofs.lemmas.Slice.Eq.{bytes_eq-Decides}
use Rattle.std.specs.Result.{result_ok}
use Rattle.std.specs.Str.{bytes_eq}
use Rattle.nextest_tree.specs.Leaf.{cause_of}
use Rattle.nextest_tree.specs.Node.{Node, table, array, text, int, bool, opaque, as_int, as_text}
use Rattle.nextest_tree.specs.Schema.{FaultCause, at, bad_value, faults}
use Rattle.nextest_tree.specs.declared.fault.ElementCause.{ElementCause}
use Rattle.nextest_elements.specs.MaxFail.{limit_at, limit_expected, limit_names, limited}
use Rattle.nextest_elements.specs.Positive.{positive_at}
use Rattle.nextest_elements.specs.RetryPolicy.{backoff_at, backoff_expected, backoff_names, grows}
use Rattle.nextest_scripts.specs.Command.{a_command}
use Rattle.nextest_scripts.specs.CommandLine.{a_command_line, line_cause}
use Rattle.nextest_scripts.specs.SetupScript.{setup_result_at, setup_result_expected, setup_result_names}
use Rattle.nextest_shape.specs.Faults.Found.{IsCause}
use Rattle.nextest_shape.specs.Faults.Values.{words_cause}

-- two texts are alike in either order
swapped : (xs ys : List ℕ) → bytes_eq xs ys ≡ bytes_eq ys xs
swapped xs ys =
    let back = bytes_eq-Decides ys xs in
    same_from_decides (bytes_eq xs ys) (bytes_eq ys xs) (bytes_eq-Decides xs ys)
    (λ is. sym (back.0 is), λ is. back.1 (sym is))

one_of : {X : Type 0} (is : Bool) (x : X) (c : FaultCause)
    → cond (is || false) None (Some c) ≡ cause_of (ok_or (cond is (Some x) None) c)
one_of true x c = refl
one_of false x c = refl

one_of_two : {X : Type 0} (first second : Bool) (x y : X) (c : FaultCause)
    → cond (first || (second || false)) None (Some c)
    ≡ cause_of (ok_or (cond first (Some x) (cond second (Some y) None)) c)
one_of_two true second x y c = refl
one_of_two false true x y c = refl
one_of_two false false x y c = refl

limited_same : (r : Result ℕ FaultCause) → cause_of (limited r) ≡ cause_of r
limited_same (Ok n) = refl
limited_same (Err c) = refl

-- a limit that is a number
pub limit_number : (cause : Option ElementCause) (n : Node) (z : ℤ) → Some z ≡ as_int n
    → IsCause cause (cause_of (positive_at n)) → IsCause cause (cause_of (limit_at n))
limit_number cause (int y) z there is = subst (IsCause cause) (sym (limited_same (positive_at (int y)))) is
limit_number cause (table es) z there is = absurd (cc)
limit_number cause (array ns) z there is = absurd (cc)
limit_number cause (text s) z there is = absurd (cc)
limit_number cause (bool b) z there is = absurd (cc)
limit_number cause opaque z there is = absurd (cc)

-- a limit that is one word
one_word : (s : List ℕ)
    → words_cause (codes "all" ∷ []) limit_expected (text s) ≡ cause_of (limit_at (text s))
unfolding limit_names
one_word s =
    rw (swapped (codes "all") s) (one_of (bytes_eq s (codes "all")) _ (bad_value s limit_expected))

pub limit_words : (cause : Option ElementCause) (n : Node) → None ≡ as_int n
    → IsCause cause (words_cause (codes "all" ∷ []) limit_expected n)
    → IsCause cause (cause_of (limit_at n))
limit_words cause (text s) there is = subst (IsCause cause) (one_word s) is
limit_words cause (int z) there is = absurd (cc)
limit_words cause (table es) there is = is
limit_words cause (array ns) there is = is
limit_words cause (bool b) there is = is
limit_words cause opaque there is = is

-- the ways in which delays grow
two_words : (s : List ℕ)
    → words_cause (codes "fixed" ∷ codes "exponential" ∷ []) backoff_expected (text s) ≡ cause_of (backoff_at (text s))
unfolding backoff_names
two_words s =
    rw (swapped (codes "fixed") s, swapped (codes "exponential") s)
    (one_of_two (bytes_eq s (codes "fixed")) (bytes_eq s (codes "exponential")) _ _ (bad_value s backoff_expected))

pub backoff_words : (cause : Option ElementCause) (n : Node)
    → IsCause cause (words_cause (codes "fixed" ∷ codes "exponential" ∷ []) backoff_expected n)
    → IsCause cause (cause_of (backoff_at n))
backoff_words cause (text s) is = subst (IsCause cause) (two_words s) is
backoff_words cause (table es) is = is
backoff_words cause (array ns) is = is
backoff_words cause (int z) is = is
backoff_words cause (bool b) is = is
backoff_words cause opaque is = is

-- the result of a setup script that runs into its timeout
fail_word : (s : List ℕ)
    → words_cause (codes "fail" ∷ []) setup_result_expected (text s) ≡ cause_of (setup_result_at (text s))
unfolding setup_result_names
fail_word s =
    rw (swapped (codes "fail") s) (one_of (bytes_eq s (codes "fail")) _ (bad_value s setup_result_expected))

pub setup_words : (cause : Option ElementCause) (n : Node)
    → IsCause cause (words_cause (codes "fail" ∷ []) setup_result_expected n)
    → IsCause cause (cause_of (setup_result_at n))
setup_words cause (text s) is = subst (IsCause cause) (fail_word s) is
setup_words cause (table es) is = is
setup_words cause (array ns) is = is
setup_words cause (int z) is = is
setup_words cause (bool b) is = is
setup_words cause opaque is = is

grow : {B : Type 0} (test : Option B → Bool) (x y : B) (first second : Bool) (c : FaultCause)
    → test None ≡ false → test (Some x) ≡ false → test (Some y) ≡ true → (first ≡ true → second ≡ false)
    → second ≡ test (result_ok (ok_or (cond first (Some x) (cond second (Some y) None)) c))
grow test x y true second c none one other apart = apart refl ∙ sym one
grow test x y false true c none one other apart = sym other
grow test x y false false c none one other apart = sym none

-- delays grow where the word says so
pub growing : (s : List ℕ) → bytes_eq s (codes "exponential") ≡ grows (result_ok (backoff_at (text s)))
unfolding backoff_names
growing s =
    grow grows _ _ (bytes_eq s (codes "fixed")) (bytes_eq s (codes "exponential")) (bad_value s backoff_expected)
    refl refl refl
    (λ is. subst (λ (t : List ℕ). bytes_eq t (codes "exponential") ≡ false)
    (sym ((bytes_eq-Decides s (codes "fixed")).0 is)) refl)

pub growing_at : (n : Node) (s : List ℕ) → Some s ≡ as_text n
    → bytes_eq s (codes "exponential") ≡ grows (result_ok (backoff_at n))
growing_at (text t) s is = let same : s ≡ t = cc in rw same (growing t)
growing_at (table es) s is = absurd (cc)
growing_at (array ns) s is = absurd (cc)
growing_at (int z) s is = absurd (cc)
growing_at (bool b) s is = absurd (cc)
growing_at opaque s is = absurd (cc)

-- what is not a text says nothing
pub not_growing : (n : Node) → None ≡ as_text n → false ≡ grows (result_ok (backoff_at n))
not_growing (text t) is = absurd (cc)
not_growing (table es) is = refl
not_growing (array ns) is = refl
not_growing (int z) is = refl
not_growing (bool b) is = refl
not_growing opaque is = refl

-- a command that is a text has the fault of its line
pub command_text : (n : Node) (s : List ℕ) → n ≡ text s → (p : List ℕ) → faults a_command p n ≡ at p (line_cause n)
unfolding a_command a_command_line
command_text n s is p = subst (λ m. faults a_command p m ≡ at p (line_cause m)) (sym is) refl
