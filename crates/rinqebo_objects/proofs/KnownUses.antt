-- What a list uses of scripts, by what each of its tests uses.
use Rattle.std.proofs.Common.{◌≡◌, ◌∙◌, ◌<◌, ◌≤◌, ◌+◌, ◌++◌, ◌∷◌, [], ℕ, zero, suc, Bool, List, Option, Some, ap, ap₂, arith, cond, drop, false, filter_map, get_or, length, map, option_map, refl, slice_get, sym, true, unwrap_or}
use Rattle.std.specs.List.{cons_option}
use Rattle.nextest_engines.specs.Engines.{Binary, Test}
use Rattle.nextest_load.specs.Closed.{BinaryMatch}
use Rattle.nextest_settings.specs.Profile.{EvaluatableModel}
use Rattle.nextest_tables.specs.Written.{Name}
use Rattle.nextest_tree.specs.Schema.{is_one_of}
use Rattle.rinqebo_objects.specs.Enabling.{Enabling, tests_enabling}
use Rattle.rinqebo_objects.specs.Used.{Used, list_wrappers, run_wrappers, used_in}
use Rattle.rinqebo_objects.specs.Uses.{AreUsesIn, enabling_by, setup_in, wrapper_in}
use Rattle.rinqebo_objects.specs.declared.script_use.ScriptUse.{ScriptUse}

-- whether the test of a number enables a script, by what each test uses
abbrev pub enables_at : List ScriptUse → ℕ → Name → Bool
enables_at uses n id = unwrap_or (option_map (λ scripts. is_one_of (setup_in scripts) id) (slice_get uses n)) false

none_of : (uses : List ScriptUse) (id : Name) → enabling_by uses [] id ≡ []
none_of [] id = refl
none_of (scripts ∷ uses) id = refl

module _ {X : Type 0} (id : Name) (see : X → Test) where
  -- the tests from a number on that enable a script
  abbrev from : List X → List ScriptUse → ℕ → List Test
  from tests uses n = enabling_by (drop n uses) (map see (drop n tests)) id

  here_suc : (tests : List X) (uses : List ScriptUse) (n : ℕ) (x d : X) → n < length tests → x ≡ get_or tests n d
      → enables_at uses n id ≡ true → from tests uses n ≡ see x ∷ from tests uses (suc n)
  here_suc [] uses n x d below same is = absurd (omega (arith, below))
  here_suc (y ∷ ys) [] zero x d below same is = absurd cc
  here_suc (y ∷ ys) [] (suc n) x d below same is = absurd cc
  here_suc (y ∷ ys) (scripts ∷ uses) zero x d below same is =
      ap (λ b. cond b (see y ∷ enabling_by uses (map see ys) id) (enabling_by uses (map see ys) id)) is
      ∙ ap (λ z. see z ∷ enabling_by uses (map see ys) id) (sym same)
  here_suc (y ∷ ys) (scripts ∷ uses) (suc n) x d below same is = here_suc ys uses n x d (omega (arith, below)) same is

  past_suc : (tests : List X) (uses : List ScriptUse) (n : ℕ) → n < length tests → enables_at uses n id ≡ false
      → from tests uses n ≡ from tests uses (suc n)
  past_suc [] uses n below is = absurd (omega (arith, below))
  past_suc (y ∷ ys) [] zero below is = refl
  past_suc (y ∷ ys) [] (suc n) below is = refl
  past_suc (y ∷ ys) (scripts ∷ uses) zero below is =
      ap (λ b. cond b (see y ∷ enabling_by uses (map see ys) id) (enabling_by uses (map see ys) id)) is
  past_suc (y ∷ ys) (scripts ∷ uses) (suc n) below is = past_suc ys uses n (omega (arith, below)) is

  -- the test of a number enables the script
  pub enabling_here : (tests : List X) (uses : List ScriptUse) (n : ℕ) (x d : X) → n < length tests → x ≡ get_or tests n d
      → enables_at uses n id ≡ true → from tests uses n ≡ see x ∷ from tests uses (n + 1)
  enabling_here tests uses n x d below same is =
      let more : suc n ≡ n + 1 = omega arith in
      here_suc tests uses n x d below same is ∙ ap (λ k. see x ∷ from tests uses k) more

  -- the test of a number does not enable the script
  pub enabling_past : (tests : List X) (uses : List ScriptUse) (n : ℕ) → n < length tests → enables_at uses n id ≡ false
      → from tests uses n ≡ from tests uses (n + 1)
  enabling_past tests uses n below is =
      let more : suc n ≡ n + 1 = omega arith in
      past_suc tests uses n below is ∙ ap (from tests uses) more

  -- no test is left
  pub enabling_none : (tests : List X) (uses : List ScriptUse) (n : ℕ) → length tests ≤ n → from tests uses n ≡ []
  enabling_none [] uses zero past = none_of uses id
  enabling_none [] uses (suc n) past = none_of (drop (suc n) uses) id
  enabling_none (y ∷ ys) uses zero past = absurd (omega (arith, past))
  enabling_none (y ∷ ys) [] (suc n) past = refl
  enabling_none (y ∷ ys) (scripts ∷ uses) (suc n) past = enabling_none ys uses n (omega (arith, past))

-- what a list uses, by the tests that enable each setup script and by the ids of wrappers
abbrev pub used_of : Enabling → List Name → Option Used
used_of enabling wrappers = Some (record { enabling = enabling; wrappers = wrappers })

module _ {M : Type 0} (matches : M → Test → M → Bool) (profile : EvaluatableModel M) where
  -- the tests that enable a script are those that are known to
  pub enabling_same : (tests : List Test) (uses : List ScriptUse) → AreUsesIn matches profile tests uses → (id : Name)
      → enabling_by uses tests id ≡ tests_enabling matches profile tests id
  enabling_same [] [] are id = refl
  enabling_same [] (scripts ∷ uses) are id = absurd are
  enabling_same (test ∷ tests) [] are id = absurd are
  enabling_same (test ∷ tests) (scripts ∷ uses) are id =
      ap₂ (λ b rest. cond b (test ∷ rest) rest) (are.0.enabled id) (enabling_same tests uses are.1 id)

  -- the run wrappers of tests are those that are known
  pub wrappers_same : (tests : List Test) (uses : List ScriptUse) → AreUsesIn matches profile tests uses
      → filter_map wrapper_in uses ≡ run_wrappers matches profile tests
  wrappers_same [] [] are = refl
  wrappers_same [] (scripts ∷ uses) are = absurd are
  wrappers_same (test ∷ tests) [] are = absurd are
  wrappers_same (test ∷ tests) (scripts ∷ uses) are = ap₂ cons_option are.0.wrapper (wrappers_same tests uses are.1)

  -- what a list uses is what is known of its tests, and the list wrappers of its binaries
  pub used_same : (matches_binary : BinaryMatch M) (tests : List Test) (binaries : List Binary) (uses : List ScriptUse)
      (enabling : Enabling) (wrappers : List Name) → AreUsesIn matches profile tests uses
      → ((id : Name) → enabling id ≡ enabling_by uses tests id)
      → wrappers ≡ filter_map wrapper_in uses ++ list_wrappers matches_binary profile binaries
      → used_of enabling wrappers
      ≡ used_in matches matches_binary profile (Some (record { tests = tests; binaries = binaries }))
  used_same matches_binary tests binaries uses enabling wrappers are enables wraps =
      let all : enabling ≡ tests_enabling matches profile tests =
      λ i id. (enables id ∙ enabling_same tests uses are id) i in
      ap₂ used_of all (wraps ∙ ap (λ ws. ws ++ list_wrappers matches_binary profile binaries) (wrappers_same tests uses are))
