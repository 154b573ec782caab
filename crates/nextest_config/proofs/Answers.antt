-- What a configuration answers, by how its parts end.
use Rattle.std.proofs.Common.{◌≡◌, ◌++◌, ◌∙◌, ℕ, Bool, true, false, List, [], Option, Result, Ok, Err, map, refl, sym, ap, append-nil, string_bytes, Vec, Global}
use Rattle.std.specs.Result.{IfOk}
use Rattle.nextest_engines.specs.Engines.{Test}
use Rattle.nextest_settings.specs.Profiles.Meaning.{configured_meaning, profile_meaning}
use Rattle.nextest_settings.specs.Profiles.Profiles.{IsProfileOf}
use Rattle.nextest_settings.proofs.MeaningOfTexts.{profile_means}
use Rattle.nextest_settings.specs.Profile.{Configured, EarlyModel, EvaluatableModel, profile_on}
use Rattle.nextest_tables.specs.FileTexts.{names_in, IsIn}
use Rattle.nextest_tree.specs.Schema.{is_one_of}
use Rattle.nextest_config.specs.Answers.{Question, IsAskedProfile, AreRowsIn, Answers}
use Rattle.nextest_config.specs.Headline.{Row, out_of_memory}
use Rattle.nextest_config.specs.ProfileError.{IsNotFound}
use Rattle.nextest_config.specs.RunView.{refusal_view, profile_fault, answer_view}
use Rattle.nextest_config.specs.declared.profile_error.ProfileError.{ProfileError}
use Rattle.nextest_config.specs.declared.profile_error.ProfileError.TheVariants as errors
use Rattle.nextest_config.specs.declared.run.fault.ResolveFault.{ResolveFault}
use Rattle.nextest_config.specs.declared.run.fault.ResolveFault.TheVariants as faults
use Rattle.nextest_config.specs.declared.run.row.TestRow.{TestRow}

-- a fact of what is answered, through what it implies
pub if_ok : {T E : Type 0} (P Q R : T → Type 0) (r : Result T E) → ((x : T) → P x → Q x → R x) → IfOk r P
    → IfOk r Q → IfOk r R
if_ok P Q R (Ok x) h p q = h x p q
if_ok P Q R (Err e) h p q = tt

module _ {M K P : Type 0} (meets : K → P → Option Bool) (matches : M → Test → M → Bool)
    (configured : Configured M K) (question : Question P) where
  -- memory ran out
  pub no_rows : (old new numbers : List ℕ) → new ≡ old ++ numbers
      → Answers meets matches configured question (Err out_of_memory) old new
  no_rows old new numbers is =
      record { accepted = tt; absence = tt; unasked = tt; numbers = numbers; tally = is; rows = tt }

  -- the profile is not given
  pub no_such_profile : (error : ProfileError)
      → IsNotFound (names_in configured.config.profiles) question.profile error → (old : List ℕ)
      → Answers meets matches configured question (Err (refusal_view (profile_fault error))) old old
  no_such_profile (errors.NotFound missing) tells old = record {
    accepted = tt;
    absence = record { same = tells.same; all = tells.all; ascending = tells.ascending; absent = absent };
    unasked = refl;
    numbers = [];
    tally = sym (append-nil old);
    rows = tt;
  }
    where
      absent : IsIn (map string_bytes missing.known.items) (string_bytes missing.name) → ⊥
      absent is =
          let moved : is_one_of (map string_bytes missing.known.items) (string_bytes missing.name)
          ≡ is_one_of (names_in configured.config.profiles) question.profile =
          (λ i. is_one_of (tells.all i) (tells.same i)) in
          let bad : true ≡ false = sym is ∙ moved ∙ tells.absent in cc
  no_such_profile errors.Memory tells old = no_rows old old [] (sym (append-nil old))

  -- the same, of what a call answers
  pub profile_refused : (r : Result (Vec TestRow Global) ResolveFault) (fault : ResolveFault)
      (error : ProfileError) → r ≡ Err fault → fault ≡ profile_fault error
      → IsNotFound (names_in configured.config.profiles) question.profile error → (old : List ℕ)
      → Answers meets matches configured question (answer_view r) old old
  profile_refused r fault error is same tells old = rw (is, same) (no_such_profile error tells old)

  -- memory ran out, in what a call answers
  pub memory_refused : (r : Result (Vec TestRow Global) ResolveFault) (fault : ResolveFault) → r ≡ Err fault
      → fault ≡ faults.Memory → (old new numbers : List ℕ) → new ≡ old ++ numbers
      → Answers meets matches configured question (answer_view r) old new
  memory_refused r fault is same old new numbers added = rw (is, same) (no_rows old new numbers added)

  -- there are rows
  pub with_rows : (old new numbers : List ℕ) (rows : List Row) (profile : EvaluatableModel M)
      → IsIn (names_in configured.config.profiles) question.profile
      → IsAskedProfile meets configured question profile → new ≡ old ++ numbers
      → AreRowsIn matches profile question.mode question.tests rows numbers
      → Answers meets matches configured question (Ok rows) old new
  with_rows old new numbers rows profile known is added are_rows = record {
    accepted = tt;
    absence = tt;
    unasked = tt;
    numbers = numbers;
    tally = added;
    rows = record { known = known; profile = profile; is_profile = is; are_rows = are_rows };
  }

-- the profile that is requested, by what its rules mean
pub asked_profile : {E N M K P : Type 0} (f : E → M) (g : N → K) (meets : K → P → Option Bool)
    (question : Question P) (config : Configured E N) (early : EarlyModel E N) (profile : EvaluatableModel E)
    → IsProfileOf config question.profile early
    → profile ≡ profile_on (λ spec platform. meets (g spec) platform) question.platforms early
    → IsAskedProfile meets (configured_meaning f g config) question (profile_meaning f profile)
asked_profile f g meets question config early profile found is = record {
  chain = found.chain;
  is_chain = found.is_chain;
  is_profile = ap (profile_meaning f)
      (is ∙ ap (profile_on (λ spec platform. meets (g spec) platform) question.platforms) found.is_profile)
      ∙ profile_means f g meets question.platforms config question.profile found.chain;
}
