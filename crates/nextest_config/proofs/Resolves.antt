-- From what a load and a profile answer to what resolving promises.
use Rattle.std.proofs.Common.{map, is_some, ◌≡◌, ◌∙◌, ◌⊎◌, inl, inr, ℕ, List, [], ◌∷◌, Result, Ok, Err, refl, sym, ap, subst, append-nil}
use Rattle.nextest_engines.specs.Readings.{Readings}
use Rattle.nextest_inheritance.specs.Parents.{parents_in, IsChain}
use Rattle.nextest_rules.specs.Rules.{ScriptRuleUse}
use Rattle.nextest_load.specs.Closed.{IsClosed}
use Rattle.nextest_load.specs.Config.{config_of, config_parents}
use Rattle.nextest_load.specs.Exact.{IsExact}
use Rattle.nextest_load.specs.Scripts.{AreScriptsOf}
use Rattle.nextest_settings.specs.Profile.{Configured, profile_of, profile_on}
use Rattle.nextest_settings.specs.Queries.{query_in}
use Rattle.nextest_elements.specs.Settings.{settings}
use Rattle.nextest_settings.specs.Settings.{is_set}
use Rattle.nextest_settings.proofs.IsEvaluatedForTest.{test_exactly, test_count}
use Rattle.nextest_settings.proofs.Rising.{all_rise}
use Rattle.nextest_sources.specs.Causes.{LoadFault}
use Rattle.nextest_sources.specs.Endings.{Ending, passed, refused, no_memory, malformed, WentThrough}
use Rattle.nextest_sources.specs.Inputs.{sources_in}
use Rattle.nextest_sources.specs.Steps.{warnings_before}
use Rattle.nextest_sources.specs.Warnings.{Warning}
use Rattle.nextest_tables.specs.FileTexts.{names_in, IsIn}
use Rattle.nextest_config.specs.Answers.{Question, AreAskedRows, Answers}
use Rattle.nextest_config.specs.Headline.{Request, Row, Refusal, bad_config, no_profile, out_of_memory, RulesHold, steps_for, AreRows, Resolves}
use Rattle.nextest_config.specs.RunView.{TellsEnding, run_view}

module _ {M K P : Type 0} (engines : Readings M K P) (request : Request P) (wold wnew : List Warning) where
  -- a load that is refused
  pub load_refused : (numbers : List ℕ) (refusal : Refusal) (o : Ending)
      → WentThrough (steps_for engines request) wold wnew o
      → (o ≡ no_memory) ⊎ (¬ RulesHold engines request)
      → ((fault : LoadFault) → o ≡ refused fault → IsExact request.files fault) → (o ≡ passed → ⊥)
      → TellsEnding o refusal
      → Resolves engines request (run_view (Err refusal) wold wnew numbers numbers)
  load_refused numbers refusal passed went verdict exact unpassed tells = absurd (unpassed refl)
  load_refused numbers refusal (refused fault) went verdict exact unpassed tells =
      let P : Refusal → Type 0 = λ r. Resolves engines request (run_view (Err r) wold wnew numbers numbers) in
      let broken : ¬ RulesHold engines request =
      elim verdict [ inl memory ↦ absurd (other memory) | inr fails ↦ fails ] in
      subst P (sym tells) (record {
        acceptance = tt;
        refusal = record { broken = broken; first = went.0; is_fault = refl };
        exact = exact fault refl;
        absence = tt;
        unasked = refl;
        warnings = went.1;
        numbers = [];
        tally = sym (append-nil numbers);
        rows = tt;
      })
    where
      other : refused fault ≡ no_memory → ⊥
      other same = cc
  load_refused numbers refusal no_memory went verdict exact unpassed tells =
      let P : Refusal → Type 0 = λ r. Resolves engines request (run_view (Err r) wold wnew numbers numbers) in
      subst P (sym tells) (record {
        acceptance = tt;
        refusal = tt;
        exact = tt;
        absence = tt;
        unasked = tt;
        warnings = went;
        numbers = [];
        tally = sym (append-nil numbers);
        rows = tt;
      })
  load_refused numbers refusal malformed went verdict exact unpassed tells = absurd went

  -- the question that a request puts to its configuration
  abbrev pub question_of : Question P
  question_of = record {
    profile = request.profile;
    platforms = request.platforms;
    mode =
        request.mode;
    tests = request.tests;
  }

  module _ (holds : RulesHold engines request)
      (went : WentThrough (steps_for engines request) wold wnew passed) (configured : Configured M K)
      (root : configured.root ≡ request.root) (means : configured.config ≡ config_of engines (sources_in request.files))
      (are_scripts : AreScriptsOf (sources_in request.files) configured.scripts)
      (closed : IsClosed engines.matches_binary configured.config configured.scripts) where
    are_rows : (rows : List Row) (numbers : List ℕ)
        → AreAskedRows engines.meets engines.matches_test configured question_of rows numbers
        → AreRows engines request rows numbers
    are_rows rows numbers asked = record {
      known = subst (λ c. IsIn (names_in c.profiles) request.profile) means asked.known;
      scripts = configured.scripts;
      are_scripts = are_scripts;
      profile = asked.profile;
      is_profile = record {
        chain = asked.is_profile.chain;
        is_chain = subst (λ c. IsChain (parents_in (config_parents c)) request.profile asked.is_profile.chain)
            means asked.is_profile.is_chain;
        is_profile = asked.is_profile.is_profile
            ∙ (λ i. profile_on engines.meets request.platforms
            (profile_of (record { root = root i; config = means i; scripts = configured.scripts })
            request.profile asked.is_profile.chain));
      };
      closure = subst (λ c. IsClosed engines.matches_binary c configured.scripts) means closed;
      each = asked.are_rows.each;
      evaluated = asked.are_rows.evaluated;
      rising = λ test. all_rise asked.profile.overrides asked.profile.script_rules
          (map (λ s w. is_set w.settings request.mode s) settings)
          ((λ (w : ScriptRuleUse). is_some w.scripts.run_wrapper) ∷ []) (query_in engines.matches_test asked.profile test);
      exactly = λ test. test_exactly (query_in engines.matches_test asked.profile test) request.mode asked.profile;
      count = λ test. test_count (query_in engines.matches_test asked.profile test) request.mode asked.profile;
    }

    -- a load that is accepted
    pub load_accepted : (nold nnew : List ℕ) (answer : Result (List Row) Refusal)
        → Answers engines.meets engines.matches_test configured question_of answer nold nnew
        → Resolves engines request (run_view answer wold wnew nold nnew)
    load_accepted nold nnew (Ok rows) answers = record {
      acceptance = holds;
      refusal = tt;
      exact = tt;
      absence = tt;
      unasked = tt;
      warnings = went.1;
      numbers = answers.numbers;
      tally = answers.tally;
      rows = are_rows rows answers.numbers answers.rows;
    }
    load_accepted nold nnew (Err (bad_config fault)) answers = absurd answers.accepted
    load_accepted nold nnew (Err (no_profile name profiles)) answers = record {
      acceptance = tt;
      refusal = tt;
      exact = tt;
      absence = (
        holds,
        record {
          same = answers.absence.same;
          all = answers.absence.all ∙ ap (λ c. names_in c.profiles) means;
          ascending = answers.absence.ascending;
          absent = answers.absence.absent;
        },
      );
      unasked = answers.unasked;
      warnings = went.1;
      numbers = answers.numbers;
      tally = answers.tally;
      rows = tt;
    }
    load_accepted nold nnew (Err out_of_memory) answers = record {
      acceptance = tt;
      refusal = tt;
      exact = tt;
      absence = tt;
      unasked = tt;
      warnings = (
        warnings_before (steps_for engines request),
        ([], sym (append-nil (warnings_before (steps_for engines request)))),
        went.1,
      );
      numbers = answers.numbers;
      tally = answers.tally;
      rows = tt;
    }
