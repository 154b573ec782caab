-- Why a command line is not a request.
use Rattle.std.proofs.Common.{◌≡◌, ◌≢◌, ◌⊎◌, ◌<◌, Bor, Contains, List, get_or, inl, inr, length, map, refl, subst, sym, ℕ}
use Rattle.std.proofs.lemmas.List.{get_or-map, length-map}
use Rattle.clap.specs.declared.error.kind.ErrorKind.{ErrorKind}
use Rattle.clap.specs.declared.error.kind.ErrorKind.TheVariants as kinds
use Rattle.nextest_elements.specs.declared.identifier.InvalidIdentifier.{InvalidIdentifier}
use Rattle.nextest_elements.specs.declared.identifier.InvalidIdentifier.TheVariants as flaws
use Rattle.nextest_elements.specs.declared.run_mode.NextestRunMode.{NextestRunMode}
use Rattle.rinqebo_request.specs.Refusals.{IsFeatureRefusal, IsRefusedWith, SaysNoCode, SaysNoFeature, SaysNoSetting}
use Rattle.rinqebo_request.specs.Requests.{IsFeatureName}
use Rattle.rinqebo_request.specs.Stops.{IsHelp, IsInvalid, IsRefusedFor, IsStopFor, IsToolRefusal}
use Rattle.rinqebo_request.specs.declared.words.ParseStop.{ParseStop}
use Rattle.rinqebo_request.specs.declared.words.ParseStop.TheVariants as stops

-- a word that is no code, for a reason
pub no_code : (reason : Type 0) (word : List ℕ) (stop : ParseStop) → reason → SaysNoCode word stop → IsRefusedWith reason (SaysNoCode word) stop
no_code reason word (stops.Usage text) holds says = (holds, says)
no_code reason word (stops.Help text) holds says = absurd says.2
no_code reason word stops.Memory holds says = tt

-- a name that is no feature, for a reason
pub no_feature : (reason : Type 0) (name : List ℕ) (stop : ParseStop) → reason → SaysNoFeature name stop → IsRefusedWith reason (SaysNoFeature name) stop
no_feature reason name (stops.Usage text) holds says = (holds, says)
no_feature reason name (stops.Help text) holds says = absurd says.2
no_feature reason name stops.Memory holds says = tt

-- one name of some that is no feature
pub among : (names : List (Bor (List ℕ))) (i : ℕ) (d : Bor (List ℕ)) → i < length names → Contains (map (λ name. name.now) names) (get_or names i d).now
among names i d below = (
  i,
  subst (λ n. i < n) (sym (length-map names (λ name. name.now))) below,
  get_or-map (λ (name : Bor (List ℕ)). name.now) names i d (get_or names i d).now below,
)

pub no_feature_of : (names : List (List ℕ)) (name : List ℕ) (stop : ParseStop) → Contains names name
    → IsRefusedWith (IsFeatureName name → ⊥) (SaysNoFeature name) stop → IsFeatureRefusal names stop
no_feature_of names name (stops.Usage text) one is = (name, one, is.0, is.1)
no_feature_of names name (stops.Help text) one is = is
no_feature_of names name stops.Memory one is = tt

-- a key that names no setting
pub no_setting : (reason : Type 0) (mode : NextestRunMode) (key : List ℕ) (stop : ParseStop) → reason → SaysNoSetting mode key stop
    → IsRefusedWith reason (SaysNoSetting mode key) stop
no_setting reason mode key (stops.Usage text) holds says = (holds, says)
no_setting reason mode key (stops.Help text) holds (inl run) = absurd run.1
no_setting reason mode key (stops.Help text) holds (inr says) = absurd says.2
no_setting reason mode key stops.Memory holds says = tt

-- the refusal of such a key is one for its reason
pub refused_for : (one other : Type 0) (mode : NextestRunMode) (key : List ℕ) (stop : ParseStop) → (one → other)
    → IsRefusedWith one (SaysNoSetting mode key) stop → IsRefusedFor other stop
refused_for one other mode key (stops.Usage text) so is = so is.0
refused_for one other mode key (stops.Help text) so is = is
refused_for one other mode key stops.Memory so is = is

-- a line that is not valid, for a reason
pub invalid_for : (reason : Type 0) (stop : ParseStop) → reason → IsInvalid stop → IsRefusedFor reason stop
invalid_for reason (stops.Usage text) holds is = holds
invalid_for reason (stops.Help text) holds is = absurd is
invalid_for reason stops.Memory holds is = absurd is

-- a name that is not that of a tool
pub tool_refused : (fault : InvalidIdentifier) (stop : ParseStop) → fault ≢ flaws.Memory → IsInvalid stop → IsToolRefusal fault stop
tool_refused fault (stops.Usage text) other is = other
tool_refused fault (stops.Help text) other is = is
tool_refused fault stops.Memory other is = absurd is

-- a name that is refused for a reason, if memory did not run out
pub refused_tool : (reason : Type 0) (fault : InvalidIdentifier) (stop : ParseStop) → (fault ≢ flaws.Memory → reason) → IsToolRefusal fault stop
    → IsRefusedFor reason stop
refused_tool reason fault (stops.Usage text) so is = so is
refused_tool reason fault (stops.Help text) so is = is
refused_tool reason fault stops.Memory so is = tt

-- help that clap prints
pub help_stop : (kind : ErrorKind) (stop : ParseStop) → (kind ≡ kinds.DisplayHelp) ⊎ (kind ≡ kinds.DisplayVersion) → IsHelp stop → IsStopFor kind stop
help_stop kind stop (inl is) help = subst (λ k. IsStopFor k stop) (sym is) help
help_stop kind stop (inr is) help = subst (λ k. IsStopFor k stop) (sym is) help

-- anything else that clap refuses
pub other_stop : (kind : ErrorKind) (stop : ParseStop) → kind ≢ kinds.OutOfMemory → kind ≢ kinds.DisplayHelp → kind ≢ kinds.DisplayVersion → IsInvalid stop
    → IsStopFor kind stop
other_stop kinds.InvalidValue stop memory help version is = is
other_stop kinds.UnknownArgument stop memory help version is = is
other_stop kinds.InvalidSubcommand stop memory help version is = is
other_stop kinds.NoEquals stop memory help version is = is
other_stop kinds.ValueValidation stop memory help version is = is
other_stop kinds.TooManyValues stop memory help version is = is
other_stop kinds.TooFewValues stop memory help version is = is
other_stop kinds.WrongNumberOfValues stop memory help version is = is
other_stop kinds.ArgumentConflict stop memory help version is = is
other_stop kinds.MissingRequiredArgument stop memory help version is = is
other_stop kinds.MissingSubcommand stop memory help version is = is
other_stop kinds.DisplayHelp stop memory help version is = absurd (help refl)
other_stop kinds.DisplayHelpOnMissingArgumentOrSubcommand stop memory help version is = is
other_stop kinds.DisplayVersion stop memory help version is = absurd (version refl)
other_stop kinds.Io stop memory help version is = is
other_stop kinds.Format stop memory help version is = is
other_stop kinds.OutOfMemory stop memory help version is = absurd (memory refl)
