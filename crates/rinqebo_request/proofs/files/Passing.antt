-- Faults that are passed on, and what each is about.
use Rattle.std.proofs.Common.{◌≡◌, ◌⊎◌, Err, IfErr, List, None, Ok, Result, Some, inl, inr, option_map, subst, sym, ℕ}
use Rattle.std.specs.Prelude.{IsErrAnd}
use Rattle.nextest_sources.specs.Sources.{Outcome}
use Rattle.rinqebo_request.specs.Files.Gathering.{IsNoFolder, IsNoRoot, IsNoText, IsNotFound, IsReason, IsUnreadable}
use Rattle.rinqebo_request.specs.declared.files.gathering.GatherFault.{GatherFault}
use Rattle.rinqebo_request.specs.declared.files.gathering.GatherFault.TheVariants as faults
use Rattle.rinqebo_request.specs.declared.named.FileOption.{FileOption}
use Rattle.rinqebo_request.specs.declared.request.FileOptions.{FileOptions}

-- a fault is passed on
pub passed : {A E : Type 0} (P : E → Type 0) (r : Result A E) (fault : E) → IsErrAnd r (λ told. told ≡ fault) → P fault → IfErr r P
passed P (Ok x) fault same is = tt
passed P (Err told) fault same is = subst P (sym same) is

-- why a file has no text
pub unread : (path : List ℕ) (option : FileOption) (given : Outcome → Type 0) (outcome : Outcome) (reason : List ℕ) (fault : GatherFault)
    → IsUnreadable path option reason fault → given outcome → IsReason outcome reason → IsNoText path option given fault
unread path option given outcome reason (faults.Unreadable file why) is gives why_is =
    record {
      path_is = is.0;
      option_is = is.1;
      outcome = outcome;
      is_given = gives;
      reason_is = subst (IsReason outcome) (sym is.2) why_is;
    }
unread path option given outcome reason faults.NoRoot is gives why_is = absurd is
unread path option given outcome reason (faults.NoFolder folder) is gives why_is = absurd is
unread path option given outcome reason faults.Memory is gives why_is = absurd is

-- the same, if memory may have run out
pub unread_or : (path : List ℕ) (option : FileOption) (given : Outcome → Type 0) (outcome : Outcome) (reason : List ℕ) (fault : GatherFault)
    → (fault ≡ faults.Memory) ⊎ IsUnreadable path option reason fault → given outcome → IsReason outcome reason → IsNoText path option given fault
unread_or path option given outcome reason fault (inl memory) gives why_is = subst (IsNoText path option given) (sym memory) tt
unread_or path option given outcome reason fault (inr is) gives why_is = unread path option given outcome reason fault is gives why_is

-- the same of another reader
pub text_of : (path : List ℕ) (option : FileOption) (one other : Outcome → Type 0) (fault : GatherFault) → ((outcome : Outcome) → one outcome → other outcome)
    → IsNoText path option one fault → IsNoText path option other fault
text_of path option one other (faults.Unreadable file why) so is =
    record {
      path_is = is.path_is;
      option_is = is.option_is;
      outcome = is.outcome;
      is_given = so is.outcome is.is_given;
      reason_is = is.reason_is;
    }
text_of path option one other faults.NoRoot so is = is
text_of path option one other (faults.NoFolder folder) so is = is
text_of path option one other faults.Memory so is = is

-- a root that is named
pub named : (files : FileOptions) (path : List ℕ) (fault : GatherFault) → option_map (λ path. path.now) files.root ≡ Some path → IsNoFolder path fault
    → IsNoRoot files fault
named files path (faults.NoFolder folder) root is = subst (λ p. option_map (λ path. path.now) files.root ≡ Some p) (sym is) root
named files path faults.NoRoot root is = absurd is
named files path faults.Memory root is = tt
named files path (faults.Unreadable file reason) root is = absurd is

-- a root that is looked for
pub found : (files : FileOptions) (fault : GatherFault) → files.root ≡ None → IsNotFound files.config_file fault → IsNoRoot files fault
found files faults.NoRoot none is = (none, is)
found files (faults.NoFolder folder) none is = absurd is
found files faults.Memory none is = tt
found files (faults.Unreadable file reason) none is = absurd is
