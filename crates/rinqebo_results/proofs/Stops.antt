-- Why a list was not written whole.
use Rattle.std.proofs.Common.{◌≡◌, ◌⊎◌, inl, inr, ℕ, List, Option, Result, Ok, Err, IfErr, IsErrAnd, refl, subst, sym}
use Rattle.std.specs.Io.KnownBytes.{Appends}
use Rattle.rinqebo_load.specs.declared.failure.Failure.{Failure}
use Rattle.rinqebo_results.proofs.Prefixes.{received_behind, received_none, received_so, received_text}
use Rattle.rinqebo_results.specs.Prefixes.{AppendsPrefix, Grows}
use Rattle.rinqebo_results.specs.Written.{IsListed, StopsList}
use Rattle.rinqebo_results.specs.declared.list_stop.ListStop.{ListStop}
use Rattle.rinqebo_results.specs.declared.list_stop.ListStop.TheVariants as faults

-- a fault is passed on
pub passed_stop : {A : Type 0} (P : ListStop → Type 0) (r : Result A ListStop) (fault : ListStop)
    → IsErrAnd r (λ told. told ≡ fault) → P fault → IfErr r P
passed_stop P (Ok answer) fault same is = tt
passed_stop P (Err told) fault same is = subst P (sym same) is

-- what a writer holds if no write fails, in other words
listed_so : (begun more ends last : Option (List ℕ) → Type 0) (old : Option (List ℕ))
    → ((whole : Option (List ℕ)) → begun whole → more whole)
    → ((whole : Option (List ℕ)) → ends whole → more whole ⊎ last whole)
    → (whole : Option (List ℕ)) → IsListed begun ends old whole → IsListed more last old whole
listed_so begun more ends last old first final whole (inl same) = inl same
listed_so begun more ends last old first final whole (inr (inl is)) = inr (inl (first whole is))
listed_so begun more ends last old first final whole (inr (inr is)) = inr (final whole is)

-- why a list was not written whole, in other words
pub stops_so : (refuses others : Failure → Type 0) (begun more ends last : Option (List ℕ) → Type 0)
    (old new : Option (List ℕ)) (fault : ListStop) → ((failure : Failure) → refuses failure → others failure)
    → ((whole : Option (List ℕ)) → begun whole → more whole)
    → ((whole : Option (List ℕ)) → ends whole → more whole ⊎ last whole)
    → StopsList refuses begun ends old new fault → StopsList others more last old new fault
stops_so refuses others begun more ends last old new (faults.Refused failure) told first final stop =
    (told failure stop.0, stop.1)
stops_so refuses others begun more ends last old new faults.Memory told first final (inl is) = inl (first new is)
stops_so refuses others begun more ends last old new faults.Memory told first final (inr same) = inr same
stops_so refuses others begun more ends last old new faults.Write told first final stop =
    received_so (IsListed begun ends old) (IsListed more last old) old new
    (listed_so begun more ends last old first final) stop

-- what a writer holds if no write fails, behind what was written before
listed_behind : (more begun ends last : Option (List ℕ) → Type 0) (old mid : Option (List ℕ))
    → ((whole : Option (List ℕ)) → more whole ⊎ (whole ≡ mid) → begun whole)
    → ((whole : Option (List ℕ)) → ends whole → begun whole ⊎ last whole)
    → (whole : Option (List ℕ)) → IsListed more ends mid whole → IsListed begun last old whole
listed_behind more begun ends last old mid further final whole (inl same) = inr (inl (further whole (inr same)))
listed_behind more begun ends last old mid further final whole (inr (inl is)) = inr (inl (further whole (inl is)))
listed_behind more begun ends last old mid further final whole (inr (inr is)) = inr (final whole is)

-- why a list was not written whole of which something was written before
pub stops_behind : (more begun ends last : Option (List ℕ) → Type 0) (old mid new : Option (List ℕ)) (fault : ListStop)
    → Grows old mid → ((whole : Option (List ℕ)) → more whole ⊎ (whole ≡ mid) → begun whole)
    → ((whole : Option (List ℕ)) → ends whole → begun whole ⊎ last whole)
    → StopsList (λ _. ⊥) more ends mid new fault → StopsList (λ _. ⊥) begun last old new fault
stops_behind more begun ends last old mid new (faults.Refused failure) grown further final stop = absurd stop.0
stops_behind more begun ends last old mid new faults.Memory grown further final stop = inl (further new stop)
stops_behind more begun ends last old mid new faults.Write grown further final stop =
    received_behind (IsListed more ends mid) (IsListed begun last old) old mid new grown
    (listed_behind more begun ends last old mid further final) stop

-- what was written behind a beginning: more, or nothing
pub first_or_none : (More Begun : Option (List ℕ) → Type 0) (mid : Option (List ℕ))
    → ((whole : Option (List ℕ)) → More whole → Begun whole) → ((whole : Option (List ℕ)) → whole ≡ mid → Begun whole)
    → (whole : Option (List ℕ)) → More whole ⊎ (whole ≡ mid) → Begun whole
first_or_none More Begun mid here none whole (inl more) = here whole more
first_or_none More Begun mid here none whole (inr same) = none whole same

-- a list was not written whole since a write of a text failed
pub stops_text : (refuses : Failure → Type 0) (begins ends : Option (List ℕ) → Type 0) (old mid new : Option (List ℕ))
    (text : List ℕ) (fault : ListStop) → fault ≡ faults.Write → Grows old mid → AppendsPrefix mid new text
    → ((whole : Option (List ℕ)) → Appends mid whole text → begins whole ⊎ ends whole)
    → StopsList refuses begins ends old new fault
stops_text refuses begins ends old mid new text fault is grown prefix makes =
    subst (λ f. StopsList refuses begins ends old new f) (sym is)
    (received_text (IsListed begins ends old) old mid new text grown prefix (λ whole page. inr (makes whole page)))

-- a list was not written whole of which nothing was written
pub stops_before : (refuses : Failure → Type 0) (begins ends : Option (List ℕ) → Type 0) (old : Option (List ℕ))
    (fault : ListStop) → (fault ≡ faults.Memory) ⊎ (fault ≡ faults.Write) → StopsList refuses begins ends old old fault
stops_before refuses begins ends old fault (inl is) =
    subst (λ f. StopsList refuses begins ends old old f) (sym is) (inr refl)
stops_before refuses begins ends old fault (inr is) =
    subst (λ f. StopsList refuses begins ends old old f) (sym is)
    (received_none (IsListed begins ends old) old old refl (inl refl))
