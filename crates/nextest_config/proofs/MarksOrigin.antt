-- What a mark tells of an origin.
use Rattle.std.proofs.Common.{◌≡◌, Option, None, Some, refl, sym, ap}
use Rattle.nextest_settings.specs.Queries.{Origin}
use Rattle.nextest_settings.specs.SourceView.{MarksOrigin}

-- what a mark tells of an origin
pub marked : {S : Type 0} (f : S → Origin) (source : S) (o : Option Origin)
    → MarksOrigin (λ s origin. f s ≡ origin) (Some source) o → o ≡ Some (f source)
marked f source None marks = absurd marks
marked f source (Some origin) marks = ap Some (sym marks)

-- no mark means that there is no origin
pub unmarked : {S : Type 0} (shows : S → Origin → Type 0) (o : Option Origin) → MarksOrigin shows None o → o ≡ None
unmarked shows None marks = refl
unmarked shows (Some origin) marks = absurd marks
