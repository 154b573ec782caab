-- Two diffs of swapped sides.
use Rattle.std.proofs.Common.{◌≡◌, ◌∙◌, ◌&&◌, ◌==◌, Bool, true, false, cond, List, [], ◌∷◌, Contains, length, refl, sym, ap, subst, arith}
use Rattle.std.specs.List.{AllZip}
use Rattle.std.proofs.lemmas.Bool.Decides.{Decides-eqb, Decides-like, same_from_decides}
use Rattle.std.proofs.lemmas.List.Elements.{length_all_zip}
use Rattle.filter_inputs.specs.Lists.Lists.{ListTest}
use Rattle.rinqebo_report.specs.declared.origin.Source.{Source}
use Rattle.rinqebo_report.specs.declared.report.TestId.{TestId}
use Rattle.rinqebo_report.specs.declared.report.TestRows.{TestRows}
use Rattle.rinqebo_request.specs.declared.request.RequestedSettings.{RequestedSettings}
use Rattle.rinqebo_changes.specs.Changes.{is_change}
use Rattle.rinqebo_changes.specs.Diffs.{is_empty}
use Rattle.rinqebo_changes.specs.Sides.Own.{NamesOnce}
use Rattle.rinqebo_changes.specs.declared.change.RowChange.{RowChange}
use Rattle.rinqebo_changes.specs.declared.change.SideRow.{SideRow}
use Rattle.rinqebo_changes.specs.declared.change.TestChanges.{TestChanges}
use Rattle.rinqebo_changes.specs.declared.diff.Diff.{Diff}
use Rattle.rinqebo_diff.specs.Asked.{compares_runs}
use Rattle.rinqebo_diff.specs.Compared.{AreCompared}
use Rattle.rinqebo_diff.specs.Differences.{SideReports, diff_status, tests_of, IsDiffOf, IsIdOf}
use Rattle.rinqebo_diff.specs.RunChanges.{AreRunChangesIf}
use Rattle.rinqebo_diff.specs.Sides.{Evaluation}
use Rattle.rinqebo_diff.specs.TurnedSides.{swapped_request, AreTurnedAlike, AreTurnedAlone, AreTurnedRuns, AreTurnedTests, ComeAlike, HasTurned, NameSame, SaySame}
use Rattle.rinqebo_diff.specs.declared.request.DiffRequest.{DiffRequest}
use Rattle.rinqebo_diff.proofs.OneOrigins.{AreFiles}
use Rattle.rinqebo_diff.proofs.OneRun.{one_run}
use Rattle.rinqebo_diff.proofs.ReportedTwice.{steady, steady_alike}
use Rattle.rinqebo_diff.proofs.TurnedRows.{change_alike, change_turned}
use Rattle.rinqebo_diff.proofs.TurnedRuns.{none_back, none_into, runs_turned}
use Rattle.rinqebo_diff.proofs.TurnedTests.{tests_turned}

-- ---- tests of one list alone

-- two lists of names of the same tests are one by one the same
named_alike : (tests : List ListTest) (xs ys : List TestId) → AllZip IsIdOf tests xs → AllZip IsIdOf tests ys
    → AllZip NameSame xs ys
named_alike [] [] [] one two = tt
named_alike [] [] (y ∷ ys) one two = absurd two
named_alike [] (x ∷ xs) ys one two = absurd one
named_alike (t ∷ ts) [] ys one two = absurd one
named_alike (t ∷ ts) (x ∷ xs) [] one two = absurd two
named_alike (t ∷ ts) (x ∷ xs) (y ∷ ys) one two = (
  record { binary = one.0.binary ∙ sym two.0.binary; name = one.0.name ∙ sym two.0.name },
  named_alike ts xs ys one.1 two.1,
)

-- what one diff lists as removed, the other one lists as added
pub alone_turned : (request : DiffRequest) (left right : Evaluation) (diff other : Diff)
    → IsDiffOf request left right diff → IsDiffOf (swapped_request request) right left other → AreTurnedAlone diff other
alone_turned request left right diff other is are = record {
  removed = named_alike _ diff.removed.items other.added.items is.removed are.added;
  added = named_alike _ diff.added.items other.removed.items is.added are.removed;
}

-- ---- the whole run

changes_turned : (with_run : Bool) (left right : Evaluation) (changes others : List RowChange)
    → AreRunChangesIf with_run left right changes → AreRunChangesIf with_run right left others
    → AreTurnedRuns changes others
changes_turned false left right changes others one two =
    subst (λ xs. AreTurnedRuns xs others) (sym one)
    (subst (AreTurnedRuns []) (sym two) (record { each = λ name. tt }))
changes_turned true left right changes others one two =
    runs_turned one.before one.after two.before two.after
    (one_run left one.before two.after one.are_before two.are_after)
    (one_run right one.after two.before one.are_after two.are_before) changes others one.are_changes
    two.are_changes

-- what changes for the whole run changes the other way
pub run_turned : (request : DiffRequest) (left right : Evaluation) (diff other : Diff)
    → IsDiffOf request left right diff → IsDiffOf (swapped_request request) right left other
    → AreTurnedRuns diff.run.items other.run.items
run_turned request left right diff other is are =
    changes_turned request.with_run left right diff.run.items other.run.items is.run are.run

-- ---- tests that both sides have

module _ (request : DiffRequest) (left right : Evaluation) (diff other : Diff) (once : NamesOnce (tests_of left))
    (also : NamesOnce (tests_of right)) (is : IsDiffOf request left right diff)
    (are : IsDiffOf (swapped_request request) right left other) where
  abbrev asked : RequestedSettings
  asked = request.compared.asked

  abbrev runs : Bool
  runs = compares_runs asked

  -- what the sides report
  abbrev lefts : ListTest → TestRows → Type 0
  lefts = SideReports left request.from.mode asked

  abbrev rights : ListTest → TestRows → Type 0
  rights = SideReports right request.to.mode asked

  -- the sources of both sides of the two diffs
  abbrev from : List Source
  from = diff.from.sources.items

  abbrev to : List Source
  to = diff.to.sources.items

  abbrev files : List Source
  files = other.from.sources.items

  abbrev others : List Source
  others = other.to.sources.items

  pub changed_turned : request.with_origins ≡ false → AreTurnedTests diff.changed.items other.changed.items
  changed_turned plain =
      let there : AreCompared lefts rights (is_change from to false) runs is.pairs diff.changed.items =
      subst (λ with. AreCompared lefts rights (is_change from to with) runs is.pairs diff.changed.items) plain is.changed in
      let back : AreCompared rights lefts (is_change files others false) runs are.pairs other.changed.items =
      subst (λ with. AreCompared rights lefts (is_change files others with) runs are.pairs other.changed.items) plain
      are.changed in
      let steady_left = steady left request.from.mode asked in
      let steady_right = steady right request.to.mode asked in
      record {
        into = tests_turned lefts rights runs SaySame SaySame (is_change from to false) (is_change files others false)
            (change_turned from to files others) steady_left steady_right (tests_of left) (tests_of right) is.pairs
            are.pairs diff.changed.items other.changed.items also is.are_pairs are.are_pairs there back;
        back = tests_turned rights lefts runs SaySame SaySame (is_change files others false) (is_change from to false)
            (change_turned files others from to) steady_right steady_left (tests_of right) (tests_of left) are.pairs
            is.pairs other.changed.items diff.changed.items once are.are_pairs is.are_pairs back there;
      }

  -- where the sources of both sides are files, it comes from the same
  pub alike_turned : AreFiles left.session.layers.items → AreFiles right.session.layers.items → AreTurnedAlike diff other
  alike_turned left_files right_files =
      let with = request.with_origins in
      record {
        into = tests_turned lefts rights runs (ComeAlike from others) (ComeAlike to files) (is_change from to with)
            (is_change files others with) (change_alike from to files others with)
            (steady_alike left request.from.mode asked from others is.from.sources are.to.sources left_files)
            (steady_alike right request.to.mode asked to files is.to.sources are.from.sources right_files) (tests_of left)
            (tests_of right) is.pairs are.pairs diff.changed.items other.changed.items also is.are_pairs are.are_pairs
            is.changed are.changed;
        back = tests_turned rights lefts runs (ComeAlike files to) (ComeAlike others from) (is_change files others with)
            (is_change from to with) (change_alike files others from to with)
            (steady_alike right request.to.mode asked files to are.from.sources is.to.sources right_files)
            (steady_alike left request.from.mode asked others from are.to.sources is.from.sources left_files)
            (tests_of right) (tests_of left) are.pairs is.pairs other.changed.items diff.changed.items once are.are_pairs
            is.are_pairs are.changed is.changed;
      }

-- ---- the status

no_length : {X : Type 0} (xs : List X) → length xs ≡ 0 → xs ≡ []
no_length [] none = refl
no_length (x ∷ xs) none = absurd (omega (arith, none))

-- two lists are empty together
empty_together : {X Y : Type 0} (xs : List X) (ys : List Y) → (xs ≡ [] → ys ≡ []) → (ys ≡ [] → xs ≡ [])
    → (length xs == 0) ≡ (length ys == 0)
empty_together xs ys into back =
    same_from_decides (length xs == 0) (length ys == 0) (Decides-eqb (length xs) 0)
    (Decides-like (length ys == 0) (λ e. ap length (back (no_length ys e))) (λ e. ap length (into (no_length xs e)))
    (Decides-eqb (length ys) 0))

none_turned : (AreLefts AreRights : SideRow → SideRow → Type 0) (changed others : List TestChanges)
    → ((test : TestChanges) → Contains others test → HasTurned AreLefts AreRights changed test) → changed ≡ []
    → others ≡ []
none_turned AreLefts AreRights changed [] back none = refl
none_turned AreLefts AreRights changed (c ∷ cs) back none =
    let has = back c (0, omega arith, refl) in
    let there : Contains [] has.other = subst (λ xs. Contains xs has.other) none has.there in
    absurd (omega (arith, there.1))

other_order : (p q r s : Bool) → (((p && q) && r) && s) ≡ (((p && r) && q) && s)
other_order false q r s = refl
other_order true true true s = refl
other_order true true false s = refl
other_order true false true s = refl
other_order true false false s = refl

-- where no tests change in both of two diffs of swapped sides, or in neither, nothing changes in
-- both, or in neither
status_by : (request : DiffRequest) (left right : Evaluation) (diff other : Diff) → IsDiffOf request left right diff
    → IsDiffOf (swapped_request request) right left other
    → (length diff.changed.items == 0) ≡ (length other.changed.items == 0) → diff_status diff ≡ diff_status other
status_by request left right diff other is are changed =
    let alone = alone_turned request left right diff other is are in
    let runs = run_turned request left right diff other is are in
    let removed : (length diff.removed.items == 0) ≡ (length other.added.items == 0) =
    ap (λ n. n == 0) (length_all_zip NameSame diff.removed.items other.added.items alone.removed) in
    let added : (length diff.added.items == 0) ≡ (length other.removed.items == 0) =
    ap (λ n. n == 0) (length_all_zip NameSame diff.added.items other.removed.items alone.added) in
    let run : (length diff.run.items == 0) ≡ (length other.run.items == 0) =
    empty_together diff.run.items other.run.items (none_into diff.run.items other.run.items runs)
    (none_back diff.run.items other.run.items runs) in
    let empty : is_empty diff ≡ is_empty other =
    other_order (length diff.changed.items == 0) (length diff.removed.items == 0) (length diff.added.items == 0)
    (length diff.run.items == 0)
    ∙ (λ i. ((changed i && added i) && removed i) && run i) in
    ap (λ b. cond b 0 1) empty

-- nothing changes in one of two diffs of swapped sides exactly if nothing does in the other one
pub status_turned : (request : DiffRequest) (left right : Evaluation) (diff other : Diff)
    → request.with_origins ≡ false → NamesOnce (tests_of left) → NamesOnce (tests_of right)
    → IsDiffOf request left right diff → IsDiffOf (swapped_request request) right left other
    → diff_status diff ≡ diff_status other
status_turned request left right diff other plain once also is are =
    let tests = changed_turned request left right diff other once also is are plain in
    status_by request left right diff other is are
    (empty_together diff.changed.items other.changed.items
    (none_turned SaySame SaySame diff.changed.items other.changed.items tests.back)
    (none_turned SaySame SaySame other.changed.items diff.changed.items tests.into))

-- and so it is of sides of files, where origins count
pub alike_status : (request : DiffRequest) (left right : Evaluation) (diff other : Diff) → NamesOnce (tests_of left)
    → NamesOnce (tests_of right) → IsDiffOf request left right diff
    → IsDiffOf (swapped_request request) right left other → AreFiles left.session.layers.items
    → AreFiles right.session.layers.items → diff_status diff ≡ diff_status other
alike_status request left right diff other once also is are left_files right_files =
    let tests = alike_turned request left right diff other once also is are left_files right_files in
    status_by request left right diff other is are
    (empty_together diff.changed.items other.changed.items
    (none_turned _ _ diff.changed.items other.changed.items tests.back)
    (none_turned _ _ other.changed.items diff.changed.items tests.into))
