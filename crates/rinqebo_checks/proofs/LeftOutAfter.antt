-- What is left out after refusals.
use Rattle.std.proofs.Common.{◌≡◌, ◌⊎◌, ℕ, Bool, true, false, cond, List, [], Option, None, Some, Ordering, Less, Equal, Greater, inl, inr, is_eq, length, nat_cmp, refl, sym, ap, ◌∙◌, subst}
use Rattle.std.proofs.lemmas.Map.Lookups.{exact_unsigned}
use Rattle.std.specs.BTreeMap.{is_at}
use Rattle.nextest_sources.specs.declared.error.ConfigParseError.{ConfigParseError}
use Rattle.nextest_sources.specs.declared.error.ConfigParseErrorKind.{ConfigParseErrorKind}
use Rattle.nextest_sources.specs.declared.error.ConfigParseErrorKind.TheVariants as kinds
use Rattle.nextest_tree.specs.Node.{Node}
use Rattle.rinqebo_faults.specs.Checks.{check_of}
use Rattle.rinqebo_faults.specs.declared.checks.Check.TheVariants as checks
use Rattle.rinqebo_faults.specs.Edits.{Edit, with_edits}
use Rattle.rinqebo_findings.specs.Sources.{document_at}
use Rattle.rinqebo_request.specs.declared.files.layers.Layer.{Layer}
use Rattle.rinqebo_checks.specs.LeavingOut.{AreEditsFor, AreUnreadAfter, IsLeftOutAfter, LeavesOutSettings, refused_edits}
use Rattle.rinqebo_checks.specs.ReadAgain.{ReadingView}
use Rattle.rinqebo_checks.specs.Refusals.{refused_position}

-- nothing is listed for a file that is refused as a whole
no_whole_edits : (place sources : ℕ) (file : Option Node) (kind : ConfigParseErrorKind) → check_of kind ≡ None
    → refused_edits place sources file kind ≡ []
no_whole_edits place sources file (kinds.DuplicateToolConfigFile tool first) whole = refl
no_whole_edits place sources file (kinds.ReadError outcome) whole = refl
no_whole_edits place sources file (kinds.BuildError message) whole = refl
no_whole_edits place sources file kinds.Memory whole = refl
no_whole_edits place sources file kind whole = absurd (cc)

-- nothing is listed for values that are refused
no_value_edits : (place sources : ℕ) (file : Option Node) (kind : ConfigParseErrorKind)
    → check_of kind ≡ Some checks.Elements → refused_edits place sources file kind ≡ []
no_value_edits place sources file (kinds.DeserializeError fault) values = refl
no_value_edits place sources file kind values = absurd (cc)

equal_of : (o : Ordering) → is_eq o ≡ true → o ≡ Equal
equal_of Less is = absurd (cc)
equal_of Equal is = refl
equal_of Greater is = absurd (cc)

-- one source more is not read
one_unread : (kind : ConfigParseErrorKind) (place other : ℕ) (before after : Bool) (b : Bool) → check_of kind ≡ None
    → is_at (nat_cmp place) other ≡ b → after ≡ cond b true before
    → (after ≡ before) ⊎ ((Some place ≡ Some other) × (check_of kind ≡ None) × (after ≡ true))
one_unread kind place other before after true whole is same =
    inr (ap (λ k. Some k) (exact_unsigned place other (equal_of (nat_cmp place other) is)), whole, same)
one_unread kind place other before after false whole is same = inl same

module _ (layers : List Layer) (error : ConfigParseError) where
  -- nothing, for a refusal that is about no source
  pub none_refused : (reading : ReadingView) → refused_position layers error ≡ None
      → IsLeftOutAfter layers error reading reading
  none_refused reading at = record {
    more = [];
    edits = refl;
    listed = subst (λ position. AreEditsFor layers reading position error.kind []) (sym at) refl;
    unread = λ place. inl refl;
  }

  module _ (place : ℕ) (at : refused_position layers error ≡ Some place) (before after : ReadingView) where
    listed_at : (more : List Edit) → AreEditsFor layers before (Some place) error.kind more
        → AreEditsFor layers before (refused_position layers error) error.kind more
    listed_at more are = subst (λ position. AreEditsFor layers before position error.kind more) (sym at) are

    -- what the definitions list for its kind
    pub listed_refused :
        after.edits
        ≡ with_edits before.edits (refused_edits place (length layers) (document_at layers (Some place)) error.kind)
        → ((other : ℕ) → after.unread other ≡ before.unread other) → IsLeftOutAfter layers error before after
    listed_refused edits_are same =
        let more = refused_edits place (length layers) (document_at layers (Some place)) error.kind in
        record {
          more = more;
          edits = edits_are;
          listed = listed_at more (inl refl);
          unread = λ other. inl (same other);
        }

    -- the settings of its values
    pub listed_settings : check_of error.kind ≡ Some checks.Elements
        → LeavesOutSettings layers place before after.edits
        → ((other : ℕ) → after.unread other ≡ before.unread other) → IsLeftOutAfter layers error before after
    listed_settings values left_out same =
        let document = document_at layers (Some place) in
        let none = no_value_edits place (length layers) document error.kind values in
        record {
          more = left_out.more;
          edits = left_out.edits;
          listed = listed_at left_out.more (elim left_out.listed [
            | inl nothing ↦ inl (nothing ∙ sym none)
            | inr are ↦ inr (values, are)
          ]);
          unread = λ other. inl (same other);
        }

    -- nothing more
    pub listed_nothing : refused_edits place (length layers) (document_at layers (Some place)) error.kind ≡ []
        → after ≡ before → IsLeftOutAfter layers error before after
    listed_nothing none same = record {
      more = [];
      edits = ap (λ (r : ReadingView). r.edits) same;
      listed = listed_at [] (inl (sym none));
      unread = λ other. inl (ap (λ (r : ReadingView). r.unread other) same);
    }

    -- the file, as a whole, is as before
    pub listed_before : check_of error.kind ≡ None → after ≡ before → IsLeftOutAfter layers error before after
    listed_before whole same =
        listed_nothing (no_whole_edits place (length layers) (document_at layers (Some place)) error.kind whole) same

    -- the file as a whole
    pub listed_file : check_of error.kind ≡ None → after.edits ≡ before.edits
        → ((other : ℕ) → after.unread other ≡ cond (is_at (nat_cmp place) other) true (before.unread other))
        → IsLeftOutAfter layers error before after
    listed_file whole edits_are more_unread =
        let document = document_at layers (Some place) in
        let none = no_whole_edits place (length layers) document error.kind whole in
        record {
          more = [];
          edits = edits_are;
          listed = listed_at [] (inl (sym none));
          unread = subst (λ position. AreUnreadAfter position error.kind before.unread after.unread) (sym at)
              (λ other. one_unread error.kind place other (before.unread other) (after.unread other)
              (is_at (nat_cmp place) other) whole refl (more_unread other));
        }
