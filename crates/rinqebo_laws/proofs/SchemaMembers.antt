-- Members of a schema after a put: an annotation requires nothing, and each property requires what
-- its own schema does.
use Rattle.std.proofs.Common.{◌≡◌, ◌↔◌, ℕ, Bool, true, false, ◌||◌, not, map, IfSome, List, Ordering, Less, Equal, Greater, nat_cmp, bytes_eq, codes, refl, sym, ap, ◌∙◌, subst, true≢false}
use Rattle.std.proofs.lemmas.Bool.{and_parts, not-true, or_left, or_right}
use Rattle.std.proofs.lemmas.Map.Lookups.{exact_bytes}
use Rattle.std.proofs.lemmas.Slice.Eq.{bytes_eq-Decides}
use Rattle.std.specs.Cmp.Lexicographic.{slice_cmp}
use Rattle.std.specs.Ordering.{match_ordering}
use Rattle.serde_json.specs.Data.{Data, object, Members, no_members, member, put}
use Rattle.serde_json.proofs.Views.{get_member-put_other}
use Rattle.nextest_tree.specs.Key.{key_text}
use Rattle.nextest_tree.specs.Node.{Node, Entries, get}
use Rattle.nextest_tree.specs.Schema.{is_one_of}
use Rattle.nextest_shape.specs.About.{about_text}
use Rattle.nextest_shape.specs.Form.{FieldForms, no_fields, a_field, field_keys}
use Rattle.nextest_shape.specs.Page.{described, schema_members, with_properties}
use Rattle.rinqebo_laws.specs.Matching.{keys_differ}
use Rattle.rinqebo_laws.specs.Validation.{Matcher, an_annotation, on_properties, keyword_of, Requires, member_names, names_in, property_names, Validates, MeetsEach, ValidatesEach}

-- ---- annotations

requires_nothing : (m : Matcher) (names : List (List ℕ)) (k : List ℕ) (d : Data) (W O : Node → Type 0)
    (N : Entries → Type 0) (v : Node) → keyword_of k ≡ an_annotation → Requires m names (keyword_of k) d W O N v
requires_nothing m names k d W O N v h = subst (λ w. Requires m names w d W O N v) (sym h) tt

note_at : (o : Ordering) (m : Matcher) (names : List (List ℕ)) (k l : List ℕ) (d e : Data)
    (ms : Members) (v : Node) → slice_cmp nat_cmp k l ≡ o → keyword_of k ≡ an_annotation
    → (MeetsEach m names (put k d ms) v ↔ MeetsEach m names ms v)
    → (MeetsEach m names (match_ordering o (member k d (member l e ms)) (member l d ms) (member l e (put k d ms))) v
    ↔ MeetsEach m names (member l e ms) v)
note_at Less m names k l d e ms v is h more = (λ met. met.1, λ met. (requires_nothing m names k d _ _ _ v h, met))
note_at Equal m names k l d e ms v is h more =
    let there : keyword_of l ≡ an_annotation = ap keyword_of (sym (exact_bytes k l is)) ∙ h in (
      λ met. (requires_nothing m names l e _ _ _ v there, met.1),
      λ met.
          (requires_nothing m names l d _ _ _ v there, met.1),
    )
note_at Greater m names k l d e ms v is h more = (λ met. (met.0, more.0 met.1), λ met. (met.0, more.1 met.1))

put_note : (m : Matcher) (names : List (List ℕ)) (k : List ℕ) (d : Data) (ms : Members) (v : Node)
    → keyword_of k ≡ an_annotation → (MeetsEach m names (put k d ms) v ↔ MeetsEach m names ms v)
put_note m names k d no_members v h = (λ met. tt, λ met. (requires_nothing m names k d _ _ _ v h, tt))
put_note m names k d (member l e ms) v h =
    note_at (slice_cmp nat_cmp k l) m names k l d e ms v refl h (put_note m names k d ms v h)

-- what is put as an annotation changes nothing of what is valid
pub note_same : (m : Matcher) (k : List ℕ) (d : Data) (ms : Members) (v : Node)
    → keyword_of k ≡ an_annotation → (Validates m (object (put k d ms)) v ↔ Validates m (object ms) v)
note_same m k d ms v h =
    let other : codes "properties" ≡ k → ⊥ =
    λ e. let clash : on_properties ≡ an_annotation = ap keyword_of e ∙ h in absurd cc in
    let same : property_names (put k d ms) ≡ property_names ms =
    ap names_in (get_member-put_other (codes "properties") k d ms other) in
    subst (λ names. MeetsEach m names (put k d ms) v ↔ MeetsEach m (property_names ms) ms v) (sym same)
    (put_note m (property_names ms) k d ms v h)

-- ---- names

equal_itself : (k : List ℕ) → bytes_eq k k ≡ true
equal_itself k = (bytes_eq-Decides k k).1 refl

twice : (a b : Bool) → (a || b) ≡ (a || (a || b))
twice true b = refl
twice false b = refl

swapped : (a b c : Bool) → (a || (b || c)) ≡ (b || (a || c))
swapped true true c = refl
swapped true false c = refl
swapped false b c = refl

turned : (a b c : Bool) → (a || (b || c)) ≡ ((b || a) || c)
turned true true c = refl
turned true false c = refl
turned false true c = refl
turned false false c = refl

named_at : (o : Ordering) (j k l : List ℕ) (d e : Data) (ms : Members) → slice_cmp nat_cmp k l ≡ o
    → is_one_of (member_names (put k d ms)) j ≡ (bytes_eq k j || is_one_of (member_names ms) j)
    → is_one_of (member_names
    (match_ordering o (member k d (member l e ms)) (member l d ms) (member l e (put k d ms)))) j
    ≡ (bytes_eq k j || is_one_of (member_names (member l e ms)) j)
named_at Less j k l d e ms is more = refl
named_at Equal j k l d e ms is more =
    let same : bytes_eq l j ≡ bytes_eq k j = ap (λ w. bytes_eq w j) (sym (exact_bytes k l is)) in
    twice (bytes_eq l j) (is_one_of (member_names ms) j)
    ∙ ap (λ b. b || (bytes_eq l j || is_one_of (member_names ms) j)) same
named_at Greater j k l d e ms is more =
    ap (λ b. bytes_eq l j || b) more ∙ swapped (bytes_eq l j) (bytes_eq k j) (is_one_of (member_names ms) j)

-- the names after a put
put_names : (j k : List ℕ) (d : Data) (ms : Members)
    → is_one_of (member_names (put k d ms)) j ≡ (bytes_eq k j || is_one_of (member_names ms) j)
put_names j k d no_members = refl
put_names j k d (member l e ms) = named_at (slice_cmp nat_cmp k l) j k l d e ms refl (put_names j k d ms)

-- the schema of what is at a field
abbrev pub field_data : FieldForms → Data
field_data no_fields = object no_members
field_data (a_field k r f fs) = object (described (about_text k) (schema_members f))

-- whether a text is the key of a field
abbrev pub is_key : FieldForms → List ℕ → Bool
is_key fs j = is_one_of (map key_text (field_keys fs)) j

field_names : (j : List ℕ) (fs : FieldForms) (ps : Members)
    → is_one_of (member_names (with_properties fs ps)) j ≡ (is_key fs j || is_one_of (member_names ps) j)
field_names j no_fields ps = refl
field_names j (a_field k r f fs) ps =
    let d : Data = field_data (a_field k r f fs) in
    field_names j fs (put (key_text k) d ps)
    ∙ (ap (λ b. is_key fs j || b) (put_names j (key_text k) d ps)
    ∙ turned (is_key fs j) (bytes_eq (key_text k) j) (is_one_of (member_names ps) j))

or_none : (b : Bool) → (b || false) ≡ b
or_none true = refl
or_none false = refl

-- the names of the properties of fields are their keys
pub names_are_keys : (j : List ℕ) (fs : FieldForms)
    → is_one_of (member_names (with_properties fs no_members)) j ≡ is_key fs j
names_are_keys j fs = field_names j fs no_members ∙ or_none (is_key fs j)

-- ---- properties

each_at : (o : Ordering) (m : Matcher) (k l : List ℕ) (d e : Data) (ms : Members) (es : Entries)
    → slice_cmp nat_cmp k l ≡ o → bytes_eq l k ≡ false
    → (ValidatesEach m (put k d ms) es ↔ (IfSome (get k es) (Validates m d) × ValidatesEach m ms es))
    → (ValidatesEach m (match_ordering o (member k d (member l e ms)) (member l d ms) (member l e (put k d ms))) es
    ↔ (IfSome (get k es) (Validates m d) × ValidatesEach m (member l e ms) es))
each_at Less m k l d e ms es is apart more = (λ h. h, λ h. h)
each_at Equal m k l d e ms es is apart more =
    absurd (true≢false (sym ((bytes_eq-Decides l k).1 (sym (exact_bytes k l is))) ∙ apart))
each_at Greater m k l d e ms es is apart more =
    (λ h. let rest = more.0 h.1 in (rest.0, (h.0, rest.1)), λ h. (h.1.0, more.1 (h.0, h.1.1)))

first_false : (a b : Bool) → (a || b) ≡ false → a ≡ false
first_false true b h = h
first_false false b h = refl

second_false : (a b : Bool) → (a || b) ≡ false → b ≡ false
second_false true b h = absurd (true≢false h)
second_false false b h = h

-- what is put under a new name is required beside what was
put_each : (m : Matcher) (k : List ℕ) (d : Data) (ms : Members) (es : Entries)
    → is_one_of (member_names ms) k ≡ false
    → (ValidatesEach m (put k d ms) es ↔ (IfSome (get k es) (Validates m d) × ValidatesEach m ms es))
put_each m k d no_members es new = (λ h. h, λ h. h)
put_each m k d (member l e ms) es new =
    each_at (slice_cmp nat_cmp k l) m k l d e ms es refl (first_false _ _ new)
    (put_each m k d ms es (second_false _ _ new))

-- what is at the key of each field, if anything is, is valid by the schema of the field
abbrev pub FieldsAreValid : Matcher → FieldForms → Entries → Type 0
FieldsAreValid m no_fields es = Unit {0}
FieldsAreValid m (a_field k r f fs) es =
    IfSome (get (key_text k) es) (Validates m (object (described (about_text k) (schema_members f))))
    × FieldsAreValid m fs es

-- a key of other fields is not this one
other_key : (a b : Bool) (j k : List ℕ) (fs : FieldForms) → bytes_eq k j ≡ a → b ≡ false → is_key fs k ≡ false
    → is_key fs j ≡ true → (a || b) ≡ false
other_key true b j k fs is none away there =
    let same : k ≡ j = (bytes_eq-Decides k j).0 is in
    absurd (true≢false (sym there ∙ (ap (is_key fs) (sym same) ∙ away)))
other_key false b j k fs is none away there = none

fields_each : (m : Matcher) (fs : FieldForms) (ps : Members) (es : Entries) → keys_differ fs ≡ true
    → ((j : List ℕ) → is_key fs j ≡ true → is_one_of (member_names ps) j ≡ false)
    → (ValidatesEach m (with_properties fs ps) es ↔ (FieldsAreValid m fs es × ValidatesEach m ps es))
fields_each m no_fields ps es differ apart = (λ h. (tt, h), λ h. h.1)
fields_each m (a_field k r f fs) ps es differ apart =
    let d : Data = field_data (a_field k r f fs) in
    let parts = and_parts (not (is_key fs (key_text k))) (keys_differ fs) differ in
    let away : is_key fs (key_text k) ≡ false = not-true (is_key fs (key_text k)) parts.0 in
    let later = λ (j : List ℕ) (there : is_key fs j ≡ true).
    put_names j (key_text k) d ps
    ∙ other_key (bytes_eq (key_text k) j) (is_one_of (member_names ps) j) j (key_text k) fs refl
    (apart j (or_right (bytes_eq (key_text k) j) (is_key fs j) there)) away there in
    let rest = fields_each m fs (put (key_text k) d ps) es parts.1 later in
    let here = put_each m (key_text k) d ps es
    (apart (key_text k) (or_left (bytes_eq (key_text k) (key_text k)) (is_key fs (key_text k))
    (equal_itself (key_text k)))) in (
      λ h. let valid = rest.0 h in let one = here.0 valid.1 in ((one.0, valid.0), one.1),
      λ h. rest.1 (h.0.1, here.1 (h.0.0, h.1)),
    )

-- the properties of fields with different keys require what each field does
pub fields_valid : (m : Matcher) (fs : FieldForms) (es : Entries) → keys_differ fs ≡ true
    → (ValidatesEach m (with_properties fs no_members) es ↔ FieldsAreValid m fs es)
fields_valid m fs es differ =
    let each = fields_each m fs no_members es differ (λ j there. refl) in
    (λ h. (each.0 h).0, λ h. each.1 (h, tt))
