-- The turns of a reader.
use Rattle.std.proofs.Common.{◌≡◌, ◌<◌, ◌-◌, ℕ, suc, ◌+◌, Bool, true, false, List, [], ◌∷◌, ◌++◌, length, map, Option, Some, None, IfSome, refl, sym, ap, ◌∙◌, subst, arith, cond, length-append}
use Rattle.std.specs.List.{between}
use Rattle.std.specs.Str.{IsUtf8}
use Rattle.std.specs.Prelude.{String}
use Rattle.std.specs.declared.alloc.Global.{Global}
use Rattle.std.proofs.lemmas.Bool.{true≢false}
use Rattle.std.proofs.lemmas.List.{map-append, same_from_push}
use Rattle.std.proofs.lemmas.Option.{none-some}
use Rattle.nextest_places.specs.declared.spans.item.Item.{Item}
use Rattle.nextest_places.specs.declared.spans.item.Role.{Role}
use Rattle.nextest_places.specs.declared.spans.item.Role.TheVariants as role
use Rattle.nextest_places.specs.declared.spans.item.ValueKind.{ValueKind}
use Rattle.nextest_places.specs.declared.spans.reader.Reader.{Reader}
use Rattle.nextest_places.specs.declared.spans.reader.Turn.TheVariants.{Nothing, Begins, Closes as Ending}
use Rattle.nextest_places.specs.declared.spans.token.Container.{Container}
use Rattle.nextest_places.specs.declared.spans.token.Token.{Token}
use Rattle.nextest_places.specs.declared.spans.token.TokenKind.{TokenKind}
use Rattle.nextest_places.specs.declared.spans.token.TokenKind.TheVariants as kinds
use Rattle.nextest_places.specs.Spans.Items.{KeepsItems, Sort, key_part, kind_by_sort, kind_sort, role_sort, value}
use Rattle.nextest_places.specs.Spans.Nesting.{NestsBy, last_of}
use Rattle.nextest_places.specs.Spans.Tokens.{IsRightKind, IsTaken, IsToken, at, opening, text_at}
use Rattle.nextest_places.specs.Spans.Tree.{AreItems, IsPlaced, is_header, is_heading, is_pair, is_part, last_before, parent_of}
use Rattle.nextest_places.specs.Spans.Turns.{Ends, IsPart, IsTurn, IsValue, holders}
use Rattle.nextest_places.proofs.spans.Open.{AreOpen, open_opened, open_pushed}
use Rattle.nextest_places.proofs.spans.Rooted.{counted, IsNew, length_between, Rooted, rooted_begun, rooted_closed, rooted_passed, rooted_skipped, rooted_start, section_begun, section_more, sort_inner}
use Rattle.nextest_places.proofs.spans.Walk.{walk_end}

pub record Reads (text : List ℕ) (items : List Item) (rest : List ℕ) (reader : Reader) (nest : List Container) : Type 0 where
  pub tokens : List Token
  pub is : Rooted text tokens items rest (holders reader) reader.key reader.section nest
  pub kind : is_pair reader.kind ≡ false

rooted_same : (text rest : List ℕ) (tokens : List Token) (items : List Item) (held held_new : List (ℕ × Container)) (key key_new section new : Option ℕ)
    (nest nest_new : List Container) → held_new ≡ held → key_new ≡ key → new ≡ section → nest_new ≡ nest
    → Rooted text tokens items rest held key section nest → Rooted text tokens items rest held_new key_new new nest_new
rooted_same text rest tokens items held held_new key key_new section new nest nest_new one two three four r =
    subst (λ h. Rooted text tokens items rest h key_new new nest_new) (sym one)
    (subst (λ k. Rooted text tokens items rest held k new nest_new) (sym two)
    (subst (λ s. Rooted text tokens items rest held key s nest_new) (sym three) (subst (λ n. Rooted text tokens items rest held key section n) (sym four) r)))

pub reads_start : (text : List ℕ) (reader : Reader) → IsUtf8 text → holders reader ≡ [] → reader.key ≡ None → reader.section ≡ None
    → is_pair reader.kind ≡ false → (nest : List Container) → nest ≡ [] → Reads text [] text reader nest
reads_start text reader utf8 held key section kind nest none = record {
  tokens = [];
  is = rooted_same text text [] [] [] (holders reader) None reader.key None reader.section [] nest held key section none (rooted_start text utf8);
  kind = kind;
}

pub reads_skipped : (text rest behind : List ℕ) (items : List Item) (reader : Reader) (nest new : List Container) → Reads text items rest reader nest
    → IsTaken text rest None behind → new ≡ nest → Reads text items behind reader new
reads_skipped text rest behind items reader nest new r taken same = record {
  tokens = r.tokens;
  is =
      rooted_same text behind r.tokens items (holders reader) (holders reader) reader.key reader.key reader.section reader.section nest new refl refl refl
      same (rooted_skipped text rest behind r.tokens items (holders reader) reader.key reader.section nest r.is taken);
  kind = r.kind;
}

headed : (kind : TokenKind) (text rest behind : List ℕ) (tokens : List Token) (items : List Item) (token : Token) (old new : Reader) (nest nest_new : List Container)
    → token.kind ≡ kind → is_header kind ≡ true → kind_sort kind ≡ None → is_part kind ≡ false → IsPlaced kind items tokens token
    → Rooted text tokens items rest (holders old) old.key old.section nest → IsTaken text rest (Some token) behind → new.key ≡ None → new.section ≡ None
    → is_pair new.kind ≡ false → holders new ≡ holders old → nest_new ≡ nest → Reads text items behind new nest_new
headed kind text rest behind tokens items token old new nest nest_new is header none isnt place r taken key section pair held same = record {
  tokens = tokens ++ token ∷ [];
  is =
      rooted_same text behind (tokens ++ token ∷ []) items (holders old) (holders new) None new.key None new.section nest nest_new held key section same
      (rooted_passed text rest behind tokens items token (holders old) old.key old.section None nest r taken (ap kind_sort is ∙ none) (ap is_part is ∙ isnt)
      (subst (λ k. IsPlaced k items tokens token) (sym is) place)
      (section_begun items tokens token (ap is_header is ∙ header) (counted text tokens items rest r.base)));
  kind = pair;
}

no_push : {A : Type 0} (xs : List A) (y : A) → [] ≡ xs ++ y ∷ [] → ⊥
no_push xs y e =
    let size : 0 ≡ length xs + 1 = ap length e ∙ length-append xs (y ∷ []) in
    absurd (omega (arith, size))

passed : (kind : TokenKind) (text rest behind : List ℕ) (tokens : List Token) (items : List Item) (token : Token) (old new : Reader) (index : ℕ)
    (heading : Bool) (nest nest_new : List Container) → token.kind ≡ kind → Rooted text tokens items rest (holders old) old.key old.section nest
    → is_pair old.kind ≡ false → IsTaken text rest (Some token) behind → IsTurn old new index heading kind Nothing → NestsBy kind nest nest_new
    → Reads text items behind new nest_new
passed kinds.TableHeader text rest behind tokens items token old new index heading nest nest_new is r pair taken turn nests =
    headed kinds.TableHeader text rest behind tokens items token old new nest nest_new is refl refl refl tt r taken turn.0 turn.1 turn.2 turn.3 nests
passed kinds.ElementHeader text rest behind tokens items token old new index heading nest nest_new is r pair taken turn nests =
    headed kinds.ElementHeader text rest behind tokens items token old new nest nest_new is refl refl refl tt r taken turn.0 turn.1 turn.2 turn.3 nests
passed (kinds.Key name) text rest behind tokens items token old new index heading nest nest_new is r pair taken turn nests = absurd turn
passed (kinds.Dotted name) text rest behind tokens items token old new index heading nest nest_new is r pair taken turn nests = absurd turn
passed (kinds.Open c) text rest behind tokens items token old new index heading nest nest_new is r pair taken turn nests = absurd turn
passed kinds.String text rest behind tokens items token old new index heading nest nest_new is r pair taken turn nests = absurd turn
passed kinds.Word text rest behind tokens items token old new index heading nest nest_new is r pair taken turn nests = absurd turn
passed (kinds.Close c) text rest behind tokens items token old new index heading nest nest_new is r pair taken turn nests =
    absurd (no_push nest_new c (ap (map (λ (h : ℕ × Container). h.1)) (sym turn.1) ∙ r.nested ∙ nests))
passed kinds.Other text rest behind tokens items token old new index heading nest nest_new is r pair taken turn nests = record {
  tokens = tokens ++ token ∷ [];
  is =
      rooted_same text behind (tokens ++ token ∷ []) items (holders old) (holders new) None new.key old.section new.section nest nest_new turn.1 turn.0.0
      turn.0.1 nests
      (rooted_passed text rest behind tokens items token (holders old) old.key old.section old.section nest r taken (ap kind_sort is) (ap is_part is)
      (subst (λ k. IsPlaced k items tokens token) (sym is) tt)
      (section_more items tokens token (length items) old.section (ap is_header is) r.heading));
  kind = ap is_pair turn.0.2 ∙ pair;
}

pub reads_passed : (text rest behind : List ℕ) (items : List Item) (token : Token) (old new : Reader) (index : ℕ) (heading : Bool) (nest nest_new : List Container)
    → Reads text items rest old nest → IsTaken text rest (Some token) behind → IsTurn old new index heading token.kind Nothing
    → NestsBy token.kind nest nest_new → Reads text items behind new nest_new
reads_passed text rest behind items token old new index heading nest nest_new r taken turn nests =
    passed token.kind text rest behind r.tokens items token old new index heading nest nest_new refl r.is r.kind taken turn nests

-- ---- turns that begin an item

abbrev is_value : Sort → Bool
is_value (value c) = true
is_value (key_part name) = false

not_value : (sort : Sort) (name : Option (String Global)) (c : Option Container) → sort ≡ key_part name → sort ≡ value c → ⊥
not_value sort name c one two = absurd (true≢false (ap is_value (sym two ∙ one)))

same_value : (sort : Sort) (c : Container) → sort ≡ value None → sort ≡ value (Some c) → ⊥
same_value sort c one two = none-some c (ap (sort_inner None) (sym one ∙ two))

part_begun : (kind : TokenKind) (name : Option (String Global)) (text rest own behind : List ℕ) (tokens : List Token) (items : List Item) (token : Token)
    (old new : Reader) (index : ℕ) (heading : Bool) (parent : Option ℕ) (role : Role) (value_kind : Option ValueKind) (nest nest_new : List Container)
    → token.kind ≡ kind → kind_sort kind ≡ Some (key_part name) → is_header kind ≡ false → is_part kind ≡ true
    → Rooted text tokens items rest (holders old) old.key old.section nest → is_pair old.kind ≡ false → IsTaken text rest (Some token) behind
    → index ≡ length items → IsPart old new index heading (parent_of kind heading old.key (last_of (holders old)) old.section) name parent role
    → nest_new ≡ nest → value_kind ≡ kind_by_sort own (role_sort role) → own ≡ between (at text rest) (at text behind) text
    → Reads text (items ++ record { parent = parent; role = role; span = token.span; kind = value_kind } ∷ []) behind new nest_new
part_begun kind name text rest own behind tokens items token old new index heading parent role value_kind nest nest_new is sort header part r pair taken
    index_is p nests kind_is own_is =
    let x : Item = record { parent = parent; role = role; span = token.span; kind = value_kind } in
    let heads : is_heading role ≡ heading = p.heads pair in
    let wanted : Option ℕ = parent_of kind heading old.key (last_of (holders old)) old.section in
    let same : parent_of token.kind (is_heading role) old.key (last_of (holders old)) old.section ≡ wanted =
    ap (λ k. parent_of k (is_heading role) old.key (last_of (holders old)) old.section) is
    ∙ ap (λ b. parent_of kind b old.key (last_of (holders old)) old.section) heads in
    let at_is : index ≡ suc (length items) - 1 = omega (arith, index_is) in
    let key : new.key ≡ last_before (is_part token.kind) (suc (length items)) =
    p.key ∙ ap Some at_is ∙ ap (λ b. last_before b (suc (length items))) (sym (ap is_part is ∙ part)) in
    let section : new.section ≡ cond (is_heading role) (Some (length items)) old.section =
    p.section ∙ ap (λ n. cond heading (Some n) old.section) index_is ∙ ap (λ b. cond b (Some (length items)) old.section) (sym heads) in
    let fresh : IsNew items token x (holders old) old.section new.section (holders old) new.key =
    record {
      span = refl;
      alone = λ c holds. absurd (not_value (role_sort role) name (Some c) p.sort holds);
      are = λ are. open_pushed items x 0 (holders old) are (λ c o. not_value (role_sort role) name (Some c) p.sort o.holds);
      key_is = key;
      section_is = section;
    } in
    record {
      tokens = tokens ++ token ∷ [];
      is =
          rooted_same text behind (tokens ++ token ∷ []) (items ++ x ∷ []) (holders old) (holders new) new.key new.key new.section new.section nest nest_new
          p.held refl refl nests
          (rooted_begun text rest own behind tokens items token parent role value_kind (holders old) (holders old) old.key new.key old.section new.section nest
          nest r taken
          (λ low. p.stands.1 (subst (λ n. IfSome wanted (λ i. i < n)) (sym index_is) (subst (λ w. IfSome w (λ i. i < length items)) same low)) ∙ sym same)
          (ap kind_sort is ∙ sort ∙ ap Some (sym p.sort)) (ap is_header is ∙ header) kind_is own_is fresh r.nested);
      kind = ap is_pair p.kind ∙ pair;
    }

value_heading : (role : Role) (c : Option Container) → role_sort role ≡ value c → is_heading role ≡ false
value_heading (role.Key name kind element) c is = absurd (not_value (key_part name) name c refl is)
value_heading (role.Value position container) c is = refl

value_begun : (kind : TokenKind) (container : Option Container) (text rest own behind : List ℕ) (tokens : List Token) (items : List Item) (token : Token)
    (old new : Reader) (index : ℕ) (heading : Bool) (parent : Option ℕ) (role : Role) (value_kind : Option ValueKind) (nest nest_new : List Container)
    (held : List (ℕ × Container)) → token.kind ≡ kind → kind_sort kind ≡ Some (value container) → is_header kind ≡ false → is_part kind ≡ false
    → ((h : Bool) → parent_of kind h old.key (last_of (holders old)) old.section ≡ parent_of kind heading old.key (last_of (holders old)) old.section)
    → Rooted text tokens items rest (holders old) old.key old.section nest → is_pair old.kind ≡ false → IsTaken text rest (Some token) behind
    → index ≡ length items → IsValue old new index (parent_of kind heading old.key (last_of (holders old)) old.section) container held parent role
    → ((c : Container) → container ≡ Some c → token.span.end ≡ suc token.span.start)
    → ((x : Item) → role_sort x.role ≡ value container → x.span ≡ token.span → AreOpen items 0 (holders old) → AreOpen (items ++ x ∷ []) 0 held)
    → map (λ (h : ℕ × Container). h.1) held ≡ nest_new → value_kind ≡ kind_by_sort own (role_sort role)
    → own ≡ between (at text rest) (at text behind) text
    → Reads text (items ++ record { parent = parent; role = role; span = token.span; kind = value_kind } ∷ []) behind new nest_new
value_begun kind container text rest own behind tokens items token old new index heading parent role value_kind nest nest_new held is sort header part same_heads r
    pair taken index_is v alone are nested kind_is own_is =
    let x : Item = record { parent = parent; role = role; span = token.span; kind = value_kind } in
    let wanted : Option ℕ = parent_of kind heading old.key (last_of (holders old)) old.section in
    let same : parent_of token.kind (is_heading role) old.key (last_of (holders old)) old.section ≡ wanted =
    ap (λ k. parent_of k (is_heading role) old.key (last_of (holders old)) old.section) is ∙ same_heads (is_heading role) in
    let key : new.key ≡ last_before (is_part token.kind) (suc (length items)) =
    v.behind.0 ∙ ap (λ b. last_before b (suc (length items))) (sym (ap is_part is ∙ part)) in
    let section : new.section ≡ cond (is_heading role) (Some (length items)) old.section =
    v.behind.1 ∙ ap (λ b. cond b (Some (length items)) old.section) (sym (value_heading role container v.sort)) in
    let fresh : IsNew items token x (holders old) old.section new.section held new.key =
    record {
      span = refl;
      alone = λ c holds. alone c (ap (sort_inner None) (sym v.sort ∙ holds));
      are = are x v.sort refl;
      key_is = key;
      section_is = section;
    } in
    record {
      tokens = tokens ++ token ∷ [];
      is =
          rooted_same text behind (tokens ++ token ∷ []) (items ++ x ∷ []) held (holders new) new.key new.key new.section new.section nest_new nest_new
          v.opens refl refl refl
          (rooted_begun text rest own behind tokens items token parent role value_kind (holders old) held old.key new.key old.section new.section nest nest_new
          r taken
          (λ low. v.stands.1 (subst (λ n. IfSome wanted (λ i. i < n)) (sym index_is) (subst (λ w. IfSome w (λ i. i < length items)) same low)) ∙ sym same)
          (ap kind_sort is ∙ sort ∙ ap Some (sym v.sort)) (ap is_header is ∙ header) kind_is own_is fresh nested);
      kind = ap is_pair v.behind.2 ∙ pair;
    }

-- a bracket takes one byte
one_byte : (text : List ℕ) (token : Token) (c : Container) → IsToken text token → token.kind ≡ kinds.Open c → token.span.end ≡ suc token.span.start
one_byte text t c is kind =
    let own : text_at text t.span ≡ opening c ∷ [] = subst (IsRightKind (text_at text t.span)) kind is.right in
    let size : t.span.end - t.span.start ≡ 1 = sym (length_between text t.span.start t.span.end is.within) ∙ ap length own in
    omega (arith, size)

scalar_open : (items : List Item) (held : List (ℕ × Container)) (x : Item) → role_sort x.role ≡ value None → AreOpen items 0 held
    → AreOpen (items ++ x ∷ []) 0 held
scalar_open items held x sort are = open_pushed items x 0 held are (λ c o. same_value (role_sort x.role) c sort o.holds)

begun : (kind : TokenKind) (text rest own behind : List ℕ) (tokens : List Token) (items : List Item) (token : Token) (old new : Reader) (index : ℕ)
    (heading : Bool) (parent : Option ℕ) (role : Role) (value_kind : Option ValueKind) (nest nest_new : List Container) → token.kind ≡ kind
    → Rooted text tokens items rest (holders old) old.key old.section nest → is_pair old.kind ≡ false → IsTaken text rest (Some token) behind
    → index ≡ length items → IsTurn old new index heading kind (Begins parent role) → NestsBy kind nest nest_new
    → value_kind ≡ kind_by_sort own (role_sort role) → own ≡ between (at text rest) (at text behind) text
    → Reads text (items ++ record { parent = parent; role = role; span = token.span; kind = value_kind } ∷ []) behind new nest_new
begun kinds.TableHeader text rest own behind tokens items token old new index heading parent role value_kind nest nest_new is r pair taken index_is turn nests
    kind_is own_is = absurd turn
begun kinds.ElementHeader text rest own behind tokens items token old new index heading parent role value_kind nest nest_new is r pair taken index_is turn nests
    kind_is own_is = absurd turn
begun (kinds.Close c) text rest own behind tokens items token old new index heading parent role value_kind nest nest_new is r pair taken index_is turn nests
    kind_is own_is = absurd turn
begun kinds.Other text rest own behind tokens items token old new index heading parent role value_kind nest nest_new is r pair taken index_is turn nests kind_is
    own_is = absurd turn
begun (kinds.Key name) text rest own behind tokens items token old new index heading parent role value_kind nest nest_new is r pair taken index_is turn nests
    kind_is own_is =
    part_begun (kinds.Key name) name text rest own behind tokens items token old new index heading parent role value_kind nest nest_new is refl refl refl r pair
    taken index_is turn nests kind_is own_is
begun (kinds.Dotted name) text rest own behind tokens items token old new index heading parent role value_kind nest nest_new is r pair taken index_is turn nests
    kind_is own_is =
    part_begun (kinds.Dotted name) name text rest own behind tokens items token old new index heading parent role value_kind nest nest_new is refl refl refl r
    pair taken index_is turn nests kind_is own_is
begun kinds.String text rest own behind tokens items token old new index heading parent role value_kind nest nest_new is r pair taken index_is turn nests
    kind_is own_is =
    value_begun kinds.String None text rest own behind tokens items token old new index heading parent role value_kind nest nest_new (holders old) is refl refl
    refl (λ h. refl) r pair taken index_is turn (λ c none. absurd (none-some c none)) (λ x sort span are. scalar_open items (holders old) x sort are)
    (r.nested ∙ sym nests) kind_is own_is
begun kinds.Word text rest own behind tokens items token old new index heading parent role value_kind nest nest_new is r pair taken index_is turn nests kind_is
    own_is =
    value_begun kinds.Word None text rest own behind tokens items token old new index heading parent role value_kind nest nest_new (holders old) is refl refl
    refl (λ h. refl) r pair taken index_is turn (λ c none. absurd (none-some c none)) (λ x sort span are. scalar_open items (holders old) x sort are)
    (r.nested ∙ sym nests) kind_is own_is
begun (kinds.Open c) text rest own behind tokens items token old new index heading parent role value_kind nest nest_new is r pair taken index_is turn nests
    kind_is own_is =
    let one : token.span.end ≡ suc token.span.start = one_byte text token c taken.found.0 is in
    value_begun (kinds.Open c) (Some c) text rest own behind tokens items token old new index heading parent role value_kind nest nest_new
    (holders old ++ (index, c) ∷ []) is refl refl refl (λ h. refl) r pair taken index_is turn (λ d some. one)
    (λ x sort span are. subst (λ n. AreOpen (items ++ x ∷ []) 0 (holders old ++ (n, c) ∷ [])) (sym index_is)
    (open_opened items x c 0 (holders old) are (omega arith)
    (record { holds = sort; alone = ap (λ s. s.end) span ∙ one ∙ ap (λ s. suc s.start) (sym span) })))
    (map-append (λ (h : ℕ × Container). h.1) (holders old) ((index, c) ∷ []) ∙ ap (λ ns. ns ++ c ∷ []) r.nested ∙ sym nests) kind_is own_is

pub reads_begun : (text rest own behind : List ℕ) (items : List Item) (token : Token) (old new : Reader) (index : ℕ) (heading : Bool) (parent : Option ℕ)
    (role : Role) (value_kind : Option ValueKind) (nest nest_new : List Container) → Reads text items rest old nest → IsTaken text rest (Some token) behind
    → index ≡ length items → IsTurn old new index heading token.kind (Begins parent role) → NestsBy token.kind nest nest_new
    → value_kind ≡ kind_by_sort own (role_sort role) → own ≡ between (at text rest) (at text behind) text
    → Reads text (items ++ record { parent = parent; role = role; span = token.span; kind = value_kind } ∷ []) behind new nest_new
reads_begun text rest own behind items token old new index heading parent role value_kind nest nest_new r taken index_is turn nests kind_is own_is =
    begun token.kind text rest own behind r.tokens items token old new index heading parent role value_kind nest nest_new refl r.is r.kind taken index_is turn
    nests kind_is own_is

-- ---- turns that close

ended : (kind : TokenKind) (text rest behind : List ℕ) (tokens : List Token) (items new_items : List Item) (token : Token) (old new : Reader) (index i : ℕ)
    (heading : Bool) (nest nest_new : List Container) → token.kind ≡ kind → Rooted text tokens items rest (holders old) old.key old.section nest
    → is_pair old.kind ≡ false → IsTaken text rest (Some token) behind → IsTurn old new index heading kind (Ending i) → NestsBy kind nest nest_new
    → KeepsItems text items new_items → Ends text i token.span.end items new_items → Reads text new_items behind new nest_new
ended kinds.TableHeader text rest behind tokens items new_items token old new index i heading nest nest_new is r pair taken turn nests keeps ends = absurd turn
ended kinds.ElementHeader text rest behind tokens items new_items token old new index i heading nest nest_new is r pair taken turn nests keeps ends =
    absurd turn
ended (kinds.Key name) text rest behind tokens items new_items token old new index i heading nest nest_new is r pair taken turn nests keeps ends = absurd turn
ended (kinds.Dotted name) text rest behind tokens items new_items token old new index i heading nest nest_new is r pair taken turn nests keeps ends =
    absurd turn
ended (kinds.Open c) text rest behind tokens items new_items token old new index i heading nest nest_new is r pair taken turn nests keeps ends = absurd turn
ended kinds.String text rest behind tokens items new_items token old new index i heading nest nest_new is r pair taken turn nests keeps ends = absurd turn
ended kinds.Word text rest behind tokens items new_items token old new index i heading nest nest_new is r pair taken turn nests keeps ends = absurd turn
ended kinds.Other text rest behind tokens items new_items token old new index i heading nest nest_new is r pair taken turn nests keeps ends = absurd turn
ended (kinds.Close c) text rest behind tokens items new_items token old new index i heading nest nest_new is r pair taken turn nests keeps ends =
    let d : Container = turn.1 in
    let pushed : map (λ (h : ℕ × Container). h.1) (holders new) ++ d ∷ [] ≡ nest_new ++ c ∷ [] =
    sym (map-append (λ (h : ℕ × Container). h.1) (holders new) ((i, d) ∷ [])) ∙ ap (map (λ (h : ℕ × Container). h.1)) (sym turn.2) ∙ r.nested ∙ nests in
    let same : d ≡ c = (same_from_push (map (λ (h : ℕ × Container). h.1) (holders new)) nest_new d c pushed).1 in
    let held : holders old ≡ holders new ++ (i, c) ∷ [] = turn.2 ∙ ap (λ e. holders new ++ (i, e) ∷ []) same in
    record {
      tokens = tokens ++ token ∷ [];
      is =
          rooted_same text behind (tokens ++ token ∷ []) new_items (holders new) (holders new) None new.key old.section new.section nest_new nest_new refl
          turn.0.0 turn.0.1 refl
          (rooted_closed text rest behind tokens items new_items token c i (holders new) old.key old.section nest_new
          (rooted_same text rest tokens items (holders old) (holders new ++ (i, c) ∷ []) old.key old.key old.section old.section nest (nest_new ++ c ∷ [])
          (sym held) refl refl (sym nests) r)
          taken is keeps ends);
      kind = ap is_pair turn.0.2 ∙ pair;
    }

pub reads_closed : (text rest behind : List ℕ) (items new_items : List Item) (token : Token) (old new : Reader) (index i : ℕ) (heading : Bool)
    (nest nest_new : List Container) → Reads text items rest old nest → IsTaken text rest (Some token) behind
    → IsTurn old new index heading token.kind (Ending i) → NestsBy token.kind nest nest_new → KeepsItems text items new_items
    → Ends text i token.span.end items new_items → Reads text new_items behind new nest_new
reads_closed text rest behind items new_items token old new index i heading nest nest_new r taken turn nests keeps ends =
    ended token.kind text rest behind r.tokens items new_items token old new index i heading nest nest_new refl r.is r.kind taken turn nests keeps ends

pub reads_end : (text rest : List ℕ) (items : List Item) (reader : Reader) (nest : List Container) → Reads text items rest reader nest → length rest ≡ 0
    → AreItems text items
reads_end text rest items reader nest r none = record {
  tokens = r.tokens;
  are = walk_end text rest r.tokens r.is.base.walked none;
  marks = r.is.base.marks;
  each = r.is.base.each;
  placed = r.is.placed;
  closed = r.is.closed;
}
