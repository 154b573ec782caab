-- What the faults of parents say of cycles and chains.
use Rattle.std.proofs.Common.{◌≡◌, ◌≢◌, inl, inr, ◌↔◌, List, [], ◌∷◌, ◌++◌, Bool, true, false, Option, None, Some, refl, sym, ap, ◌∙◌, subst, append-nil, nat_cmp}
use Rattle.std.specs.Cmp.Lexicographic.{slice_cmp}
use Rattle.std.specs.List.{AllByRecursion, cons_option, filter_map, flat_map, list_any}
use Rattle.std.specs.List.Sorted.{IsStrictlySortedBy}
use Rattle.std.specs.Map.{keys_of}
use Rattle.std.specs.Option.{option_and_then}
use Rattle.std.specs.Str.{bytes_eq}
use Rattle.std.proofs.lemmas.Bool.{false_from_ne_true}
use Rattle.std.proofs.lemmas.Slice.Eq.{bytes_eq-Decides}
use Rattle.nextest_inheritance.specs.Names.{Name, default_name, is_base, default_first, IsIn}
use Rattle.nextest_inheritance.specs.Parents.{WrittenParents, Parents, parents_in, parent_or_default, LeadToDefault, IsChain, HasOneChain}
use Rattle.nextest_inheritance.specs.Cycles.{IsCycleFrom, IsCycle, AreCycles, ShareNoName, LeadsInto, LeadsIntoOne, cycles_in}
use Rattle.nextest_inheritance.specs.Faults.{ParentFault, base_with_parent, own_parent, unknown_parent, cyclic, AreSoundParents, parent_fault, parent_faults, cycle_faults, is_cyclic, cycles_of, NameCycles, IsOfOthers, TellStranded}
use Rattle.nextest_inheritance.specs.Walks.{cycle_parents}
use Rattle.nextest_inheritance.proofs.Members.{In, here, there, in_front, in_back, in_either, all_at, all_from, in_member, member_in, split_at}
use Rattle.nextest_inheritance.proofs.Trails.{IsRing, lead_parent}
use Rattle.nextest_inheritance.proofs.Turning.{least_of, IsLeastRing, turned_least}
use Rattle.nextest_inheritance.proofs.Rings.{cycle_parent_at, cycle_from_ring, ring_closed, cycles_apart}
use Rattle.nextest_inheritance.proofs.Ends.{Returns, ends_or_returns}
use Rattle.nextest_inheritance.proofs.Chains.{chain_from_end, is_chain, lead_default_one, never_default, lead_on}
use Rattle.nextest_inheritance.proofs.Listing.{in_contains, are_keys, are_cycles}
use Rattle.nextest_inheritance.proofs.Entries.{IsSoundParent, fault_in, sound_parent, no_faults}

-- a profile's own fault names no cycle
data IsOwn : Option ParentFault → Type 0 where
  nothing : IsOwn None
  of_base : (profile : Name) → IsOwn (Some (base_with_parent profile))
  of_itself : (profile : Name) → IsOwn (Some (own_parent profile))
  of_unknown : (profile parent : Name) → IsOwn (Some (unknown_parent profile parent))

own_at : (known : Name → Bool) (name parent : Name) (b s k : Bool) → is_base name ≡ b
    → bytes_eq name parent ≡ s → known parent ≡ k → IsOwn (parent_fault known name parent)
own_at known name parent true s k is eq found = rw is (of_base name)
own_at known name parent false true k is eq found = rw (is, eq) (of_itself name)
own_at known name parent false false true is eq found = rw (is, eq, found) nothing
own_at known name parent false false false is eq found = rw (is, eq, found) (of_unknown name parent)

own_of : (known : Name → Bool) (e : Name × Option Name) (o : Option Name)
    → IsOwn (option_and_then (parent_fault known e.0) o)
own_of known e None = nothing
own_of known e (Some parent) = own_at known e.0 parent (is_base e.0) (bytes_eq e.0 parent) (known parent) refl refl refl

none_named : (o : Option ParentFault) (fs : List ParentFault) → IsOwn o → flat_map cycles_of fs ≡ []
    → flat_map cycles_of (cons_option o fs) ≡ []
none_named o fs nothing later = later
none_named o fs (of_base profile) later = later
none_named o fs (of_itself profile) later = later
none_named o fs (of_unknown profile parent) later = later

none_cyclic : (o : Option ParentFault) (fs : List ParentFault) → IsOwn o → list_any is_cyclic fs ≡ false
    → list_any is_cyclic (cons_option o fs) ≡ false
none_cyclic o fs nothing later = later
none_cyclic o fs (of_base profile) later = later
none_cyclic o fs (of_itself profile) later = later
none_cyclic o fs (of_unknown profile parent) later = later

abbrev own_faults : (known : Name → Bool) → WrittenParents → List ParentFault
own_faults known es = filter_map (λ p. option_and_then (parent_fault known p.0) p.1) es

own_name_none : (known : Name → Bool) (es : WrittenParents) → flat_map cycles_of (own_faults known es) ≡ []
own_name_none known [] = refl
own_name_none known (e ∷ es) =
    none_named (option_and_then (parent_fault known e.0) e.1) (own_faults known es) (own_of known e e.1)
    (own_name_none known es)

own_not_cyclic : (known : Name → Bool) (es : WrittenParents) → list_any is_cyclic (own_faults known es) ≡ false
own_not_cyclic known [] = refl
own_not_cyclic known (e ∷ es) =
    none_cyclic (option_and_then (parent_fault known e.0) e.1) (own_faults known es) (own_of known e e.1)
    (own_not_cyclic known es)

named_append : (fs gs : List ParentFault) → flat_map cycles_of fs ≡ []
    → flat_map cycles_of (fs ++ gs) ≡ flat_map cycles_of gs
named_append [] gs none = refl
named_append (base_with_parent p ∷ fs) gs none = named_append fs gs none
named_append (own_parent p ∷ fs) gs none = named_append fs gs none
named_append (unknown_parent p q ∷ fs) gs none = named_append fs gs none
named_append (cyclic [] ∷ fs) gs none = named_append fs gs none
named_append (cyclic (c ∷ cs) ∷ fs) gs none = cc

any_append : (fs gs : List ParentFault) → list_any is_cyclic fs ≡ false
    → list_any is_cyclic (fs ++ gs) ≡ list_any is_cyclic gs
any_append [] gs none = refl
any_append (base_with_parent p ∷ fs) gs none = any_append fs gs none
any_append (own_parent p ∷ fs) gs none = any_append fs gs none
any_append (unknown_parent p q ∷ fs) gs none = any_append fs gs none
any_append (cyclic cs ∷ fs) gs none = cc

cycles_named : (cs : List (List Name)) → flat_map cycles_of (cycle_faults cs) ≡ cs
cycles_named [] = refl
cycles_named (c ∷ cs) = append-nil (c ∷ cs)

-- the faults name the cycles
pub named : (known : Name → Bool) (es : WrittenParents) (cs : List (List Name))
    → flat_map cycles_of (parent_faults known es ++ cycle_faults cs) ≡ cs
named known es cs = named_append (parent_faults known es) (cycle_faults cs)
    (own_name_none known (default_first es)) ∙ cycles_named cs

cycle_needed : (parents : Parents) (cs : List (List Name)) → AreCycles parents cs
    → (list_any is_cyclic (cycle_faults cs) ≡ true) ↔ ((cycle : List Name) × IsCycle parents cycle)
cycle_needed parents [] are = (λ bad. cc, λ c. elim (in_contains c.0 [] (are.complete c.0 c.1)) [ ])
cycle_needed parents (c ∷ cs) are = (λ _. (c, are.sound.0), λ _. refl)

shared_apart : (parents : Parents) (cs : List (List Name)) → AllByRecursion (IsCycle parents) cs → ShareNoName cs
shared_apart parents cs sound = λ one other i j name k l.
    cycles_apart parents one other (all_at (IsCycle parents) one cs sound (in_contains one cs i))
    (all_at (IsCycle parents) other cs sound (in_contains other cs j))
    name (in_member name one k) (in_member name other l)

-- they name exactly the cycles
pub name_cycles : (known : Name → Bool) (es : WrittenParents) (parents : Parents) (cs : List (List Name))
    → AreCycles parents cs → NameCycles parents (parent_faults known es ++ cycle_faults cs)
name_cycles known es parents cs are =
    let same = named known es cs in
    let any : list_any is_cyclic (parent_faults known es ++ cycle_faults cs) ≡ list_any is_cyclic (cycle_faults cs) =
    any_append (parent_faults known es) (cycle_faults cs) (own_not_cyclic known (default_first es)) in
    let needed = cycle_needed parents cs are in record {
      exact = let P : List (List Name) → Type 0 = AreCycles parents in subst P (sym same) are;
      apart = let P : List (List Name) → Type 0 = ShareNoName in subst P (sym same) (shared_apart parents cs are.sound);
      needed = (λ is. needed.0 (sym any ∙ is), λ c. any ∙ needed.1 c);
    }

-- What is asked of parents before their chains are spoken of.
pub record ArePlain (parents : Parents) : Type 0 where
  pub bases : (name : Name) → is_base name ≡ true → parents name ≡ None
  pub others : (name : Name) → parents name ≢ Some name

cycle_parents_at : (parents : Parents) → ArePlain parents → (name : Name) (o : Option Name) → parents name ≡ o
    → cycle_parents parents name ≡ o
cycle_parents_at parents plain name None is = none (is_base name) refl
  where
    none : (b : Bool) → is_base name ≡ b → cycle_parents parents name ≡ None
    none true base = rw base refl
    none false base = rw (base, is) refl
cycle_parents_at parents plain name (Some parent) is = cycle_parent_at parents name parent (record {
  is = is;
  plain = false_from_ne_true (is_base name) (λ base. let e : Some parent ≡ None = sym is ∙ plain.bases name base in cc);
  other = λ e. plain.others name (is ∙ ap Some e);
})

cycle_parents_same : (parents : Parents) → ArePlain parents → cycle_parents parents ≡ parents
cycle_parents_same parents plain = λ i name. cycle_parents_at parents plain name (parents name) refl i

-- a way that comes back gives a cycle
record Round (parents : Parents) (first : Name) : Type 0 where
  least : Name
  others : List Name
  is : IsCycleFrom parents least others
  within : In first (least ∷ others)

round : (parents : Parents) → ArePlain parents → (first : Name) (others : List Name)
    → IsRing parents first others → Round parents first
round parents plain first others ring =
    let least = least_of first others in
    let s = split_at least.name (first ∷ others) least.within in
    let turned = turned_least parents first others s.front least.name s.back ring s.is least.least in
    let P : Parents → Type 0 = λ p. IsLeastRing p least.name (s.back ++ s.front) in
    let Q : List Name → Type 0 = In first in record {
      least = least.name;
      others = s.back ++ s.front;
      is = cycle_from_ring parents least.name (s.back ++ s.front)
          (subst P (sym (cycle_parents_same parents plain)) turned);
      within = elim (in_either first s.front (least.name ∷ s.back) (subst Q s.is here)) [
        | inl i ↦ there (in_back first s.back s.front i)
        | inr i ↦ in_front first (least.name ∷ s.back) s.front i
      ];
    }

leads_at : (parents : Parents) (cs : List (List Name)) → AreCycles parents cs → ArePlain parents
    → (name : Name) → Returns parents name → LeadsIntoOne parents cs name
leads_at parents cs are plain name r =
    let k = round parents plain r.first r.others r.ring in record {
      cycle = k.least ∷ k.others;
      is_one = are.complete (k.least ∷ k.others) k.is;
      leads = record {
        entry = r.first;
        way = r.way;
        from = r.from;
        leads = r.leads;
        within =
            member_in r.first (k.least ∷ k.others) k.within;
      };
    }

never : (parents : Parents) (cycle : List Name) → IsCycle parents cycle → ArePlain parents → (name : Name)
    → LeadsInto parents name cycle → (chain : List Name) → LeadToDefault parents name chain → ⊥
never parents [] cycle plain name l chain leads = absurd cycle
never parents (least ∷ others) cycle plain name l chain leads =
    let P : Name → Type 0 = λ v. LeadToDefault parents v chain in
    let root : parents default_name ≡ None = plain.bases default_name refl in
    let rest = lead_on parents root l.entry l.way l.leads chain (subst P (sym l.from) leads) in
    never_default parents root (least ∷ others) (λ x i. on x i) l.entry rest.0 rest.1
    (in_member l.entry (least ∷ others) l.within)
  where
    on : (x : Name) → In x (least ∷ others) → (parent : Name) × (parents x ≡ Some parent) × In parent (least ∷ others)
    on x i =
        let p = lead_parent parents least (least ∷ others) x cycle.around i in (
          p.0,
          p.1,
          ring_closed parents least others
              (record { around = cycle.around; distinct = cycle.distinct }) x p.0 i p.1,
        )

-- a name has no chain exactly if it leads into a cycle
pub stranded : (es : WrittenParents) (cs : List (List Name)) → AreCycles (parents_in es) cs
    → ArePlain (parents_in es) → (name : Name)
    → ((chain : List Name) → ¬ IsChain (parents_in es) name chain) ↔ LeadsIntoOne (parents_in es) cs name
stranded es cs are plain name = (
  λ none. elim (ends_or_returns (parents_in es) (keys_of es) (are_keys es) name) [
    | inl e ↦ let c = chain_from_end (parents_in es) name e in absurd (none c.0 (is_chain (parents_in es) name c.0 c.1))
    | inr r ↦ leads_at (parents_in es) cs are plain name r
  ],
  λ l chain is. never (parents_in es) l.cycle
      (all_at (IsCycle (parents_in es)) l.cycle cs are.sound (in_contains l.cycle cs l.is_one)) plain name
      l.leads chain is.leads,
)

-- faults of other profiles alone ask that
plain_parents : (known : Name → Bool) (es : WrittenParents) (fs : List ParentFault)
    → AllByRecursion IsOfOthers (parent_faults known es ++ fs) → ArePlain (parents_in es)
plain_parents known es fs all = record {
  bases = λ name base. none name base (parents_in es name) refl;
  others = λ name own. own_out name own (is_base name) refl;
}
  where
    out : (fault : ParentFault) → In fault (parent_faults known es) → IsOfOthers fault
    out fault i = all_at IsOfOthers fault (parent_faults known es ++ fs) all
        (in_front fault (parent_faults known es) fs i)

    none : (name : Name) → is_base name ≡ true → (o : Option Name) → parents_in es name ≡ o → parents_in es name ≡ None
    none name base None is = is
    none name base (Some parent) is =
        absurd (out (base_with_parent name) (fault_in known es name parent (base_with_parent name) is (rw base refl)))

    own_out : (name : Name) → parents_in es name ≡ Some name → (b : Bool) → is_base name ≡ b → ⊥
    own_out name own true base =
        out (base_with_parent name) (fault_in known es name name (base_with_parent name) own (rw base refl))
    own_out name own false base =
        out (own_parent name) (fault_in known es name name (own_parent name) own
        (rw (base, (bytes_eq-Decides name name).1 refl) refl))

pub tell_stranded : (known : Name → Bool) (es : WrittenParents) (cs : List (List Name))
    → AreCycles (parents_in es) cs → TellStranded (parents_in es) (parent_faults known es ++ cycle_faults cs)
tell_stranded known es cs are = λ all name.
    let P : List (List Name) → Type 0 =
    λ l. ((chain : List Name) → ¬ IsChain (parents_in es) name chain) ↔ LeadsIntoOne (parents_in es) l name in
    subst P (sym (named known es cs)) (stranded es cs are (plain_parents known es (cycle_faults cs) all) name)

-- nothing is wrong exactly if parents are sound
empty_left : (fs gs : List ParentFault) → fs ++ gs ≡ [] → fs ≡ []
empty_left [] gs is = refl
empty_left (f ∷ fs) gs is = cc

empty_right : (fs gs : List ParentFault) → fs ++ gs ≡ [] → gs ≡ []
empty_right [] gs is = is
empty_right (f ∷ fs) gs is = cc

no_cycles : (cs : List (List Name)) → cycle_faults cs ≡ [] → cs ≡ []
no_cycles [] is = refl
no_cycles (c ∷ cs) is = cc

pub sound_parents : (known : Name → Bool) (es : WrittenParents) → IsStrictlySortedBy (slice_cmp nat_cmp) (keys_of es)
    → (parent_faults known es ++ cycle_faults (cycles_in es) ≡ []) ↔ AreSoundParents (parents_in es) known
sound_parents known es sorted = (to, from)
  where
    are : AreCycles (parents_in es) (cycles_in es)
    are = are_cycles es sorted

    to : parent_faults known es ++ cycle_faults (cycles_in es) ≡ [] → AreSoundParents (parents_in es) known
    to none =
        let own = empty_left (parent_faults known es) (cycle_faults (cycles_in es)) none in
        let cycles = no_cycles (cycles_in es)
        (empty_right (parent_faults known es) (cycle_faults (cycles_in es)) none) in record {
          bases = λ name base. no_parent name base own (parents_in es name) refl;
          others = λ name is. let s = sound_parent known es own name name is in
              let bad : true ≡ false = sym ((bytes_eq-Decides name name).1 refl) ∙ s.other in cc;
          existence = λ name parent is. (sound_parent known es own name parent is).is_known;
          acyclic = λ c is.
              let P : List (List Name) → Type 0 = In c in
              elim (subst P cycles (in_contains c (cycles_in es) (are.complete c is))) [ ];
        }
      where
        no_parent : (name : Name) → is_base name ≡ true → parent_faults known es ≡ [] → (o : Option Name)
            → parents_in es name ≡ o → parents_in es name ≡ None
        no_parent name base own None is = is
        no_parent name base own (Some parent) is =
            let s = sound_parent known es own name parent is in
            let bad : true ≡ false = sym base ∙ s.plain in cc

    from : AreSoundParents (parents_in es) known → parent_faults known es ++ cycle_faults (cycles_in es) ≡ []
    from sound =
        let own = no_faults known es sorted (λ name parent is. each name parent is) in
        let cycles = none (cycles_in es) are in
        rw (own, cycles) refl
      where
        each : (name parent : Name) → parents_in es name ≡ Some parent → IsSoundParent known name parent
        each name parent is = record {
          plain = false_from_ne_true (is_base name)
              (λ base. let e : Some parent ≡ None = sym is ∙ sound.bases name base in cc);
          other = false_from_ne_true (bytes_eq name parent)
              (λ same. sound.others name (is ∙ ap Some (sym ((bytes_eq-Decides name parent).0 same))));
          is_known = sound.existence name parent is;
        }

        none : (cs : List (List Name)) → AreCycles (parents_in es) cs → cs ≡ []
        none [] are = refl
        none (c ∷ cs) are = absurd (sound.acyclic c are.sound.0)

-- where parents are sound among the profiles, each profile has one chain, of profiles
all_profiles : (parents : Parents) (names : List Name)
    → ((name parent : Name) → parents name ≡ Some parent → In parent names) → (name : Name) (chain : List Name)
    → LeadToDefault parents name chain → ((name ≡ default_name → ⊥) → In name names) → AllByRecursion (IsIn names) chain
all_profiles parents names found name [] leads within = tt
all_profiles parents names found name (x ∷ xs) leads within = (
  let P : Name → Type 0 = λ v. In v names in member_in x names (subst P (sym leads.0) (within leads.1)),
  all_profiles parents names found (parent_or_default parents name) xs leads.2
      (λ other. next (parents name) refl other),
)
  where
    next : (o : Option Name) → parents name ≡ o → (parent_or_default parents name ≡ default_name → ⊥)
        → In (parent_or_default parents name) names
    next None is other = absurd (other (rw is refl))
    next (Some parent) is other = rw is (found name parent is)

pub one_chain_each : (es : WrittenParents) (known : Name → Bool)
    → ((name : Name) → known name ≡ true → IsIn (keys_of es) name) → AreSoundParents (parents_in es) known
    → AllByRecursion (HasOneChain (parents_in es) (keys_of es)) (keys_of es)
one_chain_each es known only sound =
    all_from (HasOneChain (parents_in es) (keys_of es)) (keys_of es) (λ name i. at name i)
  where
    plain : ArePlain (parents_in es)
    plain = record { bases = sound.bases; others = sound.others }

    at : (name : Name) → In name (keys_of es) → HasOneChain (parents_in es) (keys_of es) name
    at name i = elim (ends_or_returns (parents_in es) (keys_of es) (are_keys es) name) [
      | inl e ↦ let c = chain_from_end (parents_in es) name e in record {
        chain = record {
          one = c.0;
          fact = is_chain (parents_in es) name c.0 c.1;
          only = λ other is. lead_default_one (parents_in es) name other c.0 is.leads c.1;
        };
        members = all_profiles (parents_in es) (keys_of es)
            (λ x parent is. in_member parent (keys_of es) (only parent (sound.existence x parent is))) name
            c.0 c.1 (λ _. i);
      }
      | inr r ↦ let k = round (parents_in es) plain r.first r.others r.ring in
          absurd (sound.acyclic (k.least ∷ k.others) k.is)
    ]
