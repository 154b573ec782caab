-- What follows for the faults that are found.
use Rattle.std.proofs.Common.{◌≡◌, ◌↔◌, ◌++◌, List, [], ◌∷◌, map, Bool, refl, sym, ap, ◌∙◌, subst}
use Rattle.nextest_inheritance.specs.Names.{Name}
use Rattle.nextest_inheritance.specs.Parents.{WrittenParents, parents_in}
use Rattle.nextest_inheritance.specs.Cycles.{cycles_in}
use Rattle.nextest_inheritance.specs.Faults.{ParentFault, is_known, AreSoundParents, NameCycles, TellStranded, parent_faults, cycle_faults, inheritance_faults}
use Rattle.nextest_inheritance.specs.Found.{AreFaultsOf}
use Rattle.nextest_inheritance.specs.View.{inherits_error_view}
use Rattle.nextest_inheritance.specs.declared.error.InheritsError.{InheritsError}
use Rattle.nextest_inheritance.proofs.Listing.{are_cycles, all_cycles}
use Rattle.nextest_inheritance.proofs.Naming.{name_cycles, tell_stranded, sound_parents}

-- they are the list of faults
pub found_is : (lower : Name → Bool) (written : WrittenParents) (faults : List ParentFault)
    → AreFaultsOf lower written faults → faults ≡ inheritance_faults lower written
found_is lower written faults f =
    f.is ∙ ap (λ cycles. parent_faults (is_known lower written) written ++ cycle_faults cycles)
    (all_cycles (parents_in written) f.cycles (cycles_in written) f.are_cycles (are_cycles written f.ordered))

none_seen : (errors : List InheritsError) → (errors ≡ []) ↔ (map inherits_error_view errors ≡ [])
none_seen [] = (λ is. refl, λ is. refl)
none_seen (e ∷ errors) = (λ is. cc, λ is. cc)

-- there is none exactly if the parents are sound
pub found_sound : (lower : Name → Bool) (written : WrittenParents) (errors : List InheritsError)
    → AreFaultsOf lower written (map inherits_error_view errors)
    → (errors ≡ []) ↔ AreSoundParents (parents_in written) (is_known lower written)
found_sound lower written errors f =
    let sound = sound_parents (is_known lower written) written f.ordered in
    let is = found_is lower written (map inherits_error_view errors) f in
    let none = none_seen errors in
    (λ empty. sound.0 (sym is ∙ none.0 empty), λ are. none.1 (is ∙ sound.1 are))

-- they name exactly the cycles
pub found_cycles : (lower : Name → Bool) (written : WrittenParents) (faults : List ParentFault)
    → AreFaultsOf lower written faults → NameCycles (parents_in written) faults
found_cycles lower written faults f =
    let P : List ParentFault → Type 0 = NameCycles (parents_in written) in
    subst P (sym f.is) (name_cycles (is_known lower written) written (parents_in written) f.cycles f.are_cycles)

-- they tell which names have no chain
pub found_stranded : (lower : Name → Bool) (written : WrittenParents) (faults : List ParentFault)
    → AreFaultsOf lower written faults → TellStranded (parents_in written) faults
found_stranded lower written faults f =
    let P : List ParentFault → Type 0 = TellStranded (parents_in written) in
    subst P (sym f.is) (tell_stranded (is_known lower written) written f.cycles f.are_cycles)
