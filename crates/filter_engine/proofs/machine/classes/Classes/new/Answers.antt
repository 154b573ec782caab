use Rattle.std.proofs.Common.{◌≡◌, ℕ, arith, refl, subst}
use Rattle.std.proofs.lemmas.List.{length-replicate}
use Rattle.filter_engine.specs.Classes.{flag}
use Rattle.filter_engine.proofs.Classes.{AreClassesTo, no_classes, class_more, classes_done, some_class}
use Rattle.filter_engine.proofs.machine.classes.Classes.new.Goals as goal

pub last_class-requires : goal.last_class-requires
last_class-requires c =
    let few = some_class c.args.nfa.now c.cuts_of-cuts.result c.loop-byte.of c.loop-byte.bytes.items
    c.add_byte.new.bytes.items c.loop-byte.byte 0 (flag c.cuts_of-cuts.result c.loop-byte.byte) refl
    c.cuts_of-cuts.ensures.first c.loop-byte.invariant c.in_ok-add_byte.ensures in
    let same = c.add_byte.new.bytes.ok.0 in
    record { some = omega arith; few = omega arith }

pub loop-byte-init : goal.loop-byte-init
loop-byte-init c =
    no_classes c.args.nfa.now _ c.new-bytes.result.items (length-replicate {A = ℕ} 128 0) c.new-bytes.ensures.items

pub loop-byte-preserved : goal.loop-byte-preserved
loop-byte-preserved c =
    let same = c.add_byte.new.bytes.ok.0 in
    class_more c.args.nfa.now c.cuts_of-cuts.result c.loop-byte.of c.loop-byte.bytes.items
    c.add_byte.new.bytes.items c.loop-byte.byte c.last_class.result (flag c.cuts_of-cuts.result c.loop-byte.byte) refl
    c.cuts_of-cuts.ensures.first c.cuts_of-cuts.ensures.others c.loop-byte.invariant c.loop-byte-test.true
    c.in_ok-add_byte.ensures (omega arith)

pub returns : goal.returns
returns c =
    let done : c.loop-byte.byte ≡ 128 = omega arith in
    let all = subst (AreClassesTo c.args.nfa.now c.loop-byte.of c.loop-byte.bytes.items) done c.loop-byte.invariant in
    let same = c.loop-byte.bytes.ok.0 in
    record {
      classes = classes_done c.args.nfa.now c.loop-byte.of c.loop-byte.bytes.items all;
      few = let few = all.few in omega arith;
      size = all.size;
    }
