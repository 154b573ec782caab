use Rattle.std.proofs.Common.{◌≡◌, ℕ, List, refl, option_and_then, Some, None, string_bytes, cond}
use Rattle.std.proofs.lemmas.Map.Text.{btree_map_updates_text}
use Rattle.std.specs.BTreeMap.{get_by_text}
use Rattle.std.specs.Str.{bytes_eq}
use Rattle.nextest_settings.proofs.LastGroup.{custom_group_in_after}
use Rattle.nextest_settings.proofs.groups.PrecomputedGroupMembership.insert.Goals as goal
use Rattle.nextest_settings.proofs.groups.PrecomputedGroupMembership.insert.Goals.{in-Some, in-None}

pub returns : goal.returns
returns c = λ id test.
    let m0 = c.args.self.now.groups in
    let m1 = c.remove.new.self in
    let m2 = c.insert-2.new.self in
    let t0 = c.match-remove.tests in
    let t1 = c.insert.new.self in
    let b = c.args.binary_id.now in
    let n = c.args.name.now in
    let taken = btree_map_updates_text b m0 m1 None c.remove.ensures.updates in
    let was : (cs : List ℕ) → get_by_text t0 cs ≡ option_and_then (λ t. get_by_text t cs) (get_by_text m0 b) = λ cs.
    elim c.match-remove.branch [
      | in-Some w ↦ rw (w.tests-is, ← c.remove.ensures.value, w.in-Some.is) refl
      | in-None w ↦ rw (w.tests-is, ← c.remove.ensures.value, w.in-None.is, w.new-tests.ensures.empty) refl
    ] in
    let keyed : (cs : List ℕ)
    → get_by_text t1 cs ≡ cond (bytes_eq (string_bytes c.in_ok-key.key) cs) (Some c.args.group)
    (get_by_text t0 cs) =
    btree_map_updates_text (string_bytes c.in_ok-key.key) t0 t1 (Some c.args.group) c.in_ok-insert.ensures.updates in
    let added = rw c.in_ok-key.ensures.ok at keyed in
    let bound : (cs : List ℕ)
    → get_by_text m2 cs ≡ cond (bytes_eq (string_bytes c.in_ok-binary_key.binary_key) cs) (Some t1)
    (get_by_text m1 cs) =
    btree_map_updates_text (string_bytes c.in_ok-binary_key.binary_key) m1 m2 (Some t1)
    c.in_ok-insert-2.ensures.updates in
    let put = rw c.in_ok-binary_key.ensures.ok at bound in
    custom_group_in_after m0 m1 m2 t0 t1 b n c.args.group taken was added put id test
