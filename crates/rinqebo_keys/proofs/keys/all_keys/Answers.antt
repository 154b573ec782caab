use Rattle.std.proofs.Common.{◌≡◌, map, subst, refl, string_bytes}
use Rattle.std.proofs.lemmas.List.{take_all}
use Rattle.nextest_elements.specs.Settings.{settings}
use Rattle.rinqebo_keys.specs.Keys.{key_text}
use Rattle.rinqebo_keys.proofs.KeyLists.{texts_more}
use Rattle.rinqebo_keys.proofs.keys.all_keys.Goals as goal

pub loop-setting-preserved : goal.loop-setting-preserved
unfolding settings
loop-setting-preserved c =
    rw c.in_ok-push.ensures.items (
    texts_more string_bytes (λ s. key_text s c.args.mode) settings c.loop-setting.setting-index
    c.loop-setting.keys.items c.in_ok-text_of.field-0 _ _ c.loop-setting-test.true refl c.loop-setting.invariant
    c.in_ok-text_of.ensures
    )

pub returns : goal.returns
unfolding settings
returns c =
    subst (λ ss. map string_bytes c.loop-setting.keys.items ≡ map (λ s. key_text s c.args.mode) ss)
    (take_all c.loop-setting.setting-index settings c.loop-setting-test.false) c.loop-setting.invariant
