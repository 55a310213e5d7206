-- Things that have no number yet, gathered beside those that have one.
use Rattle.std.proofs.Common.{◌≡◌, ◌≤◌, ◌-◌, ◌+◌, true, false, List, [], ◌∷◌, ◌++◌, length, nat_le, not}
use Rattle.std.proofs.Common.{arith, rules, ◌∙◌}
use Rattle.std.specs.Prelude.{if◌then◌else◌}
use Rattle.std.specs.List.{list_any}
use Rattle.std.proofs.lemmas.List.{append_assoc, length-append}
use Rattle.machine_model.specs.References.{has_room, with_things}
use Rattle.stop_refs.specs.Numbers.{InHand, is_new, room, with_thing}
use Rattle.stop_refs.specs.Things.{same_thing}
use Rattle.stop_refs.specs.declared.thing.Thing.{Thing}
use Rattle.session_facts.specs.Numbering.{grown}

any_joined : (thing : Thing) (things more : List Thing)
    → list_any (same_thing thing) (things ++ more)
    ≡ (if list_any (same_thing thing) things then true else list_any (same_thing thing) more)
any_joined thing [] more = search rules
any_joined thing (first ∷ things) more = grind (arith, any_joined thing things more)

-- a thing that has a number is not put
pub grown_known : (stop : InHand) (fresh : List Thing) (thing : Thing) → is_new thing stop ≡ false
    → with_thing thing (grown stop fresh) ≡ grown stop fresh
grown_known stop fresh thing old = grind (arith, old, any_joined thing stop.things fresh)

-- one that has none is put, unless it is there
pub grown_new : (stop : InHand) (fresh : List Thing) (thing : Thing) → is_new thing stop ≡ true
    → with_thing thing (grown stop fresh)
    ≡ grown stop (if list_any (same_thing thing) fresh then fresh else fresh ++ thing ∷ [])
grown_new stop fresh thing new = grind (
  arith,
  new,
  any_joined thing stop.things fresh,
  append_assoc stop.things fresh (thing ∷ []),
)

-- all get a number where as many are left as there are
pub has_room_for : (stop : InHand) (fresh things : List Thing) → grown stop fresh ≡ with_things things stop
    → has_room things stop ≡ nat_le (length fresh) (room stop)
has_room_for stop fresh things is = grind (arith, is, length-append stop.things fresh)
