-- The children of a container, a page of them.
use Rattle.std.proofs.Common.{◌≡◌, ℕ, zero, suc, Bool, List, [], refl, ap, ◌∙◌}
use Rattle.std.specs.Prelude.{Option, Some, option_and_then, option_map}
use Rattle.dap_messages.specs.declared.requests.Filter.{Filter}
use Rattle.dap_messages.specs.declared.requests.Filter.TheVariants.{Both, Indexed, Named}
use Rattle.jdwp_values.specs.declared.value.Value.{Value}
use Rattle.machine_model.specs.Children.{Child}
use Rattle.machine_model.specs.Plans.{Plan, chained, each, gives, of_world}
use Rattle.machine_model.specs.Values.{by_id}
use Rattle.machine_model.specs.Variables.{children_plan, elements_page, fields_page, if_indexed, if_named, locals_page}
use Rattle.machine_model.specs.Variables.{page_plan, shown_plan}
use Rattle.machine_model.specs.declared.parts.Finding.TheVariants as found
use Rattle.shown_worlds.specs.ChildRows as shown
use Rattle.shown_worlds.specs.Laws.{IsLive, ShowsChildren}
use Rattle.shown_worlds.proofs.ChildLaws.{locals_shown}
use Rattle.shown_worlds.proofs.ElementLaws.{elements_shown}
use Rattle.shown_worlds.proofs.FactLaws.{object}
use Rattle.shown_worlds.proofs.FieldLaws.{fields_shown}
use Rattle.shown_worlds.proofs.PlanLemmas.{living, said_chained, said_made}
use Rattle.stop_refs.specs.declared.thing.Thing.{Thing}
use Rattle.stop_refs.specs.declared.thing.Thing.TheVariants as things
use Rattle.world_model.specs.Replies.{living_reply}
use Rattle.world_model.specs.declared.world.World.{World}

-- children that are shown
abbrev Shows : World → Bool → ℕ → ℕ → Plan (List (Child × Value)) → Option (List shown.Child) → Type 0
Shows w types start count valued children =
    option_and_then (λ pairs. of_world (living_reply w) (shown_plan types pairs)) (of_world (living_reply w) valued)
    ≡ option_and_then (shown.page_shown w types start count) children

-- a page of no children is empty
none_shown : (w : World) (types : Bool) (start count : ℕ) → Shows w types start count (gives []) (Some [])
unfolding of_world each
none_shown w types zero zero = refl
none_shown w types zero (suc count) = refl
none_shown w types (suc start) zero = refl
none_shown w types (suc start) (suc count) = refl

named : (w : World) (types : Bool) (filter : Filter) (start count : ℕ) (valued : Plan (List (Child × Value)))
    (children : Option (List shown.Child)) → Shows w types start count valued children
    → Shows w types start count (if_named filter valued) (shown.if_named filter children)
named w types Both start count valued children is = is
named w types Named start count valued children is = is
named w types Indexed start count valued children is = none_shown w types start count

indexed : (w : World) (types : Bool) (filter : Filter) (start count : ℕ) (valued : Plan (List (Child × Value)))
    (children : Option (List shown.Child)) → Shows w types start count valued children
    → Shows w types start count (if_indexed filter valued) (shown.if_indexed filter children)
indexed w types Both start count valued children is = is
indexed w types Indexed start count valued children is = is
indexed w types Named start count valued children is = none_shown w types start count

fields_by : (w : World) (types : Bool) (start count n : ℕ) → IsLive w
    → Shows w types start count (by_id n (gives []) (fields_page start count))
    (shown.unless_null (object n) (shown.fields w (object n)))
fields_by w types start count zero live = none_shown w types start count
fields_by w types start count (suc n) live = fields_shown w types (suc n) start count live

elements_by : (w : World) (types : Bool) (start count n : ℕ) → IsLive w
    → Shows w types start count (by_id n (gives []) (elements_page start count))
    (shown.unless_null (object n) (shown.elements w (object n)))
elements_by w types start count zero live = none_shown w types start count
elements_by w types start count (suc n) live = elements_shown w types n start count live.sound

page_shows : (w : World) (types : Bool) (thing : Thing) (filter : Filter) (start count : ℕ) → IsLive w
    → Shows w types start count (page_plan thing filter start count) (shown.children_of w filter thing)
page_shows w types (things.Frame frame) filter start count live = none_shown w types start count
page_shows w types (things.Locals frame) filter start count live =
    named w types filter start count (locals_page frame start count) (shown.locals w frame)
    (locals_shown w types frame start count live.sound)
page_shows w types (things.Object id) filter start count live =
    named w types filter start count (by_id id.0 (gives []) (fields_page start count))
    (shown.unless_null id (shown.fields w id)) (fields_by w types start count id.0 live)
page_shows w types (things.Array id) filter start count live =
    indexed w types filter start count (by_id id.0 (gives []) (elements_page start count))
    (shown.unless_null id (shown.elements w id)) (elements_by w types start count id.0 live)

pub shows_children : ShowsChildren
shows_children w state thing filter start count live =
    let types = state.options.shows_types in
    living w (children_plan types thing filter start count) live.alive
    ∙ said_made (living_reply w) found.Variables (chained (page_plan thing filter start count) (shown_plan types))
    ∙ ap (option_map found.Variables)
    (said_chained (living_reply w) (page_plan thing filter start count) (shown_plan types)
    ∙ page_shows w types thing filter start count live)
