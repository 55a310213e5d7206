-- What the client says, and the target's handshake and end: the core is ready behind them.
use Rattle.std.proofs.Common.{◌≡◌, ℕ, ◌<◌, ◌≤◌, ◌||◌, ◌++◌, ◌∷◌, Bool, true, false, cond, List, [], length, Ok, Err}
use Rattle.std.proofs.Common.{refl, sym, ap, subst, ◌∙◌}
use Rattle.std.specs.Prelude.{IfErr, OnOk, Result}
use Rattle.dap_messages.specs.Reading.{reading_of}
use Rattle.dap_messages.specs.declared.requests.Incoming.TheVariants.{Request as a_said}
use Rattle.machine_model.specs.Due.{can_read}
use Rattle.machine_model.specs.Replying.{ended}
use Rattle.machine_model.specs.Runs.{Allows, Message, Run, greeting_heard, heard}
use Rattle.machine_model.specs.State.{Machine, has_raw, is_gone, is_raw, is_some, knowing}
use Rattle.bridge_core.specs.Calls.{Refuses, RefusesEnd, Takes}
use Rattle.bridge_core.specs.Cores.{CoreState, IsReady, IsSound, with_machine}
use Rattle.bridge_core.specs.Names.{Item, Request, a_request}
use Rattle.bridge_core.proofs.WindowLaws.{ended_aligned, greeted_aligned, heard_aligned}
use Rattle.session_endings.specs.declared.ending.Ending.{Ending}
use Rattle.session_endings.specs.declared.ending.Ending.TheVariants.{Flood}

-- Requests ------------------------------------------------------------------------------------------------------------

-- a request is no composite that could be read
heard_raw : (items : List Item) (request : Request) → has_raw (items ++ a_request request ∷ []) ≡ has_raw items
heard_raw [] request = refl
heard_raw (item ∷ items) request = ap (λ (has : Bool). is_raw item || has) (heard_raw items request)

heard_unread : (m : Machine) (request : Request) → can_read m ≡ false → can_read (heard m request) ≡ false
heard_unread m request none =
    ap (λ (has : Bool). cond (is_gone m.state.phase) false (cond (is_some m.state.sizes) has false))
    (heard_raw m.waiting request) ∙ none

heard_sound : (core : CoreState) (request : Request) → IsSound core → core.machine.closing ≡ false
    → IsSound (with_machine core (heard core.machine request))
heard_sound core request sound more = record {
  messages = sound.messages ++ Message.hears request ∷ [];
  run = Run.moves sound.run (Allows.hears sound.none_to_read more);
  aligned = heard_aligned core.commands.sent core.machine request sound.aligned;
  none_to_read = heard_unread core.machine request sound.none_to_read;
}

-- a request was heard
heard_takes : (old : CoreState) (now : Machine) (body : List ℕ) (request : Request)
    → reading_of body ≡ Ok (a_said request) → old.machine.closing ≡ false → now ≡ heard old.machine request
    → Takes old body (with_machine old now)
heard_takes old now body request reads more same = Takes.hears reads more (ap (with_machine old) same)

pub takes_request : {A : Type 0} (result : Result A Ending) (old : CoreState) (now : Machine) (body : List ℕ)
    (request : Request) → reading_of body ≡ Ok (a_said request) → old.machine.closing ≡ false
    → now ≡ heard old.machine request → OnOk result (Takes old body (with_machine old now))
takes_request (Err ending) old now body request reads more same = tt
takes_request (Ok a) old now body request reads more same = heard_takes old now body request reads more same

-- the core is ready behind it where there is room
pub ready_request : {A : Type 0} (result : Result A Ending) (old : CoreState) (now : Machine) (request : Request)
    → IsReady old → old.machine.closing ≡ false → now ≡ heard old.machine request
    → OnOk result (length now.waiting ≤ old.limit) → OnOk result (IsReady (with_machine old now))
ready_request (Err ending) old now request ready more same room = tt
ready_request (Ok a) old now request ready more same room = record {
  sound = subst (λ (m : Machine). IsSound (with_machine old m)) (sym same)
      (heard_sound old request ready.sound more);
  room = room;
}

-- and the session ends where there is none
pub floods_request : {A : Type 0} (result : Result A Ending) (old : CoreState) (now : Machine) (body : List ℕ)
    (at : ℕ) (request : Request) → reading_of body ≡ Ok (a_said request) → old.machine.closing ≡ false
    → now ≡ heard old.machine request
    → IfErr result (λ ending. (ending ≡ Flood) × (old.limit < length now.waiting))
    → IfErr result (Refuses old body at (with_machine old now))
floods_request (Ok a) old now body at request reads more same full = tt
floods_request (Err ending) old now body at request reads more same full =
    subst (λ (e : Ending). Refuses old body at (with_machine old now) e) (sym full.0)
    (Refuses.floods (heard_takes old now body request reads more same) full.1)

-- The handshake -------------------------------------------------------------------------------------------------------

-- the core is ready behind the target's handshake, also where it came before
pub greeted_ready : (core : CoreState) → IsReady core → IsReady (with_machine core (greeting_heard core.machine))
greeted_ready core ready = record { sound = by_heard core.machine.state.greeting_heard refl; room = ready.room }
  where
    by_heard : (was : Bool) → core.machine.state.greeting_heard ≡ was
        → IsSound (with_machine core (greeting_heard core.machine))
    by_heard true was =
        subst (λ (h : Bool). IsSound (with_machine core
        (knowing core.machine (record core.machine.state { greeting_heard = h })))) was ready.sound
    by_heard false was = record {
      messages = ready.sound.messages ++ Message.greeted ∷ [];
      run = Run.moves ready.sound.run (Allows.greeted ready.sound.none_to_read was);
      aligned = greeted_aligned core.commands.sent core.machine ready.sound.aligned;
      none_to_read = ready.sound.none_to_read;
    }

-- The target's end ----------------------------------------------------------------------------------------------------

-- of a target that is gone no composite can be read
ended_unread : (gone : Bool) (m : Machine) → can_read m ≡ false → can_read (ended gone m) ≡ false
ended_unread true m none = none
ended_unread false m none = refl

ended_sound : (core : CoreState) → IsSound core
    → IsSound (with_machine core (ended (is_gone core.machine.state.phase) core.machine))
ended_sound core sound = record {
  messages = sound.messages ++ Message.ends ∷ [];
  run = Run.moves sound.run (Allows.ends sound.none_to_read);
  aligned = ended_aligned core.commands.sent core.machine (is_gone core.machine.state.phase) sound.aligned;
  none_to_read = ended_unread (is_gone core.machine.state.phase) core.machine sound.none_to_read;
}

-- the core is ready behind the target's end where there is room
pub ready_end : {A : Type 0} (result : Result A Ending) (old : CoreState) (now : Machine) → IsReady old
    → now ≡ ended (is_gone old.machine.state.phase) old.machine → OnOk result (length now.waiting ≤ old.limit)
    → OnOk result (IsReady (with_machine old now))
ready_end (Err ending) old now ready same room = tt
ready_end (Ok a) old now ready same room = record {
  sound = subst (λ (m : Machine). IsSound (with_machine old m)) (sym same) (ended_sound old ready.sound);
  room = room;
}

-- and the session ends where there is none
pub floods_end : {A : Type 0} (result : Result A Ending) (old : CoreState) (now : Machine)
    → now ≡ ended (is_gone old.machine.state.phase) old.machine
    → IfErr result (λ ending. (ending ≡ Flood) × (old.limit < length now.waiting))
    → IfErr result (RefusesEnd old (with_machine old now))
floods_end (Ok a) old now same full = tt
floods_end (Err ending) old now same full =
    subst (λ (e : Ending). RefusesEnd old (with_machine old now) e) (sym full.0)
    (RefusesEnd.floods (ap (with_machine old) same) full.1)
