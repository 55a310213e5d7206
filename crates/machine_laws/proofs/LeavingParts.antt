-- What is left of an item that attaches the session, leaves the target, or does neither.
use Rattle.std.proofs.Common.{◌≡◌, Bool, true, false, cond, not, ◌||◌, List, [], ◌∷◌, ◌++◌, Option, Some, None, refl}
use Rattle.std.proofs.Common.{arith}
use Rattle.machine_model.specs.Knowing.{is_farewell}
use Rattle.machine_model.specs.Lookups.{finished}
use Rattle.machine_model.specs.Plans.{Result}
use Rattle.machine_model.specs.Rows.{chosen, gone_parts, gone_row, gone_tail, has_response, news_of, parts_of, told_in}
use Rattle.machine_model.specs.Rows.{request_parts}
use Rattle.machine_model.specs.State.{Hand, State, is_attached, is_none}
use Rattle.machine_model.proofs.Bools.{both_hold, first_holds, second_more}
use Rattle.machine_steps.specs.Names.{Attach, Attached, Choice, Command, Decides, Deed, Disconnect, Dispose, Doing}
use Rattle.machine_steps.specs.Names.{Judges}
use Rattle.machine_steps.specs.Names.{Exit, Finding, Handshake, Item, Leaves, Lookup, News, Part, Phase, TellsNews}
use Rattle.machine_steps.specs.Names.{a_request, an_effect}
use Rattle.machine_steps.proofs.Tables.{of_decided, of_judged, same}

-- What an item is for -------------------------------------------------------------------------------------------------

-- an item attaches the session, or leaves the target, which is to end or not; or it does neither
pub data Aim : Type 0 where
  attaching : Aim
  leaving : Bool → Aim
  neither : Aim

-- `attach` and `disconnect` do (DAP specification, Attach request and Disconnect request)
abbrev pub aim_of_command : Command → Aim
aim_of_command (Attach arguments) = attaching
aim_of_command (Disconnect arguments) = leaving arguments.terminate_debuggee
aim_of_command _ = neither

-- only a request has such an aim
abbrev pub aim_of : Item → Aim
aim_of (a_request request) = aim_of_command request.command
aim_of _ = neither

-- the item attaches the session
abbrev pub attaches : Aim → Bool
attaches attaching = true
attaches (leaving exits) = false
attaches neither = false

-- it is to leave the target
abbrev pub is_to_leave : Aim → Bool
is_to_leave attaching = false
is_to_leave (leaving exits) = true
is_to_leave neither = false

-- Lists of parts ------------------------------------------------------------------------------------------------------

-- it sends the command that leaves the target (JDWP, VirtualMachine command set, Exit and Dispose)
abbrev pub is_sends : Part → Bool
is_sends (Part.Sends Exit) = true
is_sends (Part.Sends Dispose) = true
is_sends _ = false

-- it does, or decides on it
abbrev pub is_leave : Part → Bool
is_leave (Part.Sends Exit) = true
is_leave (Part.Sends Dispose) = true
is_leave (Part.Unfolds (Leaves exits)) = true
is_leave _ = false

-- it ends the session
abbrev pub is_ends : Part → Bool
is_ends (Part.Ends finish) = true
is_ends _ = false

-- one of them passes the test
abbrev pub has_part : (Part → Bool) → List Part → Bool
has_part test [] = false
has_part test (part ∷ parts) = test part || has_part test parts

-- the target is left as it is to be, once, before the response and the session's end
abbrev pub leaves_well : Aim → Bool → Bool → Bool → Bool → Bool
leaves_well attaching exits responds ends leaves = false
leaves_well (leaving terminates) exits responds ends leaves =
    cond (same terminates exits) (cond responds (cond ends (not leaves) false) false) false
leaves_well neither exits responds ends leaves = false

-- the part may stand in an item with this aim, where behind it there is a response, the session's end, a part that
-- leaves the target, or not
abbrev pub may_stand : Aim → Part → Bool → Bool → Bool → Bool
may_stand aim (Part.Responds outcome) responds ends leaves = true
may_stand aim (Part.Notes note) responds ends leaves = true
may_stand aim (Part.Ends finish) responds ends leaves = true
may_stand aim (Part.Awaits Handshake) responds ends leaves = cond (attaches aim) responds false
may_stand aim (Part.Sends Exit) responds ends leaves = leaves_well aim true responds ends leaves
may_stand aim (Part.Sends Dispose) responds ends leaves = leaves_well aim false responds ends leaves
may_stand aim (Part.Unfolds (Leaves exits)) responds ends leaves = leaves_well aim exits responds ends leaves
may_stand aim _ responds ends leaves = not (is_to_leave aim)

-- each of these may, in front of others among which there is a response, the session's end, a part that leaves the
-- target, or not
abbrev pub fits_before : Aim → Bool → Bool → Bool → List Part → Bool
fits_before aim responds ends leaves [] = true
fits_before aim responds ends leaves (part ∷ parts) =
    cond (may_stand aim part (responds || has_response parts) (ends || has_part is_ends parts)
    (leaves || has_part is_leave parts)) (fits_before aim responds ends leaves parts) false

-- each of these may stand in an item with this aim
abbrev pub fits : Aim → List Part → Bool
fits aim parts = fits_before aim false false false parts

-- the effect that was sent leaves the target, and has a reply only where one was said
abbrev pub left_by : Option Doing → Bool → Bool
left_by None replied = false
left_by (Some doing) replied = cond (is_farewell (an_effect doing.effect)) (is_none doing.reply || replied) false

-- the command that leaves the target is sent only in an attached session
abbrev pub sends_attached : Bool → List Part → Bool
sends_attached attached parts = cond (has_part is_sends parts) attached true

-- the item leaves the target no more, and the session's end is to come
abbrev pub is_over : Aim → List Part → Bool
is_over aim parts = cond (is_to_leave aim) (cond (has_part is_ends parts) (not (has_part is_leave parts)) false) false

-- an item that is to leave the target is still to do so, or did; or the session isn't attached
abbrev pub was_left : Bool → Bool → Aim → List Part → Option Doing → Bool
was_left attached replied aim parts effect =
    cond (is_to_leave aim) (cond attached (has_part is_leave parts || left_by effect replied) true) true

-- What is left of an item, by whether the session is attached, and whether the command that leaves the target was
-- sent, and replied to: the parts fit; that command is sent in an attached session; once it was sent, no other is; and
-- an item that is to leave the target, in an attached session, is still to send it, or did.
abbrev pub stands : Bool → Bool → Bool → Aim → List Part → Option Doing → Bool
stands attached sent replied aim parts effect =
    cond (fits aim parts) (cond (sends_attached attached parts) (cond (cond sent (is_over aim parts) true)
    (was_left attached replied aim parts effect) false) false) false

-- so stands the item in hand; where there is none, the target wasn't left
abbrev pub hand_stands : Bool → Bool → Bool → Option Hand → Bool
hand_stands attached sent replied None = not sent
hand_stands attached sent replied (Some hand) = stands attached sent replied (aim_of hand.item) hand.parts hand.effect

-- The tables ----------------------------------------------------------------------------------------------------------

-- an item that is begun stands so
row_stands : (state : State) (command : Command) (replied : Bool)
    → stands (is_attached state.phase) false replied (aim_of_command command) (request_parts command state) None ≡ true
row_stands state command replied = grind arith

pub begun_stands : (state : State) (item : Item) (replied : Bool)
    → stands (is_attached state.phase) false replied (aim_of item) (parts_of state item) None ≡ true
begun_stands state (a_request request) replied = row_stands state request.command replied
begun_stands state _ replied = grind arith

-- what a choice becomes fits where the choice did
pub chosen_fits : (choice : Choice) (state : State) (hand : Hand) (aim : Aim) (responds ends leaves : Bool)
    → may_stand aim (Part.Unfolds choice) responds ends leaves ≡ true
    → fits_before aim responds ends leaves (chosen choice state hand) ≡ true
chosen_fits (TellsNews below) state hand aim responds ends leaves is =
    by_news state.phase (news_of below state hand.item)
  where
    by_news : (phase : Phase) (news : List News)
        → fits_before aim responds ends leaves (told_in phase news) ≡ true
    by_news Attached (one ∷ news) = rw is (by_news Attached news)
    by_news _ _ = refl
chosen_fits Judges state hand aim responds ends leaves is =
    of_judged (λ (parts : List Part). fits_before aim responds ends leaves parts ≡ true) refl
    (λ strikes. grind (arith, is)) state hand.item
chosen_fits (Decides logged stops) state hand aim responds ends leaves is =
    of_decided (λ (parts : List Part). fits_before aim responds ends leaves parts ≡ true) refl refl (rw is refl)
    (λ stopped thrown stops halt. grind (arith, is)) (λ text texts stops. grind (arith, is)) state logged stops hand.item
chosen_fits _ state hand aim responds ends leaves is = grind (arith, is)

-- and leaves the target only in an attached session
pub chosen_attached : (choice : Choice) (state : State) (hand : Hand)
    → sends_attached (is_attached state.phase) (chosen choice state hand) ≡ true
chosen_attached (TellsNews below) state hand =
    by_news (is_attached state.phase) state.phase (news_of below state hand.item)
  where
    none_sent : (phase : Phase) (news : List News) → has_part is_sends (told_in phase news) ≡ false
    none_sent Attached (one ∷ news) = none_sent Attached news
    none_sent _ _ = refl

    by_news : (attached : Bool) (phase : Phase) (news : List News)
        → sends_attached attached (told_in phase news) ≡ true
    by_news attached phase news = rw (none_sent phase news) refl
chosen_attached Judges state hand =
    of_judged (λ (parts : List Part). sends_attached (is_attached state.phase) parts ≡ true) refl (λ strikes. refl) state
    hand.item
chosen_attached (Decides logged stops) state hand =
    of_decided (λ (parts : List Part). sends_attached (is_attached state.phase) parts ≡ true) refl refl refl
    (λ stopped thrown stops halt. grind arith) (λ text texts stops. refl) state logged stops hand.item
chosen_attached _ state hand = grind arith

-- where it does, if the choice was to
pub chosen_leaves : (choice : Choice) (state : State) (hand : Hand) → is_leave (Part.Unfolds choice) ≡ true
    → is_attached state.phase ≡ true → has_part is_leave (chosen choice state hand) ≡ true
chosen_leaves choice state hand is near = grind (arith, is, near)

-- what a look-up becomes leaves no target
pub found_fits : (lookup : Lookup) (result : Result Finding) (state : State) (aim : Aim) (responds ends leaves : Bool)
    → is_to_leave aim ≡ false → fits_before aim responds ends leaves (finished lookup result state) ≡ true
found_fits lookup result state aim responds ends leaves is = grind (arith, is)

-- what is left once the target has ended
row_gone : (command : Command) (sent replied : Bool) → cond sent (is_to_leave (aim_of_command command)) true ≡ true
    → stands false sent replied (aim_of_command command) (gone_row command) None ≡ true
row_gone command sent replied is = grind (arith, is)

tail_gone : (command : Command) (sent replied : Bool) → cond sent (is_to_leave (aim_of_command command)) true ≡ true
    → stands false sent replied (aim_of_command command) (gone_tail command) None ≡ true
tail_gone command sent replied is = grind (arith, is)

pub gone_stands : (responds : Bool) (item : Item) (sent replied : Bool)
    → cond sent (is_to_leave (aim_of item)) true ≡ true
    → stands false sent replied (aim_of item) (gone_parts responds item) None ≡ true
gone_stands true (a_request request) sent replied is = row_gone request.command sent replied is
gone_stands false (a_request request) sent replied is = tail_gone request.command sent replied is
gone_stands responds _ sent replied is = grind (arith, is)

-- Lists that are joined -----------------------------------------------------------------------------------------------

pub has_both : (test : Part → Bool) (parts rest : List Part)
    → has_part test (parts ++ rest) ≡ (has_part test rest || has_part test parts)
has_both test [] rest = grind arith
has_both test (part ∷ parts) rest = grind (arith, has_both test parts rest)

responds_both : (parts rest : List Part) → has_response (parts ++ rest) ≡ (has_response rest || has_response parts)
responds_both [] rest = grind arith
responds_both (part ∷ parts) rest = grind (arith, responds_both parts rest)

pub fits_joined : (aim : Aim) (parts rest : List Part)
    → fits_before aim (has_response rest) (has_part is_ends rest) (has_part is_leave rest) parts ≡ true
    → fits aim rest ≡ true → fits aim (parts ++ rest) ≡ true
fits_joined aim [] rest is h = h
fits_joined aim (part ∷ parts) rest is h =
    rw (responds_both parts rest, has_both is_ends parts rest, has_both is_leave parts rest)
    (second_more _ _ _ is (λ others. fits_joined aim parts rest others h))

-- an item that isn't to leave the target has no part that does
none_leaves : (aim : Aim) (parts : List Part) → is_to_leave aim ≡ false → fits aim parts ≡ true
    → has_part is_leave parts ≡ false
none_leaves aim [] not_so h = refl
none_leaves aim (part ∷ parts) not_so h = grind (arith, not_so, h, none_leaves aim parts)

-- behind the response there is none
pub none_behind : (aim : Aim) (parts : List Part) → has_response parts ≡ false → fits aim parts ≡ true
    → has_part is_leave parts ≡ false
none_behind aim [] none h = refl
none_behind aim (part ∷ parts) none h = grind (arith, none, h, none_behind aim parts)

pub none_sends : (parts : List Part) → has_part is_leave parts ≡ false → has_part is_sends parts ≡ false
none_sends [] none = refl
none_sends (part ∷ parts) none = grind (arith, none, none_sends parts)

-- Steps of what is left -----------------------------------------------------------------------------------------------

-- where the item isn't to leave the target, that was not done
not_sent : (attached sent replied : Bool) (aim : Aim) (parts : List Part) (effect : Option Doing)
    → is_to_leave aim ≡ false → stands attached sent replied aim parts effect ≡ true → sent ≡ false
not_sent attached sent replied aim parts effect not_so h =
    by_bools (is_to_leave aim) (fits aim parts) (sends_attached attached parts)
    (cond (has_part is_ends parts) (not (has_part is_leave parts)) false)
    (cond attached (has_part is_leave parts || left_by effect replied) true) not_so h
  where
    by_bools : (leaves fit session over left : Bool) → leaves ≡ false
        → cond fit (cond session (cond (cond sent (cond leaves over false) true) (cond leaves left true) false)
        false) false ≡ true
        → sent ≡ false
    by_bools leaves fit session over left not_so h = grind (arith, not_so, h)

aside_stands : (attached replied : Bool) (aim : Aim) (parts : List Part) (effect : Option Doing)
    → is_to_leave aim ≡ false → fits aim parts ≡ true → stands attached false replied aim parts effect ≡ true
aside_stands attached replied aim parts effect not_so h =
    rw (h, none_sends parts (none_leaves aim parts not_so h), not_so) refl

pub fits_of : (attached sent replied : Bool) (aim : Aim) (parts : List Part) (effect : Option Doing)
    → stands attached sent replied aim parts effect ≡ true → fits aim parts ≡ true
fits_of attached sent replied aim parts effect h =
    first_holds (fits aim parts) (cond (sends_attached attached parts) (cond (cond sent (is_over aim parts) true)
    (was_left attached replied aim parts effect) false) false) h

pub left_of : (attached sent replied : Bool) (aim : Aim) (parts : List Part) (effect : Option Doing)
    → stands attached sent replied aim parts effect ≡ true → was_left attached replied aim parts effect ≡ true
left_of attached sent replied aim parts effect h =
    last_of (fits aim parts) (sends_attached attached parts) (cond sent (is_over aim parts) true)
    (was_left attached replied aim parts effect) h
  where
    last_of : (fit session over left : Bool) → cond fit (cond session (cond over left false) false) false ≡ true
        → left ≡ true
    last_of fit session over left h = grind (arith, h)

-- behind a part that neither leaves the target nor ends the session
pub tail_stands : (attached sent replied : Bool) (aim : Aim) (part : Part) (rest : List Part) (effect : Option Doing)
    → is_leave part ≡ false → is_ends part ≡ false → stands attached sent replied aim (part ∷ rest) effect ≡ true
    → stands attached sent replied aim rest effect ≡ true
tail_stands attached sent replied aim part rest effect none goes_on h =
    by_bools (may_stand aim part (has_response rest) (has_part is_ends rest) (has_part is_leave rest)) (is_sends part)
    (is_leave part) (is_ends part) (fits aim rest) (has_part is_sends rest) (has_part is_ends rest)
    (has_part is_leave rest) (is_to_leave aim) (left_by effect replied) (no_sends part none) none goes_on h
  where
    no_sends : (part : Part) → is_leave part ≡ false → is_sends part ≡ false
    no_sends part none = grind (arith, none)

    by_bools : (may sends leave ends fit others_send others_end others_leave to_leave left : Bool) → sends ≡ false
        → leave ≡ false → ends ≡ false
        → cond (cond may fit false) (cond (cond (sends || others_send) attached true) (cond
        (cond sent (cond to_leave (cond (ends || others_end) (not (leave || others_leave)) false) false) true)
        (cond to_leave (cond attached ((leave || others_leave) || left) true) true) false) false) false ≡ true
        → cond fit (cond (cond others_send attached true) (cond
        (cond sent (cond to_leave (cond others_end (not others_leave) false) false) true)
        (cond to_leave (cond attached (others_leave || left) true) true) false) false) false ≡ true
    by_bools true false false false fit others_send others_end others_leave to_leave left unsent none goes_on h = h
    by_bools _ _ _ _ fit others_send others_end others_leave to_leave left unsent none goes_on h = cc

-- behind a part that stands in no item that is to leave the target
pub other_stands : (attached sent replied now : Bool) (aim : Aim) (part : Part) (parts rest : List Part)
    (effect later : Option Doing) → may_stand aim part (has_response rest) (has_part is_ends rest)
    (has_part is_leave rest) ≡ not (is_to_leave aim)
    → (is_to_leave aim ≡ false → fits aim rest ≡ true → fits aim parts ≡ true)
    → stands attached sent replied aim (part ∷ rest) effect ≡ true → stands now sent replied aim parts later ≡ true
other_stands attached sent replied now aim part parts rest effect later is become h =
    let (not_so, fit) = two (may_stand aim part (has_response rest) (has_part is_ends rest) (has_part is_leave rest))
    (fits aim rest) (is_to_leave aim) is (fits_of attached sent replied aim (part ∷ rest) effect h) in
    rw (not_sent attached sent replied aim (part ∷ rest) effect not_so h)
    (aside_stands now replied aim parts later not_so (become not_so fit))
  where
    two : (may fit leaves : Bool) → may ≡ not leaves → cond may fit false ≡ true → (leaves ≡ false) × (fit ≡ true)
    two true fit false is h = (refl, h)
    two _ fit _ is h = cc

-- what a part shows that leaves the target
pub record Leaving (sent : Bool) (aim : Aim) (part : Part) (rest : List Part) : Type 0 where
  pub may : may_stand aim part (has_response rest) (has_part is_ends rest) (has_part is_leave rest) ≡ true
  pub fit : fits aim rest ≡ true
  pub none_sent : sent ≡ false
  pub to_leave : is_to_leave aim ≡ true
  pub responds : has_response rest ≡ true
  pub ends : has_part is_ends rest ≡ true
  pub none_more : has_part is_leave rest ≡ false

leave_facts : (aim : Aim) (part : Part) (responds ends leaves : Bool) → is_leave part ≡ true
    → may_stand aim part responds ends leaves ≡ true
    → (is_to_leave aim ≡ true) × (responds ≡ true) × (ends ≡ true) × (leaves ≡ false)
leave_facts aim part responds ends leaves is may =
    (grind (arith, is, may), grind (arith, is, may), grind (arith, is, may), grind (arith, is, may))

pub split_fit : (aim : Aim) (part : Part) (rest : List Part) → fits aim (part ∷ rest) ≡ true
    → (may_stand aim part (has_response rest) (has_part is_ends rest) (has_part is_leave rest) ≡ true)
    × (fits aim rest ≡ true)
split_fit aim part rest h =
    both_hold (may_stand aim part (has_response rest) (has_part is_ends rest) (has_part is_leave rest)) (fits aim rest) h

pub leaving_of : (attached sent replied : Bool) (aim : Aim) (part : Part) (rest : List Part) (effect : Option Doing)
    → is_leave part ≡ true → stands attached sent replied aim (part ∷ rest) effect ≡ true
    → Leaving sent aim part rest
leaving_of attached sent replied aim part rest effect is h =
    let (may, fit) = split_fit aim part rest (fits_of attached sent replied aim (part ∷ rest) effect h) in
    let facts = leave_facts aim part (has_response rest) (has_part is_ends rest) (has_part is_leave rest) is may in
    record {
      may = may;
      fit = fit;
      none_sent = unsent (is_leave part) (fits aim (part ∷ rest)) (sends_attached attached (part ∷ rest))
          (is_to_leave aim) (has_part is_ends (part ∷ rest)) (has_part is_leave rest)
          (was_left attached replied aim (part ∷ rest) effect) is h;
      to_leave = facts.0;
      responds = facts.1;
      ends = facts.2;
      none_more = facts.3;
    }
  where
    unsent : (leave fit session to_leave ends others left : Bool) → leave ≡ true
        → cond fit (cond session (cond (cond sent (cond to_leave (cond ends (not (leave || others)) false) false) true)
        left false) false) false ≡ true → sent ≡ false
    unsent leave fit session to_leave ends others left is h = grind (arith, is, h)

-- the command that leaves the target goes in an attached session
pub sends_there : (attached sent replied : Bool) (aim : Aim) (part : Part) (rest : List Part) (effect : Option Doing)
    → is_sends part ≡ true → stands attached sent replied aim (part ∷ rest) effect ≡ true → attached ≡ true
sends_there attached sent replied aim part rest effect is h =
    by_bools (is_sends part) (has_part is_sends rest) (fits aim (part ∷ rest))
    (cond (cond sent (is_over aim (part ∷ rest)) true) (was_left attached replied aim (part ∷ rest) effect) false) is h
  where
    by_bools : (first more fit others : Bool) → first ≡ true
        → cond fit (cond (cond (first || more) attached true) others false) false ≡ true → attached ≡ true
    by_bools first more fit others is h = grind (arith, is, h)

-- and is one of a part that leaves it
pub sends_leave : (part : Part) → is_sends part ≡ true → is_leave part ≡ true
sends_leave part is = grind (arith, is)

pub other_deed : (aim : Aim) (deed : Deed) (responds ends leaves : Bool) → is_sends (Part.Sends deed) ≡ false
    → may_stand aim (Part.Sends deed) responds ends leaves ≡ not (is_to_leave aim)
other_deed aim deed responds ends leaves is = grind (arith, is)
