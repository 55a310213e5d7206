-- How the client is served is what its last `initialize` asked for.
use Rattle.std.proofs.Common.{◌≡◌, Bool, true, false, cond, not, ◌||◌, List, [], ◌∷◌, ◌++◌, Option, Some, None, refl}
use Rattle.std.proofs.Common.{sym, ap, subst, ◌∙◌, append-nil, option_map, arith}
use Rattle.machine_model.specs.Lookups.{finished}
use Rattle.machine_model.specs.Due.{asked_hand}
use Rattle.machine_model.specs.Noting.{AreOptions, asked_options, options_in, options_noted, part_options}
use Rattle.machine_model.specs.Outcomes.{result_of}
use Rattle.machine_model.specs.Plans.{Result}
use Rattle.machine_model.specs.Replying.{hand_replied, replied_machine, replied_to}
use Rattle.machine_model.specs.Rest.{request_in, without_response}
use Rattle.machine_model.specs.Rows.{chosen, failure_of, gone_parts, has_response, is_response, told_in, noted}
use Rattle.machine_model.specs.Rows.{parts_by, news_of, parts_of, request_parts, row_of, wanting}
use Rattle.machine_model.specs.Runs.{Message, Run}
use Rattle.machine_model.specs.State.{Hand, Machine, State, is_gone, knowing, left}
use Rattle.machine_model.specs.Telling.{after_event, numbered_by, outcome_told, response_to}
use Rattle.machine_steps.specs.Names.{Attached, Choice, ClientOptions, Command, Decides, Event, Failure, Finding}
use Rattle.machine_steps.specs.Names.{Judges}
use Rattle.machine_steps.specs.Names.{Initialized, Item, Lookup, News, Note, Options, Outcome, Part, Phase, Replied}
use Rattle.machine_steps.specs.Names.{Request, TargetCommand, TellsNews, Terminated, Want, a_composite, a_question}
use Rattle.machine_steps.specs.Names.{a_raw, a_request, a_response, an_effect, target_end}
use Rattle.machine_steps.proofs.QuietLaws.{attached_gone}
use Rattle.machine_steps.proofs.ServedLaws.{IsLeft, left_on}
use Rattle.machine_steps.proofs.Stepping.{IsAt, Loses, Moves, Skips, by_runs, with_said}
use Rattle.machine_steps.proofs.Tables.{chosen_is, finished_is, has_joined, of_decided, once, once_in, responds_once}
use Rattle.machine_steps.proofs.Tables.{row_is, of_judged}
use Rattle.machine_steps.proofs.Testing.{IsTest, Passed, same_noted, same_numbered, same_replied, tested, whole}
use Rattle.std.proofs.lemmas.Bool.{not-true}

-- Lists of parts ------------------------------------------------------------------------------------------------------

abbrev is_options : Part → Bool
is_options (Part.Notes (Options options)) = true
is_options _ = false

abbrev no_options : List Part → Bool
no_options [] = true
no_options (part ∷ parts) = cond (is_options part) false (no_options parts)

-- options are written down behind the response
abbrev stand_last : List Part → Bool
stand_last [] = true
stand_last (part ∷ parts) = cond (cond (is_options part) (not (has_response parts)) true) (stand_last parts) false

abbrev options_last : Bool → List Part → Bool
options_last gone parts = stand_last parts

none_last : (parts rest : List Part) → no_options parts ≡ true → stand_last rest ≡ true
    → stand_last (parts ++ rest) ≡ true
none_last [] rest none is = is
none_last (part ∷ parts) rest none is = grind (arith, none, none_last parts rest)

none_joined : (parts rest : List Part) → no_options parts ≡ true → no_options rest ≡ true
    → no_options (parts ++ rest) ≡ true
none_joined [] rest none is = is
none_joined (part ∷ parts) rest none is = grind (arith, none, none_joined parts rest)

part_same : (part : Part) (options : ClientOptions) → is_options part ≡ false → part_options part options ≡ options
part_same part options is = grind (arith, is)

none_noted : (parts rest : List Part) (options : ClientOptions) → no_options parts ≡ true
    → options_noted (parts ++ rest) options ≡ options_noted rest options
none_noted [] rest options none = refl
none_noted (part ∷ parts) rest options none =
    ap (λ (now : ClientOptions). options_noted (parts ++ rest) now)
    (part_same part options (first_of (is_options part) (no_options parts) none))
    ∙ none_noted parts rest options (others_of (is_options part) (no_options parts) none)
  where
    first_of : (first others : Bool) → cond first false others ≡ true → first ≡ false
    first_of first others is = grind (arith, is)

    others_of : (first others : Bool) → cond first false others ≡ true → others ≡ true
    others_of first others is = grind (arith, is)

none_same : (parts : List Part) (options : ClientOptions) → no_options parts ≡ true
    → options_noted parts options ≡ options
none_same parts options none =
    sym (ap (λ (all : List Part). options_noted all options) (append-nil parts)) ∙ none_noted parts [] options none

-- The tables
row_last : (failure : Option Failure) (command : Command) (state : State) → stand_last (parts_by failure (row_of command state)) ≡ true
row_last failure command state = grind arith

begun_last : (state : State) (item : Item) → stand_last (parts_of state item) ≡ true
begun_last state (a_request request) = row_last (failure_of (wanting request.command) state) request.command state
begun_last state (a_raw at body) = refl
begun_last state _ = grind arith

chosen_none : (choice : Choice) (state : State) (hand : Hand) → no_options (chosen choice state hand) ≡ true
chosen_none (TellsNews below) state hand = by_news state.phase (news_of below state hand.item)
  where
    by_news : (phase : Phase) (news : List News) → no_options (told_in phase news) ≡ true
    by_news Attached (one ∷ news) = by_news Attached news
    by_news _ _ = refl
chosen_none Judges state hand =
    of_judged (λ (parts : List Part). no_options parts ≡ true) refl (λ strikes. refl) state hand.item
chosen_none (Decides logged stops) state hand =
    of_decided (λ (parts : List Part). no_options parts ≡ true) refl refl refl (λ stopped thrown stops halt. grind arith)
    (λ text texts stops. refl) state logged stops hand.item
chosen_none _ state hand = grind arith

found_none : (lookup : Lookup) (result : Result Finding) (state : State)
    → no_options (finished lookup result state) ≡ true
found_none lookup result state = grind arith

gone_last : (responds : Bool) (item : Item) → stand_last (gone_parts responds item) ≡ true
gone_last responds item = grind arith

rest_last : (part : Part) (rest : List Part) → stand_last (part ∷ rest) ≡ true → stand_last rest ≡ true
rest_last part rest is = grind (arith, is)

last_test : IsTest options_last
last_test = record {
  none = λ gone. refl;
  tail = λ gone part rest is. rest_last part rest is;
  begins = begun_last;
  unfolds = λ choice state hand rest is.
      none_last (chosen choice state hand) rest (chosen_none choice state hand) (rest_last
      (Part.Unfolds choice) rest is);
  finds = λ lookup result state rest is.
      none_last (finished lookup result state) rest (found_none lookup result state)
      (rest_last (Part.Looks lookup) rest is);
  gives_up = gone_last;
}

row_asks : (state : State) (command : Command) (options : ClientOptions)
    → options_noted (request_parts command state) options ≡ asked_options command options
row_asks state command options = grind arith

-- What an item writes down --------------------------------------------------------------------------------------------

-- before its response, a request is to write down what it asks for; no other item writes down any
abbrev FitsItem : Item → List Part → Type 0
FitsItem (a_request request) parts =
    has_response parts ≡ true → (options : ClientOptions)
    → options_noted parts options ≡ asked_options request.command options
FitsItem (a_composite at composite) parts = no_options parts ≡ true
FitsItem (a_raw at body) parts = no_options parts ≡ true
FitsItem target_end parts = no_options parts ≡ true

abbrev Fits : Option Hand → Type 0
Fits None = Unit {0}
Fits (Some hand) = FitsItem hand.item hand.parts

begun_fits : (state : State) (item : Item) → FitsItem item (parts_of state item)
begun_fits state (a_request request) = λ has options. row_asks state request.command options
begun_fits state (a_raw at body) = refl
begun_fits state _ = grind arith

-- these parts stand where a part stood that writes down nothing
fits_joined : (item : Item) (part : Part) (parts rest : List Part) → no_options parts ≡ true
    → (has_response parts ≡ true → is_response part ≡ true) → is_options part ≡ false → FitsItem item (part ∷ rest)
    → FitsItem item (parts ++ rest)
fits_joined (a_request request) part parts rest none brings plain h = λ has options.
    none_noted parts rest options none
    ∙ ap (λ (now : ClientOptions). options_noted rest now) (sym (part_same part options plain))
    ∙ h (either (has_response parts) (has_response rest) (is_response part) brings (sym (has_joined parts rest)
    ∙ has)) options
  where
    either : (some others first : Bool) → (some ≡ true → first ≡ true) → (some || others) ≡ true
        → (first || others) ≡ true
    either some others first brings is = grind (arith, brings, is)
fits_joined _ part parts rest none brings plain h = none_joined parts rest none (grind (arith, h))

fits_tail : (item : Item) (part : Part) (rest : List Part) → stand_last (part ∷ rest) ≡ true
    → FitsItem item (part ∷ rest) → FitsItem item rest
fits_tail item part rest last h = by_options item (is_options part) refl h
  where
    unsaid : (rest_has others : Bool) → cond (not rest_has) others false ≡ true → rest_has ≡ false
    unsaid rest_has others is = grind (arith, is)

    by_options : (item : Item) (noted : Bool) → is_options part ≡ noted → FitsItem item (part ∷ rest)
        → FitsItem item rest
    by_options item false is h = fits_joined item part [] rest refl (λ no_parts. cc) is h
    by_options (a_request request) true is h = λ has options.
        let none : has_response rest ≡ false = unsaid (has_response rest) (stand_last rest)
        (ap (λ (b : Bool). cond (cond b (not (has_response rest)) true) (stand_last rest) false) (sym is) ∙ last) in
        let no : true ≡ false = sym has ∙ none in cc
    by_options _ true is h = grind (arith, h, is)

-- The walk ------------------------------------------------------------------------------------------------------------

record Noted (messages : List Message) (m : Machine) : Type 0 where
  said : is_gone m.state.phase ≡ false
      → AreOptions messages (without_response m) (options_in m.hand m.state.options)
  fits : is_gone m.state.phase ≡ false → Fits m.hand

-- no response is told
abbrev is_other : Option Message → Bool
is_other (Some (Message.tells (a_response response))) = false
is_other _ = true

left_options : (messages : List Message) (left now : List Request) (said : Option Message) (options : ClientOptions)
    → is_other said ≡ true → IsLeft left now said → AreOptions messages left options
    → AreOptions (with_said messages said) now options
left_options messages left now said options other (IsLeft.silent same) h =
    subst (λ (left : List Request). AreOptions messages left options) same h
left_options messages left now said options other (IsLeft.aside message no_request no_response same) h =
    AreOptions.aside message no_request no_response
    (subst (λ (left : List Request). AreOptions messages left options) same h)
left_options messages left now said options other (IsLeft.hears request is) h =
    subst (λ (now : List Request). AreOptions (messages ++ Message.hears request ∷ []) now options) (sym is)
    (AreOptions.hears request h)
left_options messages left now said options other (IsLeft.responds request outcome was) h = cc

-- what a move that tells no response makes of it
record Onward (m next : Machine) : Type 0 where
  near : is_gone next.state.phase ≡ false → is_gone m.state.phase ≡ false
  options : Fits m.hand → options_in next.hand next.state.options ≡ options_in m.hand m.state.options
  fits : Fits m.hand → Fits next.hand

onward : (messages : List Message) (m next : Machine) (said : Option Message) → is_other said ≡ true
    → IsLeft (without_response m) (without_response next) said → Noted messages m → Onward m next
    → Noted (with_said messages said) next
onward messages m next said other left n on = record {
  said = λ near. let h = n.fits (on.near near) in
      subst (λ (options : ClientOptions). AreOptions (with_said messages said) (without_response next) options)
      (sym (on.options h))
      (left_options messages (without_response m) (without_response next) said (options_in m.hand m.state.options) other
      left (n.said (on.near near)));
  fits = λ near. on.fits (n.fits (on.near near));
}

fits_at : {m : Machine} {hand : Hand} {part : Part} {rest : List Part} → IsAt m hand part rest → Fits m.hand
    → FitsItem hand.item (part ∷ rest)
fits_at {m} {hand} at h =
    subst (λ (parts : List Part). FitsItem hand.item parts) at.parts
    (subst (λ (held : Option Hand). Fits held) at.in_hand h)

options_at : {m : Machine} {hand : Hand} {part : Part} {rest : List Part} (options : ClientOptions)
    → IsAt m hand part rest
    → cond (has_response (part ∷ rest)) options (options_noted (part ∷ rest) options) ≡ options_in m.hand options
options_at {m} {hand} options at =
    ap (λ (parts : List Part). cond (has_response parts) options (options_noted parts options)) (sym at.parts)
    ∙ ap (λ (held : Option Hand). options_in held options) (sym at.in_hand)

-- the part in front is done, and writes down nothing
tail_on : (m next : Machine) (hand : Hand) (part : Part) (rest : List Part) → stand_last (part ∷ rest) ≡ true
    → IsAt m hand part rest
    → ((options : ClientOptions) → options_in next.hand options
    ≡ cond (has_response rest) options (options_noted rest options))
    → (FitsItem hand.item rest → Fits next.hand)
    → (is_gone next.state.phase ≡ false → is_gone m.state.phase ≡ false)
    → (Fits m.hand → cond (has_response rest) next.state.options (options_noted rest next.state.options)
    ≡ cond (has_response (part ∷ rest)) m.state.options (options_noted (part ∷ rest) m.state.options)) → Onward m next
tail_on m next hand part rest last at now fits near same = record {
  near = near;
  options = λ h. now next.state.options ∙ same h ∙ options_at m.state.options at;
  fits = λ h. fits (fits_tail hand.item part rest last (fits_at at h));
}

-- a part becomes these, which write down nothing
block_on : (m : Machine) (hand : Hand) (part : Part) (parts rest : List Part) → no_options parts ≡ true
    → has_response parts ≡ is_response part → is_options part ≡ false
    → part_options part m.state.options ≡ m.state.options
    → IsAt m hand part rest → Onward m (left m hand (parts ++ rest))
block_on m hand part parts rest none brings plain same at = record {
  near = λ near. near;
  options = λ h. rw (has_joined parts rest, brings, none_noted parts rest m.state.options none)
      (ap (λ (now : ClientOptions). cond (is_response part || has_response rest) m.state.options
      (options_noted rest now))
      (sym same) ∙ options_at m.state.options at);
  fits = λ h. fits_joined hand.item part parts rest none (λ has. sym brings ∙ has) plain (fits_at at h);
}

-- what changes no part
still_on : (m next : Machine) → next.state.options ≡ m.state.options
    → (is_gone next.state.phase ≡ false → is_gone m.state.phase ≡ false)
    → ((options : ClientOptions) → options_in next.hand options ≡ options_in m.hand options)
    → (Fits m.hand → Fits next.hand) → Onward m next
still_on m next same near hands fits = record {
  near = near;
  options = λ h. ap (λ (options : ClientOptions). options_in next.hand options) same ∙ hands m.state.options;
  fits = fits;
}

replied_hand : (command : TargetCommand) (replied : Replied) (hand : Option Hand) (options : ClientOptions)
    → options_in (option_map (hand_replied command replied) hand) options ≡ options_in hand options
replied_hand command replied hand options = grind arith

replied_fits : (command : TargetCommand) (replied : Replied) (hand : Option Hand) → Fits hand
    → Fits (option_map (hand_replied command replied) hand)
replied_fits command replied None h = tt
replied_fits (a_question question) replied (Some hand) h = h
replied_fits (an_effect effect) replied (Some hand) h = h

replied_options : (command : TargetCommand) (replied : Replied) (state : State)
    → (replied_to command replied state).options ≡ state.options
replied_options command replied state = grind arith

replied_on : (m : Machine) (command : TargetCommand) (replied : Replied) → Onward m (replied_machine m command replied)
replied_on m command replied =
    still_on m (replied_machine m command replied) (replied_options command replied m.state)
    (λ near. sym (ap is_gone (same_replied command replied m.state)) ∙ near)
    (replied_hand command replied m.hand) (replied_fits command replied m.hand)

begun_options : (state : State) (item : Item) (options : ClientOptions)
    → cond (has_response (parts_of state item)) options (options_noted (parts_of state item) options) ≡ options
begun_options state (a_request request) options =
    rw (row_is (failure_of (wanting request.command) state) request.command state).responds refl
begun_options state (a_raw at body) options = refl
begun_options state _ options = grind arith

skipped_on : (m : Machine) (hand : Hand) (part : Part) (rest : List Part) → stand_last (part ∷ rest) ≡ true
    → IsAt m hand part rest → Skips m hand part → Onward m (left m hand rest)
skipped_on m hand part rest last at (Skips.by_guard {guard} is) =
    tail_on m (left m hand rest) hand (Part.Awaits guard) rest last at (λ options. refl) (λ h. h) (λ near. near)
    (λ h. refl)
skipped_on m hand part rest last at (Skips.by_wishes is) =
    tail_on m (left m hand rest) hand Part.Updates rest last at (λ options. refl) (λ h. h) (λ near. near)
    (λ h. refl)
skipped_on m hand part rest last at (Skips.no_request {outcome} is) =
    tail_on m (left m hand rest) hand (Part.Responds outcome) rest last at (λ options. refl) (λ h. h)
    (λ near. near) (λ h. by_item hand.item (fits_at at h) is)
  where
    behind : (rest : List Part) → no_options rest ≡ true
        → cond (has_response rest) m.state.options (options_noted rest m.state.options) ≡ m.state.options
    behind rest none = rw (none_same rest m.state.options none) (both (has_response rest))
      where
        both : (has : Bool) → cond has m.state.options m.state.options ≡ m.state.options
        both has = grind arith

    by_item : (item : Item) → FitsItem item (Part.Responds outcome ∷ rest) → request_in item ≡ []
        → cond (has_response rest) m.state.options (options_noted rest m.state.options) ≡ m.state.options
    by_item (a_request request) h is = cc
    by_item _ h is = behind rest h

event_near : (event : Event) (state : State) → is_gone (after_event event state).phase ≡ false
    → is_gone state.phase ≡ false
event_near Initialized state near = sym (attached_gone state.phase) ∙ near
event_near Terminated state near = cc
event_near _ state near = near

event_options : (event : Event) (state : State) → (after_event event state).options ≡ state.options
event_options event state = grind arith

-- a note behind the response
noted_same : (note : Note) (state : State) (rest : List Part) → stand_last (Part.Notes note ∷ rest) ≡ true
    → cond (has_response rest) (noted note state).options (options_noted rest (noted note state).options)
    ≡ cond (has_response rest) state.options (options_noted (Part.Notes note ∷ rest) state.options)
noted_same (Options options) state rest last = by_bool (has_response rest) last
  where
    by_bool : (has : Bool) → cond (not has) (stand_last rest) false ≡ true
        → cond has options (options_noted rest options) ≡ cond has state.options (options_noted rest options)
    by_bool has is = grind (arith, is)
noted_same _ state rest last = refl

numbered_options : (outcome : Outcome) (state : State) → (numbered_by outcome state).options ≡ state.options
numbered_options outcome state = grind arith

-- the response to a request: it asked for what is left to write down
responded_on : (messages : List Message) (m : Machine) (hand : Hand) (rest : List Part) (request : Request)
    (outcome : Outcome) → once_in (Part.Responds outcome ∷ rest) ≡ true
    → stand_last (Part.Responds outcome ∷ rest) ≡ true
    → IsAt m hand (Part.Responds outcome) rest → hand.item ≡ a_request request → Noted messages m
    → Noted (messages ++ Message.tells (response_to request (outcome_told outcome m.state)) ∷ [])
    (left (knowing m (numbered_by outcome m.state)) hand rest)
responded_on messages m hand rest request outcome single last at is n =
    let none : has_response rest ≡ false = not-true (has_response rest) single in record {
      said = λ near.
          let before = sym (ap is_gone (same_numbered outcome m.state)) ∙ near in
          let asks = subst (λ (item : Item). FitsItem item (Part.Responds outcome
          ∷ rest)) is (fits_at at (n.fits before)) in
          let options : options_noted rest m.state.options ≡ asked_options request.command m.state.options =
          asks refl m.state.options in
          let told = subst (λ (left : List Request). AreOptions messages left m.state.options)
          (rw (at.in_hand, at.parts, is) refl)
          (subst (λ (options : ClientOptions). AreOptions messages (without_response m) options)
          (sym (options_at m.state.options at)) (n.said before)) in
          rw (none, numbered_options outcome m.state, options)
          (AreOptions.responds {request = request} _ (record { seq = refl; command = refl }) told);
      fits = λ near. fits_tail hand.item (Part.Responds outcome) rest last
          (fits_at at (n.fits (sym (ap is_gone (same_numbered outcome m.state)) ∙ near)));
    }

asked_options_same : (want : Want) (hand : Option Hand) (options : ClientOptions)
    → options_in (option_map (asked_hand want) hand) options ≡ options_in hand options
asked_options_same want hand options = grind arith

asked_fits : (want : Want) (hand : Option Hand) → Fits hand → Fits (option_map (asked_hand want) hand)
asked_fits want None h = tt
asked_fits want (Some hand) h = h

on_move : (m next : Machine) (said : Option Message) → Passed options_last m → is_gone next.state.phase ≡ false
    → is_other said ≡ true → Moves m said next → Onward m next
on_move m next said last near other (Moves.begins picked free none is) = record {
  near = λ near. near;
  options = λ h. begun_options m.state picked.item m.state.options
      ∙ ap (λ (held : Option Hand). options_in held m.state.options) (sym none);
  fits = λ h. begun_fits m.state picked.item;
}
on_move m next said last near other (Moves.drops {hand} free is are) = record {
  near = λ near. near;
  options = λ h. ap (λ (parts : List Part). cond (has_response parts) m.state.options
      (options_noted parts m.state.options))
      (sym are) ∙ ap (λ (held : Option Hand). options_in held m.state.options) (sym is);
  fits = λ h. tt;
}
on_move m next said last near other (Moves.responds free at is) = cc
on_move m next said last near other (Moves.finds {hand} {rest} {lookup} found free at needs done) =
    block_on m hand (Part.Looks lookup) (finished lookup (result_of found) m.state) rest
    (found_none lookup (result_of found) m.state) (finished_is lookup (result_of found) m.state).is refl refl at
on_move m next said last near other (Moves.passes_over {hand} {part} {rest} free at why) =
    skipped_on m hand part rest (whole options_last last at) at why
on_move m next said last near other (Moves.tells {hand} {rest} {event} free at) =
    tail_on m next hand (Part.Tells event) rest (whole options_last last at) at (λ options. refl) (λ h. h)
    (event_near event m.state)
    (λ h. ap (λ (options : ClientOptions). cond (has_response rest) options (options_noted rest options))
    (event_options event m.state))
on_move m next said last near other (Moves.sends {hand} {rest} {deed} free at close) =
    tail_on m next hand (Part.Sends deed) rest (whole options_last last at) at (λ options. refl) (λ h. h) (λ near. near)
    (λ h. refl)
on_move m next said last near other (Moves.updates {hand} free at is close) =
    still_on m next refl (λ near. near) (λ options. options_at options at) (λ h. fits_at at h)
on_move m next said last near other (Moves.notes {hand} {note} {rest} free at) =
    tail_on m next hand (Part.Notes note) rest (whole options_last last at) at (λ options. refl) (λ h. h)
    (λ near. sym (ap is_gone (same_noted note m.state)) ∙ near)
    (λ h. noted_same note m.state rest (whole options_last last at))
on_move m next said last near other (Moves.unfolds {hand} {choice} {rest} free at) =
    block_on m hand (Part.Unfolds choice) (chosen choice m.state hand) rest (chosen_none choice m.state hand)
    (chosen_is choice m.state hand).is refl refl at
on_move m next said last near other (Moves.queues {hand} free is) =
    still_on m next refl (λ near. near) (λ options. ap (λ (held : Option Hand). options_in held options) (sym is))
    (λ h. subst (λ (held : Option Hand). Fits held) is h)
on_move m next said last near other (Moves.asks {want = want} free room is are) =
    still_on m next refl (λ near. near) (asked_options_same want m.hand) (asked_fits want m.hand)
on_move m next said last near other (Moves.answers {question} {replied} is waits reply stays) =
    replied_on m (a_question question) replied
on_move m next said last near other (Moves.replies {effect} {replied} is flies reply stays) =
    replied_on m (an_effect effect) replied
on_move m next said last near other (Moves.loses late close why) = cc
on_move m next said last near other _ = still_on m next refl (λ near. near) (λ options. refl) (λ h. h)

lost_other : {m : Machine} {message : Message} {late : List TargetCommand} → Loses m message late
    → is_other (Some message) ≡ true
lost_other why = grind (arith, why)

noted_on : (messages : List Message) (m next : Machine) (said : Option Message) → Run messages m → Noted messages m
    → Moves m said next → Noted (with_said messages said) next
noted_on messages m next said r n moved =
    by_said (λ other. record {
      said = λ near. (on other near).said near;
      fits = λ near. (on other near).fits near;
    }) moved
  where
    on : is_other said ≡ true → is_gone next.state.phase ≡ false → Noted (with_said messages said) next
    on other near =
        onward messages m next said other (left_on m next said (tested once r) moved) n
        (on_move m next said (tested last_test r) near other moved)

    by_said : {next : Machine} {said : Option Message} → (is_other said ≡ true → Noted (with_said messages said) next)
        → Moves m said next → Noted (with_said messages said) next
    by_said others (Moves.responds {hand} {rest} {request} {outcome} free at is) =
        responded_on messages m hand rest request outcome (whole responds_once (tested once r) at)
        (whole options_last (tested last_test r) at) at is n
    by_said others (Moves.loses late near why) = others (lost_other why)
    by_said others _ = others refl

pub are_noted : (messages : List Message) (m : Machine) → Run messages m → is_gone m.state.phase ≡ false
    → AreOptions messages (without_response m) (options_in m.hand m.state.options)
are_noted messages m r near =
    (by_runs {Holds = Noted} (record {
      starts = record { said = λ near. AreOptions.none; fits = λ near. tt };
      moves = λ messages m next said before n moved after. noted_on messages m next said before n moved;
      queues = λ messages m hand queue before may n. record { said = n.said; fits = n.fits };
    }) r).said near
