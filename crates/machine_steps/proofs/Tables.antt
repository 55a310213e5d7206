-- What the tables' lists of parts pass: the one place that a new request, note, choice or look-up is added to.
use Rattle.std.proofs.Common.{◌≡◌, ℕ, Bool, true, false, cond, not, ◌||◌, List, [], ◌∷◌, ◌++◌, Option, refl, arith}
use Rattle.std.proofs.Common.{Some, None, ◌∙◌}
use Rattle.machine_model.specs.Lookups.{finished, lookup_responds}
use Rattle.machine_steps.specs.Names.{Attached, Choice, Classes, Command, Decides, EntryHeld, Failure, Finding}
use Rattle.machine_steps.specs.Names.{Initialized, Item, Leaves, Lines, Lookup, News, Note, Part, Phase, Resume}
use Rattle.machine_steps.specs.Names.{Stopping, TellsNews, Terminated, a_raw, a_request, a_stop, by_step, came_to}
use Rattle.machine_steps.specs.Names.{class_facts, exception_text, has_stepped, of_composite, some_news, threw}
use Rattle.machine_steps.specs.Names.{Functions, Halt, HaltCause, Hit, Judges, Logged, Steps, StopsAt, Strike, ThreadId}
use Rattle.machine_steps.specs.Names.{Throws, Thrown, breakpoint_hits}
use Rattle.jdwp_values.specs.declared.id.ObjectId.{ObjectId}
use Rattle.machine_model.specs.Plans.{Result}
use Rattle.machine_model.specs.Rows.{choice_responds, chosen, each_told, failure_of, gone_parts, has_response, news_of}
use Rattle.machine_model.specs.Rows.{is_response, told_in, parts_by, parts_of, request_parts, row_of, wanting}
use Rattle.machine_model.specs.State.{Hand, State, is_attached, is_gone}
use Rattle.machine_model.specs.Stops.{decided, decided_by, events_in, hit_parts, hits_in, holds_entry, judged}
use Rattle.machine_model.specs.Stops.{logged_first, stop_among, stopping_at, strikes_in, surplus, thrown_in, told_part}
use Rattle.machine_model.specs.Knowing.{is_last}
use Rattle.machine_model.proofs.Bools.{first_holds}
use Rattle.machine_steps.proofs.Testing.{IsTest, gone_behind}

-- Tests of parts ------------------------------------------------------------------------------------------------------

-- both hold, or neither
abbrev pub same : Bool → Bool → Bool
same true other = other
same false other = not other

-- a note that can be made without the target
abbrev pub is_free_note : Note → Bool
is_free_note EntryHeld = false
is_free_note _ = true

-- the part doesn't need the target
abbrev pub is_free : Part → Bool
is_free (Part.Responds outcome) = true
is_free (Part.Tells Terminated) = true
is_free (Part.Notes note) = is_free_note note
is_free (Part.Ends finish) = true
is_free (Part.Unfolds (Leaves exits)) = true
is_free _ = false

-- it sets what is wished
abbrev pub is_updates : Part → Bool
is_updates Part.Updates = true
is_updates _ = false

-- it attaches the session
abbrev pub attaches : Part → Bool
attaches (Part.Tells Initialized) = true
attaches _ = false

-- it changes what is wanted, or becomes what does
abbrev pub rewants : Part → Bool
rewants (Part.Notes (Lines key path entries)) = true
rewants (Part.Notes (Functions entries)) = true
rewants (Part.Notes (StopsAt caught uncaught)) = true
rewants (Part.Notes (Steps step)) = true
rewants (Part.Notes (Classes classes)) = true
rewants (Part.Looks class_facts) = true
rewants _ = false

-- Tests of lists ------------------------------------------------------------------------------------------------------

-- in a target that is gone, nothing needs the target
abbrev pub free_once : Bool → List Part → Bool
free_once gone [] = true
free_once gone (part ∷ parts) = cond (cond gone (is_free part) true) (free_once (gone_behind part gone) parts) false

-- there is no second response
abbrev pub once_in : List Part → Bool
once_in [] = true
once_in (part ∷ parts) = cond (is_response part) (not (has_response parts)) (once_in parts)

abbrev pub starts_updates : List Part → Bool
starts_updates [] = false
starts_updates (part ∷ parts) = is_updates part

-- `updates` stands behind each part that changes what is wanted
abbrev pub are_followed : List Part → Bool
are_followed [] = true
are_followed (part ∷ parts) = cond (cond (rewants part) (starts_updates parts) true) (are_followed parts) false

abbrev pub has_updates : List Part → Bool
has_updates [] = false
has_updates (part ∷ parts) = is_updates part || has_updates parts

abbrev pub has_attach : List Part → Bool
has_attach [] = false
has_attach (part ∷ parts) = attaches part || has_attach parts

-- a request's parts: one response; and attaching stands behind the setting of what is wished
abbrev pub is_row : List Part → Bool
is_row parts =
    cond (has_response parts) (cond (once_in parts) (cond (has_attach parts) (has_updates parts) true) false) false

-- parts that stand in any place: they turn no phase
abbrev pub is_plain : Part → Bool
is_plain part = cond (attaches part) false (not (is_last part))

abbrev pub are_plain : List Part → Bool
are_plain [] = true
are_plain (part ∷ parts) = cond (is_plain part) (are_plain parts) false

-- what a part becomes: a response where it is to bring one
abbrev pub is_block : Bool → List Part → Bool
is_block responds parts =
    cond (once_in parts) (cond (same (has_response parts) responds) (are_plain parts) false) false

-- The tables ----------------------------------------------------------------------------------------------------------

pub row_sound : (failure : Option Failure) (command : Command) (state : State) → is_row (parts_by failure (row_of command state)) ≡ true
row_sound failure command state = grind arith

-- what holds of each decision on a suspension
pub of_decided : (P : List Part → Type 0) → P [] → P (Part.Notes EntryHeld ∷ [])
    → P (Part.Sends (Resume of_composite) ∷ [])
    → ((stopped : Bool) (thrown : List Thrown) (stops : List Strike) (halt : Halt) → P (hit_parts stopped thrown stops halt))
    → ((text : List ℕ) (texts : List (List ℕ)) (stops : List Strike)
    → P (Part.Tells (Logged text) ∷ Part.Unfolds (Decides texts stops) ∷ []))
    → (state : State) (logged : List (List ℕ)) (stops : List Strike) (item : Item) → P (decided state logged stops item)
of_decided P none holds resumes stop logs state logged stops item = by_phase (is_attached state.phase) logged
  where
    by_halt : (stopped held : Bool) (thrown : List Thrown) (halt : Option Halt)
        → P (decided_by stopped held thrown stops halt)
    by_halt stopped true thrown None = holds
    by_halt stopped false thrown None = resumes
    by_halt stopped held thrown (Some halt) = stop stopped thrown stops halt

    by_phase : (attached : Bool) (logged : List (List ℕ))
        → P (cond attached (logged_first state logged stops (events_in item)) [])
    by_phase false logged = none
    by_phase true [] = by_halt state.stopped (holds_entry state (events_in item))
        (thrown_in state.wishes (events_in item)) (stop_among stops (hits_in state.wishes (events_in item)))
    by_phase true (text ∷ texts) = logs text texts stops

-- what holds of each composite that is judged
pub of_judged : (P : List Part → Type 0) → P [] → ((strikes : List Strike) → P (Part.Looks (breakpoint_hits strikes) ∷ []))
    → (state : State) (item : Item) → P (judged state item)
of_judged P none looks state item = by_phase (is_attached state.phase)
  where
    by_phase : (attached : Bool)
        → P (cond attached (Part.Looks (breakpoint_hits (strikes_in state.wishes (events_in item))) ∷ []) [])
    by_phase false = none
    by_phase true = looks (strikes_in state.wishes (events_in item))

-- what holds of each part that tells of a stop
pub of_told : (P : Part → Type 0) → ((stopping : Stopping) → P (Part.Tells (a_stop stopping)))
    → ((thread : ThreadId) (object : ObjectId) → P (Part.Looks (exception_text thread object))) → (stops : List Strike)
    (halt : Halt) → P (told_part stops halt.cause halt.thread)
of_told P tells looks stops halt = by_cause halt.cause
  where
    by_cause : (cause : HaltCause) → P (told_part stops cause halt.thread)
    by_cause (came_to at) = tells (record { cause = Hit (stopping_at at stops); thread = halt.thread })
    by_cause (threw object) = looks halt.thread object
    by_cause has_stepped = tells (record { cause = by_step; thread = halt.thread })

-- and it changes nothing to what its parts change nothing to
pub decided_alike : {A : Type 0} (f : List Part → A)
    → ((thrown : List Thrown) (parts : List Part)
    → f (Part.Notes (Throws thrown) ∷ Part.Notes (Steps None) ∷ Part.Updates ∷ parts) ≡ f parts)
    → ((stopping : Stopping) (parts : List Part) → f (Part.Tells (a_stop stopping) ∷ parts) ≡ f parts)
    → ((thread : ThreadId) (object : ObjectId) (parts : List Part)
    → f (Part.Looks (exception_text thread object) ∷ parts) ≡ f parts)
    → ((parts : List Part) → f (Part.Sends (Resume of_composite) ∷ parts) ≡ f parts)
    → ((parts : List Part) → f (Part.Notes EntryHeld ∷ parts) ≡ f parts)
    → ((text : List ℕ) (texts : List (List ℕ)) (strikes : List Strike) (parts : List Part)
    → f (Part.Tells (Logged text) ∷ Part.Unfolds (Decides texts strikes) ∷ parts) ≡ f parts)
    → (state : State) (logged : List (List ℕ)) (strikes : List Strike) (item : Item) (rest : List Part)
    → f (decided state logged strikes item ++ rest) ≡ f rest
decided_alike f clears stops looks resumes holds logs state logged strikes item rest =
    of_decided (λ (parts : List Part). f (parts ++ rest) ≡ f rest) refl (holds rest) (resumes rest)
    (λ stopped thrown strikes halt. clears thrown (told_part strikes halt.cause halt.thread ∷ surplus stopped ++ rest)
    ∙ of_told (λ (part : Part). f (part ∷ surplus stopped ++ rest) ≡ f (surplus stopped ++ rest))
    (λ stopping. stops stopping (surplus stopped ++ rest)) (λ thread object. looks thread object (surplus stopped ++ rest))
    strikes halt ∙ by_surplus stopped) (λ text texts strikes. logs text texts strikes rest) state logged strikes item
  where
    by_surplus : (stopped : Bool) → f (surplus stopped ++ rest) ≡ f rest
    by_surplus false = refl
    by_surplus true = resumes rest

-- and judging changes nothing to what its look-up changes nothing to
pub judged_alike : {A : Type 0} (f : List Part → A)
    → ((strikes : List Strike) (parts : List Part) → f (Part.Looks (breakpoint_hits strikes) ∷ parts) ≡ f parts)
    → (state : State) (item : Item) (rest : List Part) → f (judged state item ++ rest) ≡ f rest
judged_alike f looks state item rest =
    of_judged (λ (parts : List Part). f (parts ++ rest) ≡ f rest) refl (λ strikes. looks strikes rest) state item

told_plain : (news : List News) → are_plain (each_told news) ≡ true
told_plain [] = refl
told_plain (one ∷ news) = told_plain news

told_silent : (news : List News) → has_response (each_told news) ≡ false
told_silent [] = refl
told_silent (one ∷ news) = told_silent news

told_once : (news : List News) → once_in (each_told news) ≡ true
told_once [] = refl
told_once (one ∷ news) = told_once news

pub chosen_block : (choice : Choice) (state : State) (hand : Hand)
    → is_block (choice_responds choice) (chosen choice state hand) ≡ true
chosen_block (TellsNews below) state hand =
    by_phase state.phase (news_of below state hand.item)
  where
    by_phase : (phase : Phase) (news : List News) → is_block false (told_in phase news) ≡ true
    by_phase Attached news = rw (told_once news, told_silent news) (told_plain news)
    by_phase _ news = refl
chosen_block Judges state hand =
    of_judged (λ (parts : List Part). is_block false parts ≡ true) refl (λ strikes. refl) state hand.item
chosen_block (Decides logged stops) state hand =
    of_decided (λ (parts : List Part). is_block false parts ≡ true) refl refl refl
    (λ stopped thrown stops halt. grind arith) (λ text texts stops. refl) state logged stops hand.item
chosen_block _ state hand = grind arith

pub finished_block : (lookup : Lookup) (result : Result Finding) (state : State)
    → is_block (lookup_responds lookup) (finished lookup result state) ≡ true
finished_block lookup result state = grind arith

row_near : (failure : Option Failure) (command : Command) (state : State) → free_once false (parts_by failure (row_of command state)) ≡ true
row_near failure command state = grind arith

row_gone : (state : State) (command : Command) → is_gone state.phase ≡ true
    → free_once true (request_parts command state) ≡ true
row_gone state command is = grind (arith, is)

pub row_free : (state : State) (command : Command) (gone : Bool) → is_gone state.phase ≡ gone
    → free_once gone (request_parts command state) ≡ true
row_free state command true is = row_gone state command is
row_free state command false is = row_near (failure_of (wanting command) state) command state

pub gone_free : (responds : Bool) (item : Item) → free_once true (gone_parts responds item) ≡ true
gone_free responds item = grind arith

pub gone_once : (responds : Bool) (item : Item) → once_in (gone_parts responds item) ≡ true
gone_once responds item = grind arith

-- What the tests say --------------------------------------------------------------------------------------------------

pub record IsBlock (responds : Bool) (parts : List Part) : Type 0 where
  pub once : once_in parts ≡ true
  pub is : has_response parts ≡ responds
  pub plain : are_plain parts ≡ true

block_facts : (responds : Bool) (parts : List Part) → is_block responds parts ≡ true → IsBlock responds parts
block_facts responds parts h = record { once = grind arith; is = grind arith; plain = grind arith }

pub chosen_is : (choice : Choice) (state : State) (hand : Hand)
    → IsBlock (choice_responds choice) (chosen choice state hand)
chosen_is choice state hand =
    block_facts (choice_responds choice) (chosen choice state hand) (chosen_block choice state hand)

pub finished_is : (lookup : Lookup) (result : Result Finding) (state : State)
    → IsBlock (lookup_responds lookup) (finished lookup result state)
finished_is lookup result state =
    block_facts (lookup_responds lookup) (finished lookup result state) (finished_block lookup result state)

pub record IsRow (parts : List Part) : Type 0 where
  pub responds : has_response parts ≡ true
  pub once : once_in parts ≡ true
  pub attaches : cond (has_attach parts) (has_updates parts) true ≡ true

row_facts : (parts : List Part) → is_row parts ≡ true → IsRow parts
row_facts parts is = record { responds = grind arith; once = grind arith; attaches = grind arith }

pub row_is : (failure : Option Failure) (command : Command) (state : State) → IsRow (parts_by failure (row_of command state))
row_is failure command state = row_facts (parts_by failure (row_of command state)) (row_sound failure command state)

-- Lists that are joined -----------------------------------------------------------------------------------------------

-- breakpoints that are told change nothing to what their parts change nothing to
pub told_alike : {A : Type 0} (f : List Part → A)
    → ((news : News) (parts : List Part) → f (Part.Tells (some_news news) ∷ parts) ≡ f parts)
    → (phase : Phase) (news : List News) (rest : List Part) → f (told_in phase news ++ rest) ≡ f rest
told_alike f each Attached (one ∷ news) rest =
    each one (each_told news ++ rest) ∙ told_alike f each Attached news rest
told_alike f each _ _ rest = refl

pub has_joined : (parts rest : List Part) → has_response (parts ++ rest) ≡ (has_response parts || has_response rest)
has_joined [] rest = refl
has_joined (part ∷ parts) rest = grind (arith, has_joined parts rest)

none_is_once : (parts : List Part) → has_response parts ≡ false → once_in parts ≡ true
none_is_once [] is = refl
none_is_once (part ∷ parts) is = grind (arith, none_is_once parts)

-- a part that becomes a block
block_once : (first : Part) (responds : Bool) (parts rest : List Part) → once_in parts ≡ true
    → has_response parts ≡ responds → is_response first ≡ responds → once_in (first ∷ rest) ≡ true
    → once_in (parts ++ rest) ≡ true
block_once first responds [] rest once is was h = grind (arith, none_is_once rest)
block_once first responds (part ∷ parts) rest once is was h =
    grind (arith, block_once first responds parts rest, has_joined parts rest, none_is_once rest)

once_tail : (part : Part) (rest : List Part) → once_in (part ∷ rest) ≡ true → once_in rest ≡ true
once_tail part rest is = grind (arith, none_is_once rest)

free_joined : (gone : Bool) (parts rest : List Part) → are_plain parts ≡ true → free_once gone parts ≡ true
    → free_once gone rest ≡ true → free_once gone (parts ++ rest) ≡ true
free_joined gone [] rest is free h = h
free_joined gone (part ∷ parts) rest is free h = grind (arith, free_joined gone parts rest)

plain_free : (parts : List Part) → are_plain parts ≡ true → free_once false parts ≡ true
plain_free [] is = refl
plain_free (part ∷ parts) is = grind (arith, plain_free parts)

pub plain_attach : (parts rest : List Part) → are_plain parts ≡ true → has_attach (parts ++ rest) ≡ has_attach rest
plain_attach [] rest is = refl
plain_attach (part ∷ parts) rest is = grind (arith, plain_attach parts rest)

-- The tests that each law uses ----------------------------------------------------------------------------------------

abbrev pub responds_once : Bool → List Part → Bool
responds_once gone parts = once_in parts

once_begun : (state : State) (item : Item) → once_in (parts_of state item) ≡ true
once_begun state (a_request request) = (row_is (failure_of (wanting request.command) state) request.command state).once
once_begun state (a_raw at body) = refl
once_begun state _ = grind arith

pub once : IsTest responds_once
once = record {
  none = λ gone. refl;
  tail = λ gone part rest is. once_tail part rest is;
  begins = once_begun;
  unfolds = λ choice state hand rest is. let b = chosen_is choice state hand in
      block_once (Part.Unfolds choice) (choice_responds choice) (chosen choice state hand) rest b.once b.is refl is;
  finds = λ lookup result state rest is. let b = finished_is lookup result state in
      block_once (Part.Looks lookup) (lookup_responds lookup) (finished lookup result state) rest b.once b.is refl is;
  gives_up = gone_once;
}

free_begun : (state : State) (item : Item) → free_once (is_gone state.phase) (parts_of state item) ≡ true
free_begun state (a_request request) = row_free state request.command (is_gone state.phase) refl
free_begun state (a_raw at body) = refl
free_begun state _ = grind arith

front_free : (gone : Bool) (part : Part) (rest : List Part) → free_once gone (part ∷ rest) ≡ true
    → cond gone (is_free part) true ≡ true
front_free gone part rest is = first_holds (cond gone (is_free part) true) _ is

chosen_free : (choice : Choice) (state : State) (hand : Hand) (gone : Bool) → is_gone state.phase ≡ gone
    → cond gone (is_free (Part.Unfolds choice)) true ≡ true → free_once gone (chosen choice state hand) ≡ true
chosen_free choice state hand true is free = grind (arith, is, free)
chosen_free choice state hand false is free = plain_free (chosen choice state hand) (chosen_is choice state hand).plain

free_tail : (gone : Bool) (part : Part) (rest : List Part) → free_once gone (part ∷ rest) ≡ true
    → free_once (gone_behind part gone) rest ≡ true
free_tail gone part rest is = grind (arith, is)

same_gone : (gone : Bool) (choice : Choice) (rest : List Part) → free_once gone (Part.Unfolds choice ∷ rest) ≡ true
    → free_once gone rest ≡ true
same_gone gone choice rest is = free_tail gone (Part.Unfolds choice) rest is

-- a look-up stands only where the target isn't gone
found_free : (gone : Bool) (lookup : Lookup) (parts rest : List Part) → are_plain parts ≡ true
    → free_once gone (Part.Looks lookup ∷ rest) ≡ true → free_once gone (parts ++ rest) ≡ true
found_free true lookup parts rest is h = cc
found_free false lookup parts rest is h =
    free_joined false parts rest is (plain_free parts is) (free_tail false (Part.Looks lookup) rest h)

pub free : IsTest free_once
free = record {
  none = λ gone. refl;
  tail = free_tail;
  begins = free_begun;
  unfolds = λ choice state hand rest is.
      free_joined (is_gone state.phase) (chosen choice state hand) rest (chosen_is choice state hand).plain
      (chosen_free choice state hand (is_gone state.phase) refl (front_free (is_gone state.phase) (Part.Unfolds choice) rest is))
      (same_gone (is_gone state.phase) choice rest is);
  finds = λ lookup result state rest is.
      found_free (is_gone state.phase) lookup (finished lookup result state) rest
      (finished_is lookup result state).plain is;
  gives_up = gone_free;
}

-- behind the word that nothing more comes of the target there is no response
abbrev pub last_silent : List Part → Bool
last_silent [] = true
last_silent (part ∷ parts) = cond (cond (is_last part) (not (has_response parts)) true) (last_silent parts) false

abbrev pub silent_last : Bool → List Part → Bool
silent_last gone parts = last_silent parts

row_silent : (failure : Option Failure) (command : Command) (state : State) → last_silent (parts_by failure (row_of command state)) ≡ true
row_silent failure command state = grind arith

silent_begun : (state : State) (item : Item) → last_silent (parts_of state item) ≡ true
silent_begun state (a_request request) = row_silent (failure_of (wanting request.command) state) request.command state
silent_begun state (a_raw at body) = refl
silent_begun state _ = grind arith

silent_tail : (part : Part) (rest : List Part) → last_silent (part ∷ rest) ≡ true → last_silent rest ≡ true
silent_tail part rest is = grind (arith, is)

silent_joined : (parts rest : List Part) → are_plain parts ≡ true → last_silent rest ≡ true
    → last_silent (parts ++ rest) ≡ true
silent_joined [] rest is h = h
silent_joined (part ∷ parts) rest is h = grind (arith, silent_joined parts rest, is, h)

gone_silent : (responds : Bool) (item : Item) → last_silent (gone_parts responds item) ≡ true
gone_silent responds item = grind arith

pub silent_test : IsTest silent_last
silent_test = record {
  none = λ gone. refl;
  tail = λ gone part rest is. silent_tail part rest is;
  begins = silent_begun;
  unfolds = λ choice state hand rest is.
      silent_joined (chosen choice state hand) rest (chosen_is choice state hand).plain (silent_tail
      (Part.Unfolds choice) rest is);
  finds = λ lookup result state rest is.
      silent_joined (finished lookup result state) rest (finished_is lookup result state).plain
      (silent_tail (Part.Looks lookup) rest is);
  gives_up = gone_silent;
}

abbrev pub followed : Bool → List Part → Bool
followed gone parts = are_followed parts

row_followed : (failure : Option Failure) (command : Command) (state : State)
    → are_followed (parts_by failure (row_of command state)) ≡ true
row_followed failure command state = grind arith

followed_begun : (state : State) (item : Item) → are_followed (parts_of state item) ≡ true
followed_begun state (a_request request) =
    row_followed (failure_of (wanting request.command) state) request.command state
followed_begun state (a_raw at body) = refl
followed_begun state _ = grind arith

followed_chosen : (choice : Choice) (state : State) (hand : Hand) (rest : List Part) → are_followed rest ≡ true
    → are_followed (chosen choice state hand ++ rest) ≡ true
followed_chosen (TellsNews below) state hand rest is =
    told_alike are_followed (λ news parts. refl) state.phase (news_of below state hand.item) rest ∙ is
followed_chosen Judges state hand rest is =
    judged_alike are_followed (λ strikes parts. refl) state hand.item rest ∙ is
followed_chosen (Decides logged stops) state hand rest is =
    decided_alike are_followed (λ thrown parts. refl) (λ stopping parts. refl) (λ thread object parts. refl)
    (λ parts. refl) (λ parts. refl) (λ text texts strikes parts. refl) state logged stops hand.item rest ∙ is
followed_chosen _ state hand rest is = grind (arith, is)

pub followed_test : IsTest followed
followed_test = record {
  none = λ gone. refl;
  tail = λ gone part rest is. grind (arith, is);
  begins = followed_begun;
  unfolds = followed_chosen;
  finds = λ lookup result state rest is. grind (arith, is);
  gives_up = λ responds item. grind arith;
}

-- in a target that is gone nothing attaches the session
pub none_attaches : (parts : List Part) → free_once true parts ≡ true → has_attach parts ≡ false
none_attaches [] is = refl
none_attaches (part ∷ parts) is = grind (arith, is, none_attaches parts)

-- what brings the response by a choice needs the target
pub choice_near : (choice : Choice) → choice_responds choice ≡ true → is_free (Part.Unfolds choice) ≡ false
choice_near choice is = grind (arith, is)
