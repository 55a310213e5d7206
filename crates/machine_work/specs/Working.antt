-- How much a machine can still do by itself: a measure that each act lessens but a wait and an end.
use Rattle.std.specs.Prelude.{ℕ, ◌+◌, ◌-◌, ◌*◌, Bool, true, false, List, [], ◌∷◌, length, Option, Some, None}
use Rattle.std.specs.List.{flat_map}
use Rattle.machine_work.specs.Names.{Act, Choice, Command, Decides, Functions, Item, Judges, Leaves, Lines, Lookup, Note}
use Rattle.machine_work.specs.Names.{Part, Sent, SetBreakpoints, SetFunctionBreakpoints, Stepped, Written, TellsNews}
use Rattle.machine_work.specs.Names.{a_composite, a_raw, a_request, breakpoint_hits, target_end}
use Rattle.machine_model.specs.Composites.{changes_in}
use Rattle.machine_model.specs.Replying.{unanswered}
use Rattle.machine_model.specs.State.{Hand, Machine, is_empty, is_flying}
use Rattle.wish_sets.specs.Entries.{all_entries}

-- a wait: the machine does nothing until something comes
abbrev pub is_wait : Act → Bool
is_wait Act.Waits = true
is_wait Act.Goes = false
is_wait (Act.Tells told) = false
is_wait Act.Greets = false
is_wait (Act.Sends effect) = false
is_wait (Act.Asks question) = false
is_wait (Act.Over finish) = false

-- the machine goes on: its act is neither a wait nor the session's end
abbrev pub is_work : Act → Bool
is_work Act.Waits = false
is_work Act.Goes = true
is_work (Act.Tells told) = true
is_work Act.Greets = true
is_work (Act.Sends effect) = true
is_work (Act.Asks question) = true
is_work (Act.Over finish) = false

-- What may be told -----------------------------------------------------------------------------------------------------

-- how many breakpoints a note lists, of a source or of functions
abbrev pub lines_noted : Note → ℕ
lines_noted (Lines key path entries) = length entries
lines_noted (Functions entries) = length entries
lines_noted _ = 0

abbrev pub lines_in_part : Part → ℕ
lines_in_part (Part.Notes note) = lines_noted note
lines_in_part _ = 0

abbrev pub lines_in : List Part → ℕ
lines_in [] = 0
lines_in (part ∷ parts) = lines_in_part part + lines_in parts

-- those that an item in hand lists, and the threads of which it tells
abbrev pub news_in_hand : Option Hand → ℕ
news_in_hand None = 0
news_in_hand (Some hand) = lines_in hand.parts + length (changes_in hand.item)

-- how many a request lists (DAP specification, SetBreakpoints and SetFunctionBreakpoints request)
abbrev pub lines_listed : Command → ℕ
lines_listed (SetBreakpoints arguments) = length arguments.breakpoints
lines_listed (SetFunctionBreakpoints arguments) = length arguments.breakpoints
lines_listed _ = 0

abbrev pub news_in_item : Item → ℕ
news_in_item (a_request request) = lines_listed request.command
news_in_item (a_composite at composite) = length (changes_in (a_composite at composite))
news_in_item (a_raw at body) = 0
news_in_item target_end = 0

abbrev pub news_waiting : List Item → ℕ
news_waiting [] = 0
news_waiting (item ∷ items) = news_in_item item + news_waiting items

-- How many breakpoints are listed, or are still to be written down, and of how many threads the client is
-- still to be told: no act of the machine makes them more, and no more news is told at once.
abbrev pub news_left : Machine → ℕ
news_left m =
    length (all_entries m.state.wishes.wanted) + (news_in_hand m.hand + news_waiting m.waiting)

-- What is left to do --------------------------------------------------------------------------------------------------

-- a choice weighs more than what it becomes, a decision by the texts that are told before it
abbrev pub choice_weight : ℕ → Choice → ℕ
choice_weight most (TellsNews below) = 10 + most
choice_weight most Judges = 30
choice_weight most (Decides logged stops) = 20 + 2 * length logged
choice_weight most Stepped = 10
choice_weight most (Written seen) = 5
choice_weight most (Leaves exits) = 10

-- a look-up weighs more than what it becomes: that of hits a decision
abbrev pub lookup_weight : Lookup → ℕ
lookup_weight (breakpoint_hits strikes) = 25
lookup_weight _ = 10

-- a part weighs more than those that it may become, where there is at most so much news
abbrev pub weight : ℕ → Part → ℕ
weight most (Part.Looks lookup) = lookup_weight lookup
weight most (Part.Unfolds choice) = choice_weight most choice
weight most (Part.Responds outcome) = 1
weight most (Part.Tells event) = 1
weight most (Part.Sends deed) = 1
weight most (Part.Awaits guard) = 1
weight most Part.Updates = 1
weight most (Part.Notes note) = 1
weight most (Part.Ends finish) = 1

-- what the parts of a list weigh
abbrev pub weights : ℕ → List Part → ℕ
weights most [] = 0
weights most (part ∷ parts) = weight most part + weights most parts

-- one where this holds
abbrev pub one_if : Bool → ℕ
one_if true = 1
one_if false = 0

-- one where this does not hold
abbrev pub one_unless : Bool → ℕ
one_unless true = 0
one_unless false = 1

-- how many questions more could be asked at once
abbrev pub free_places : List Sent → ℕ
free_places asked = 16 - length (flat_map unanswered asked)

-- what an item in hand can still do
abbrev pub hand_work : ℕ → Option Hand → ℕ
hand_work most None = 0
hand_work most (Some hand) =
    1 + (weights most hand.parts + (one_unless (is_flying hand.effect) + (one_if (is_empty hand.queue)
    + 2 * free_places hand.asked)))

-- each item that waits counts for more than it can do once it is begun
abbrev pub waiting_work : ℕ → List Item → ℕ
waiting_work most [] = 0
waiting_work most (item ∷ items) = 100 + (most + waiting_work most items)

-- what a machine can still do, where there is at most so much news
abbrev pub work_of : ℕ → Machine → ℕ
work_of most m =
    waiting_work most m.waiting + (hand_work most m.hand + one_unless m.state.greeting_sent)

-- what the whole machine can still do
abbrev pub work : Machine → ℕ
work m = work_of (news_left m) m
