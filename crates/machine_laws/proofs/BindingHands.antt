-- What the item in hand may ask of classes, and where it is changed what is wished in them.
use Rattle.std.proofs.Common.{◌≡◌, Bool, true, false, cond, not, ◌||◌, List, [], ◌∷◌, Option, Some, None, refl, sym, ap}
use Rattle.std.proofs.Common.{◌∙◌, arith, ◌++◌, ℕ}
use Rattle.std.specs.List.{AllByRecursion as All}
use Rattle.class_tables.specs.Facts.{Known}
use Rattle.class_tables.specs.Lookups.{found_in}
use Rattle.jdwp_values.specs.declared.id.ClassId.{ClassId}
use Rattle.machine_model.specs.Facts.{fact_known}
use Rattle.machine_model.specs.Plans.{asks_for, question_of}
use Rattle.machine_model.specs.Replying.{filled, waits_for, is_waiting}
use Rattle.machine_model.specs.Rows.{chosen, failure_of, news_of, parts_by, parts_of, refused_with, row_of, stepped_by}
use Rattle.machine_model.specs.Rows.{told_in, wanting}
use Rattle.machine_model.specs.State.{Hand, State, has_waiting, is_empty, is_none, is_some}
use Rattle.machine_model.specs.Stops.{surplus}
use Rattle.machine_model.proofs.KeyLaws.{is_one}
use Rattle.machine_model.proofs.Bools.{never, or_more}
use Rattle.machine_steps.specs.Names.{Attached, Choice, Classes, Command, Decides, Failure, Item, Lines, News, Part}
use Rattle.machine_steps.specs.Names.{Phase, Question, Replied, Sent, TellsNews, Want, a_raw, a_request, class_facts}
use Rattle.machine_steps.specs.Names.{Functions, Stepped, Steps, Throws}
use Rattle.machine_laws.proofs.BindingGrows.{Grows, one_learnt, still_learnt}
use Rattle.machine_laws.proofs.BindingPlans.{IsLearnt, is_fact, is_listing}
use Rattle.machine_steps.proofs.Tables.{is_updates, of_decided, of_told, told_alike}
use Rattle.machine_steps.proofs.Testing.{IsTest}
use Rattle.std.proofs.lemmas.Bool.{or_right}

-- Parts ---------------------------------------------------------------------------------------------------------------

-- it looks classes up
abbrev pub looks_classes : Part → Bool
looks_classes (Part.Looks class_facts) = true
looks_classes _ = false

-- it makes classes known
abbrev pub notes_classes : Part → Bool
notes_classes (Part.Notes (Classes classes)) = true
notes_classes _ = false

-- it replaces a list, of a source or of functions
abbrev pub notes_list : Part → Bool
notes_list (Part.Notes (Lines key path entries)) = true
notes_list (Part.Notes (Functions entries)) = true
notes_list _ = false

abbrev pub looks_first : List Part → Bool
looks_first [] = false
looks_first (part ∷ parts) = looks_classes part

abbrev pub looks_ahead : List Part → Bool
looks_ahead [] = false
looks_ahead (part ∷ parts) = looks_classes part || looks_ahead parts

abbrev pub has_note : List Part → Bool
has_note [] = false
has_note (part ∷ parts) = notes_classes part || has_note parts

-- classes are still to be looked up, or made known
abbrev pub binds_ahead : List Part → Bool
binds_ahead [] = false
binds_ahead (part ∷ parts) = cond (looks_classes part) true (notes_classes part || binds_ahead parts)

-- the classes that are made known next
abbrev pub first_note : List Part → Option (List ClassId)
first_note (Part.Notes (Classes classes) ∷ parts) = Some classes
first_note _ = None

-- all watches that are wished have to be set by now: but for those of a list that was replaced, before `updates`
abbrev pub needs_watches : List Part → Bool
needs_watches [] = true
needs_watches (part ∷ parts) = cond (looks_classes part) true
    (cond (is_updates part) (not (looks_ahead parts)) (cond (notes_list part) false (needs_watches parts)))

-- Behind a list stand `updates` and a look-up of classes, which stands once; and classes are made known in front alone.
abbrev pub is_placed : List Part → Bool
is_placed [] = true
is_placed (part ∷ parts) =
    cond (cond (notes_list part) (cond (needs_watches parts) false (binds_ahead parts)) true)
    (cond (cond (looks_classes part) (looks_ahead parts) false) false (cond (has_note parts) false (is_placed parts)))
    false

abbrev pub placed : Bool → List Part → Bool
placed gone parts = is_placed parts

row_placed : (failure : Option Failure) (command : Command) (state : State)
    → is_placed (parts_by failure (row_of command state)) ≡ true
row_placed failure command state = grind arith

placed_begun : (state : State) (item : Item) → is_placed (parts_of state item) ≡ true
placed_begun state (a_request request) = row_placed (failure_of (wanting request.command) state) request.command state
placed_begun state (a_raw at body) = refl
placed_begun state _ = grind arith

pub placed_rest : (choice : Choice) (rest : List Part) → is_placed (Part.Unfolds choice ∷ rest) ≡ true
    → is_placed rest ≡ true
placed_rest choice rest is = grind (arith, is)

none_behind : (choice : Choice) (rest : List Part) → is_placed (Part.Unfolds choice ∷ rest) ≡ true
    → has_note rest ≡ false
none_behind choice rest is = grind (arith, is)

placed_surplus : (stopped : Bool) (rest : List Part) → has_note rest ≡ false → is_placed rest ≡ true
    → (has_note (surplus stopped ++ rest) ≡ false) × (is_placed (surplus stopped ++ rest) ≡ true)
placed_surplus false rest none is = (none, is)
placed_surplus true rest none is = (none, rw none is)

placed_chosen : (choice : Choice) (state : State) (hand : Hand) (rest : List Part) → has_note rest ≡ false
    → is_placed rest ≡ true → is_placed (chosen choice state hand ++ rest) ≡ true
placed_chosen (TellsNews below) state hand rest none is =
    by_news state.phase (news_of below state hand.item)
  where
    by_news : (phase : Phase) (news : List News) → is_placed (told_in phase news ++ rest) ≡ true
    by_news Attached (one ∷ news) =
        rw (told_alike has_note (λ news parts. refl) Attached news rest ∙ none) (by_news Attached news)
    by_news _ _ = is
placed_chosen (Decides logged stops) state hand rest none is =
    of_decided (λ (parts : List Part). is_placed (parts ++ rest) ≡ true) is (rw none is) (rw none is)
    (λ stopped thrown stops halt. let (no_note, are_placed) = placed_surplus stopped rest none is in
    of_told (λ (part : Part). is_placed (Part.Notes (Throws thrown) ∷ Part.Notes (Steps None) ∷ Part.Updates ∷ part
    ∷ surplus stopped ++ rest) ≡ true) (λ stopping. rw no_note are_placed) (λ thread object. rw no_note are_placed)
    stops halt) (λ text texts stops. rw none is) state logged stops hand.item
placed_chosen Stepped state hand rest none is = by_code (refused_with hand.effect)
  where
    by_code : (code : Option ℕ) → is_placed (stepped_by code ++ rest) ≡ true
    by_code code = grind arith
placed_chosen _ state hand rest none is = grind (arith, is)

pub placed_test : IsTest placed
placed_test = record {
  none = λ gone. refl;
  tail = λ gone part rest is. grind (arith, is);
  begins = placed_begun;
  unfolds = λ choice state hand rest is. placed_chosen choice state hand rest (none_behind choice rest is)
      (placed_rest choice rest is);
  finds = λ lookup result state rest is. grind (arith, is);
  gives_up = λ responds item. grind arith;
}

row_noted : (failure : Option Failure) (command : Command) (state : State)
    → first_note (parts_by failure (row_of command state)) ≡ None
row_noted failure command state = grind arith

-- no item begins with classes
pub begun_noted : (state : State) (item : Item) → first_note (parts_of state item) ≡ None
begun_noted state (a_request request) = row_noted (failure_of (wanting request.command) state) request.command state
begun_noted state (a_raw at body) = refl
begun_noted state _ = grind arith

-- where nothing is looked up any more all watches have to be set by now
pub needs_none : (parts : List Part) → is_placed parts ≡ true → looks_ahead parts ≡ false → needs_watches parts ≡ true
needs_none [] is none = refl
needs_none (part ∷ parts) is none = grind (arith, is, none, needs_none parts, binds_later parts)
  where
    binds_later : (parts : List Part) → has_note parts ≡ false → binds_ahead parts ≡ looks_ahead parts
    binds_later [] none = refl
    binds_later (part ∷ parts) none = grind (arith, none, binds_later parts)

-- Questions -----------------------------------------------------------------------------------------------------------

-- a list of all classes was asked for, awaits its reply, or is to be asked for
abbrev pub asks_listing : List Sent → Bool
asks_listing [] = false
asks_listing (sent ∷ asked) = is_listing (question_of sent.want) || asks_listing asked

abbrev pub awaits_listing : List Sent → Bool
awaits_listing [] = false
awaits_listing (sent ∷ asked) =
    cond (is_none sent.reply) (is_listing (question_of sent.want)) false || awaits_listing asked

abbrev pub queues_listing : List Want → Bool
queues_listing [] = false
queues_listing (want ∷ wants) = is_listing (question_of want) || queues_listing wants

-- all classes were listed by a reply
abbrev pub was_listed : List Sent → Bool
was_listed [] = false
was_listed (sent ∷ asked) =
    cond (is_some sent.reply) (is_listing (question_of sent.want)) false || was_listed asked

pub none_awaits : (asked : List Sent) → has_waiting asked ≡ false → awaits_listing asked ≡ false
none_awaits [] is = refl
none_awaits (sent ∷ asked) is = grind (arith, is, none_awaits asked)

pub none_queued : (wants : List Want) → is_empty wants ≡ true → queues_listing wants ≡ false
none_queued wants is = grind (arith, is)

-- what was listed was asked for
pub listed_asks : (asked : List Sent) → was_listed asked ≡ true → asks_listing asked ≡ true
listed_asks [] is = cc
listed_asks (sent ∷ asked) is = grind (arith, is, listed_asks asked)

-- a list that is waited for is awaited
pub awaited_is : (asked : List Sent) (question : Question) → is_waiting question asked ≡ true
    → is_listing question ≡ true → awaits_listing asked ≡ true
awaited_is [] question waits lists = cc
awaited_is (sent ∷ asked) question waits lists =
    by_tests (is_none sent.reply) (asks_for sent question) refl waits (awaited_is asked question)
  where
    by_tests : (none asks : Bool) → asks_for sent question ≡ asks
        → (cond none asks false || is_waiting question asked) ≡ true
        → (is_waiting question asked ≡ true → is_listing question ≡ true → awaits_listing asked ≡ true)
        → (cond none (is_listing (question_of sent.want)) false || awaits_listing asked) ≡ true
    by_tests true true key waits again =
        rw (ap is_listing (is_one (question_of sent.want) question key) ∙ lists) refl
    by_tests true false key waits again = or_right (is_listing (question_of sent.want)) _ (again waits lists)
    by_tests false asks key waits again = again waits lists

module _ (question : Question) (replied : Replied) where
  pub asks_filled : (asked : List Sent) → asks_listing (filled question replied asked) ≡ asks_listing asked
  asks_filled [] = refl
  asks_filled (sent ∷ asked) = by_test (waits_for sent question) (asks_filled asked)
    where
      by_test : (is : Bool) → asks_listing (filled question replied asked) ≡ asks_listing asked
          → asks_listing (cond is (record sent { reply = Some replied } ∷ asked) (sent ∷ filled question replied asked))
          ≡ (is_listing (question_of sent.want) || asks_listing asked)
      by_test true again = refl
      by_test false again = ap (λ b. is_listing (question_of sent.want) || b) again

  pub awaits_filled : (asked : List Sent) → awaits_listing (filled question replied asked) ≡ true
      → awaits_listing asked ≡ true
  awaits_filled [] is = is
  awaits_filled (sent ∷ asked) is = by_test (waits_for sent question) (awaits_filled asked) is
    where
      by_test : (is : Bool) → (awaits_listing (filled question replied asked) ≡ true → awaits_listing asked ≡ true)
          → awaits_listing (cond is (record sent { reply = Some replied } ∷ asked)
          (sent ∷ filled question replied asked)) ≡ true
          → (cond (is_none sent.reply) (is_listing (question_of sent.want)) false || awaits_listing asked) ≡ true
      by_test true again now =
          or_right (cond (is_none sent.reply) (is_listing (question_of sent.want)) false) _ now
      by_test false again now =
          or_more (cond (is_none sent.reply) (is_listing (question_of sent.want)) false) _ _ now again

  pub listed_filled : (asked : List Sent) → is_listing question ≡ false
      → was_listed (filled question replied asked) ≡ was_listed asked
  listed_filled [] other = refl
  listed_filled (sent ∷ asked) other =
      by_tests (is_none sent.reply) (asks_for sent question) refl (listed_filled asked other)
    where
      by_tests : (none asks : Bool) → asks_for sent question ≡ asks
          → was_listed (filled question replied asked) ≡ was_listed asked
          → was_listed (cond (cond none asks false) (record sent { reply = Some replied } ∷ asked)
          (sent ∷ filled question replied asked))
          ≡ (cond (is_some sent.reply) (is_listing (question_of sent.want)) false || was_listed asked)
      by_tests true true key again =
          let not_listing = ap is_listing (is_one (question_of sent.want) question key) ∙ other in
          rw not_listing (sym (ap (λ b. b || was_listed asked) (never (is_some sent.reply))))
      by_tests true false key again =
          ap (λ b. cond (is_some sent.reply) (is_listing (question_of sent.want)) false || b) again
      by_tests false asks key again =
          ap (λ b. cond (is_some sent.reply) (is_listing (question_of sent.want)) false || b) again

  -- each fact that was replied is known then
  pub learnt_filled : (known now : Known) (asked : List Sent) → Grows known now
      → (is_fact question ≡ true → is_some (fact_known (found_in now) question) ≡ true)
      → All (IsLearnt known) asked → All (IsLearnt now) (filled question replied asked)
  learnt_filled known now [] grows itself h = tt
  learnt_filled known now (sent ∷ asked) grows itself h =
      by_tests (is_none sent.reply) (asks_for sent question) refl (learnt_filled known now asked grows itself h.1)
    where
      replied_now : asks_for sent question ≡ true → IsLearnt now (record sent { reply = Some replied })
      replied_now key some fact =
          let one = is_one (question_of sent.want) question key in
          ap (λ q. is_some (fact_known (found_in now) q)) one ∙ itself (sym (ap is_fact one) ∙ fact)

      by_tests : (none asks : Bool) → asks_for sent question ≡ asks
          → All (IsLearnt now) (filled question replied asked)
          → All (IsLearnt now) (cond (cond none asks false) (record sent { reply = Some replied } ∷ asked)
          (sent ∷ filled question replied asked))
      by_tests true true key again = (replied_now key, still_learnt known now grows asked h.1)
      by_tests _ _ key again = (one_learnt known now grows sent h.0, again)
