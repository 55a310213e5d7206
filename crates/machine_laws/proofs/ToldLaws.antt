-- At rest the client was told of each breakpoint that is verified.
use Rattle.std.proofs.Common.{◌≡◌, ℕ, Bool, true, false, cond, List, [], ◌∷◌, ◌++◌, Option, Some, None, refl, ap, subst}
use Rattle.std.proofs.Common.{◌∙◌, sym, ◌||◌, ◌==◌, map, option_map, arith, filter, fold, nat_lt}
use Rattle.std.proofs.lemmas.Bool.{eqb-true, or_left, or_right}
use Rattle.std.specs.BTreeSet.{insert_key}
use Rattle.std.specs.List.{AllByRecursion as All, list_any}
use Rattle.std.specs.Ordering.{nat_cmp, on}
use Rattle.machine_model.specs.Breakpoints.{breakpoint_told, has_id, newly_verified, is_verified as is_told_verified}
use Rattle.machine_model.specs.Breakpoints.{with_id, with_told}
use Rattle.machine_model.specs.Lookups.{finished, plain_outcome, text_of, body_of, outcome_by, refusal, value_outcome}
use Rattle.machine_model.specs.Lookups.{written_parts, logged_of, stops_of}
use Rattle.machine_model.specs.References.{has_room, things_of}
use Rattle.machine_steps.specs.Names.{Seen, Written, variable_write, write_found, Attached, Choice, Clear, Decides}
use Rattle.machine_steps.specs.Names.{Judges, Logged, Strike, breakpoint_hits}
use Rattle.machine_steps.specs.Names.{Effect, Failed, Finding, Fresh, Gone, Initialized, Item, Leaves, ListedBreakpoint}
use Rattle.machine_steps.specs.Names.{Lookup, Nothing, Outcome, Part, Phase, Question, Replied, Set, Success}
use Rattle.machine_steps.specs.Names.{TargetCommand, TellsNews, Terminated, Want, a_question, a_stop, an_answer}
use Rattle.machine_steps.specs.Names.{an_effect, breakpoint_list, class_facts, entry_verified, some_news}
use Rattle.machine_steps.specs.Names.{thread_changed, container_children, thread_frames, expression_value, no_value}
use Rattle.machine_steps.specs.Names.{by_exception, exception_text, Stepped}
use Rattle.stop_refs.specs.Numbers.{InHand}
use Rattle.dap_messages.specs.Telling.{references_spent}
use Rattle.machine_model.specs.Due.{asked_hand}
use Rattle.machine_model.specs.Knowing.{is_fresh}
use Rattle.machine_model.specs.Outcomes.{result_of}
use Rattle.machine_model.specs.Plans.{Result, gave, refused}
use Rattle.machine_model.specs.Replying.{hand_replied, told_by}
use Rattle.machine_model.specs.Requests.{Wishes, request_in as request_id, set_to, wishes_after}
use Rattle.machine_model.specs.Rest.{IsAtRest, request_in}
use Rattle.machine_model.specs.Composites.{changes_in}
use Rattle.machine_model.specs.Rows.{written_by, chosen, each_told, leaves, news_of, refused_with, stepped_by, told_in}
use Rattle.machine_model.specs.Runs.{Message, Run}
use Rattle.machine_model.specs.State.{Hand, Machine, State, is_attached, is_gone}
use Rattle.machine_model.specs.Telling.{attached_from, numbered_by}
use Rattle.machine_laws.proofs.NewsLaws.{breakpoints_told, changes_alike, each_joined, learnt_bound}
use Rattle.machine_laws.proofs.BareLaws.{bare_cleared, bare_installed, bare_none, bare_refused, is_bare}
use Rattle.machine_laws.proofs.BareLaws.{placed_cleared, placed_installed}
use Rattle.machine_steps.proofs.RequestLaws.{IsDue, IsSet, front_set, settles, settling, was_due}
use Rattle.machine_steps.proofs.RequestSteps.{asked_left, flying_in, flying_of, learnt_wishes, near_before, is_choice}
use Rattle.machine_steps.proofs.RequestSteps.{needs_set, parts_left, replied_left}
use Rattle.machine_steps.proofs.Stepping.{IsAt, Moves, Skips, by_runs}
use Rattle.machine_steps.proofs.Tables.{decided_alike, starts_updates, judged_alike}
use Rattle.machine_steps.proofs.Testing.{same_replied}
use Rattle.wish_sets.proofs.OrderLaws.{each-insert}
use Rattle.wish_sets.specs.Entries.{all_entries, is_verified, state_of, verified}
use Rattle.wish_sets.specs.Wishes.{cleared, installed_as, is_installed, refused_now}
use Rattle.wish_sets.specs.declared.entry.EntryState.TheVariants.{Verified}
use Rattle.wish_sets.specs.declared.entry.VerifiedEntry.{VerifiedEntry}
use Rattle.machine_model.specs.Stops.{decided, judged}
use Rattle.machine_model.proofs.Bools.{both_hold}
use Rattle.machine_laws.proofs.VerifiedLaws.{has_now, has_still, is_listed, is_placed, is_shown, placed_listed}
use Rattle.machine_laws.proofs.VerifiedLaws.{stands_verified, verified_news}
use Rattle.machine_laws.proofs.ToldParts.{AreNoted, Covers, as_bare, begun, calmer, covers, covers_rest, has_lists}
use Rattle.machine_laws.proofs.ToldParts.{is_asked, none_noted, noted_covers, passes, rebinds, skips, tells_it}
use Rattle.machine_laws.proofs.ToldParts.{will_tell}

module _ (id : ℕ) where
  -- Replies -----------------------------------------------------------------------------------------------------------

  -- event requests change while they are set
  settled : {asked : Bool} {w : Wishes} {phase : Phase} {next : ℕ} {ids : List ℕ} (now : Wishes) (parts : List Part)
      → now.wanted ≡ w.wanted → starts_updates parts ≡ true → (is_bare id w ≡ false → is_bare id now ≡ false)
      → (is_placed id now ≡ true → (is_placed id w || is_bare id w) ≡ true) → Covers id asked w phase next ids parts
      → Covers id asked now phase next ids parts
  settled {asked} {w} {ids = ids} now (Part.Updates ∷ rest) same starts calm placed c = record {
    early = λ is. ap (is_listed id) same ∙ c.early is;
    below = λ is. c.below (sym (ap (is_listed id) same) ∙ is);
    noted = c.noted;
    covered = λ is. covers_now (is_bare id w) refl (is_bare id now) refl
        (c.covered (sym (ap (is_listed id) same) ∙ is));
    told = λ is stands. told_now (has_id ids id) (will_tell id asked rest) (is_placed id w) (is_bare id w)
        (placed stands) (c.told (sym (ap (is_listed id) same) ∙ is))
        (behind (is_bare id w) (c.covered (sym (ap (is_listed id) same) ∙ is)));
  }
    where
      covers_now : (bare : Bool) → is_bare id w ≡ bare → (after : Bool) → is_bare id now ≡ after
          → covers id asked bare (Part.Updates ∷ rest) ≡ true → covers id asked after (Part.Updates ∷ rest) ≡ true
      covers_now true was after is h = calmer id asked after (Part.Updates ∷ rest) h
      covers_now false was true is h = let no = sym is ∙ calm was in cc
      covers_now false was false is h = h

      behind : (bare : Bool) → covers id asked bare (Part.Updates ∷ rest) ≡ true → bare ≡ true
          → will_tell id asked rest ≡ true
      behind true h is = (both_hold (will_tell id asked rest) (covers id asked false rest) h).0
      behind false h is = cc

      told_now : (known tells placed bare : Bool) → (placed || bare) ≡ true
          → (placed ≡ true → (known || (false || tells)) ≡ true) → (bare ≡ true → tells ≡ true)
          → (known || (false || tells)) ≡ true
      told_now known tells placed bare either h new = grind (arith, either, h, new)
  settled now _ same starts calm placed c = cc

  replied_covers : {asked : Bool} {phase : Phase} {next : ℕ} {ids : List ℕ} (w : Wishes) (parts : List Part)
      (effect : Effect) (replied : Replied) → IsDue w parts (Some effect) → Covers id asked w phase next ids parts
      → Covers id asked (wishes_after effect replied w) phase next ids parts
  replied_covers {asked} {phase} {next} {ids} w parts (Set wish) replied due c = by_id (request_id replied)
    where
      by_id : (found : Option ℕ) → Covers id asked (set_to found wish w) phase next ids parts
      by_id None =
          settled (refused_now wish w) parts refl (due refl).1 (bare_refused id w wish)
          (λ is. or_left (is_placed id w) (is_bare id w) is) c
      by_id (Some request) =
          settled (installed_as request wish w) parts refl (due refl).1 (bare_installed id w wish request)
          (placed_installed id w wish request (due refl).0) c
  replied_covers w parts (Clear wish request) (an_answer answer) due c =
      settled (cleared wish w) parts refl (due refl).1 (λ none. bare_cleared id w wish request (due refl).0 ∙ none)
      (λ is. or_left (is_placed id w) (is_bare id w) (sym (placed_cleared id w wish request (due refl).0) ∙ is)) c
  replied_covers w parts _ _ due c = c

  -- Choices -----------------------------------------------------------------------------------------------------------

  told_news : (asked : Bool) (entries : List VerifiedEntry) (rest : List Part)
      → will_tell id asked (breakpoints_told entries ++ rest)
      ≡ (list_any (λ (entry : VerifiedEntry). entry.id == id) entries || will_tell id asked rest)
  told_news asked [] rest = refl
  told_news asked (entry ∷ entries) rest =
      ap (λ b. (entry.id == id) || b) (told_news asked entries rest)
      ∙ turn (entry.id == id) (list_any (λ (entry : VerifiedEntry). entry.id == id) entries) (will_tell id asked rest)
    where
      turn : (a b c : Bool) → (a || (b || c)) ≡ ((a || b) || c)
      turn a b c = grind arith

  told_lists : (entries : List VerifiedEntry) (rest : List Part)
      → has_lists (breakpoints_told entries ++ rest) ≡ has_lists rest
  told_lists [] rest = refl
  told_lists (entry ∷ entries) rest = told_lists entries rest

  told_covers : (asked bare : Bool) (entries : List VerifiedEntry) (rest : List Part)
      → covers id asked bare (breakpoints_told entries ++ rest) ≡ covers id asked bare rest
  told_covers asked bare [] rest = refl
  told_covers asked bare (entry ∷ entries) rest =
      ap (λ b. covers id asked b (breakpoints_told entries ++ rest)) (as_bare id bare)
      ∙ told_covers asked bare entries rest

  news_covers : {asked : Bool} (state : State) (below : ℕ) (item : Item) (rest : List Part) (phase : Phase)
      → state.phase ≡ phase
      → is_gone state.phase ≡ false
      → Covers id asked state.wishes state.phase state.next_entry state.bound (Part.Unfolds (TellsNews below) ∷ rest)
      → Covers id asked state.wishes state.phase state.next_entry state.bound
      (told_in phase (news_of below state item) ++ rest)
  news_covers state below item rest Fresh same near c =
      passes id state.phase state.bound (Part.Unfolds (TellsNews below)) rest c c.noted
      (as_bare id (is_bare id state.wishes)) (λ fresh. fresh)
      (λ is placed known. let no = c.early (ap is_fresh same) in cc)
  news_covers state below item rest Gone same near c = let no = ap is_gone same in cc
  news_covers {asked} state below item rest Attached same near c =
      subst (λ parts. Covers id asked state.wishes state.phase state.next_entry state.bound parts)
      (sym (each_joined (map entry_verified those) (changes_in item) rest)) (record {
        early = c.early;
        below = c.below;
        noted = none_noted id asked state.phase state.next_entry (breakpoints_told those ++ behind)
            (told_lists those behind ∙ changes_alike has_lists (λ started thread parts. refl) item rest ∙ c.noted);
        covered = λ is. told_covers asked bare those behind
            ∙ changes_alike (covers id asked bare)
            (λ started thread parts. ap (λ b. covers id asked b parts) (as_bare id bare)) item rest
            ∙ sym (ap (λ b. covers id asked b rest) (as_bare id bare))
            ∙ covers_rest id asked bare (Part.Unfolds (TellsNews below)) rest (c.covered is);
        told = λ is placed. ap (λ b. has_id state.bound id || b) (told_news asked those behind)
            ∙ by_bools (has_id state.bound id) (nat_lt id below)
            (list_any (λ (entry : VerifiedEntry). entry.id == id) those) (will_tell id asked behind)
            (ap (λ b. has_id state.bound id || (nat_lt id below || b))
            (changes_alike (will_tell id asked) (λ started thread parts. refl) item rest) ∙ c.told is placed)
            (λ less new. verified_news id below state.bound state.wishes is placed less new);
      })
    where
      bare : Bool
      bare = is_bare id state.wishes

      those : List VerifiedEntry
      those = newly_verified below state.bound state.wishes

      behind : List Part
      behind = each_told (changes_in item) ++ rest

      by_bools : (known less among rest : Bool) → (known || (less || rest)) ≡ true
          → (less ≡ true → known ≡ false → among ≡ true) → (known || (among || rest)) ≡ true
      by_bools true less among rest is h = refl
      by_bools false true among rest is h = or_left among rest (h refl refl)
      by_bools false false among rest is h = or_right among rest is

  leaves_covers : {asked : Bool} (state : State) (exits : Bool) (rest : List Part) (phase : Phase)
      → Covers id asked state.wishes state.phase state.next_entry state.bound (Part.Unfolds (Leaves exits) ∷ rest)
      → Covers id asked state.wishes state.phase state.next_entry state.bound (leaves phase exits ++ rest)
  leaves_covers state exits rest Attached c = record {
    early = c.early;
    below = c.below;
    noted = c.noted;
    covered = c.covered;
    told = c.told;
  }
  leaves_covers state exits rest _ c =
      skips id state.phase (Part.Unfolds (Leaves exits)) rest c c.noted (as_bare id (is_bare id state.wishes)) (λ fresh.
      fresh) refl

  -- Where no location is bare, a part becomes parts that tell nothing and are as good as none.
  becomes : {asked : Bool} {w : Wishes} {phase : Phase} {next : ℕ} {ids : List ℕ} (choice : Choice)
      (parts rest : List Part) → is_bare id w ≡ false → tells_it id asked (Part.Unfolds choice) ≡ false
      → will_tell id asked parts ≡ will_tell id asked rest → covers id asked false parts ≡ covers id asked false rest
      → AreNoted id asked phase next parts → Covers id asked w phase next ids (Part.Unfolds choice ∷ rest)
      → Covers id asked w phase next ids parts
  becomes {asked} {w} {ids = ids} choice parts rest calm silent tells covered noted c = record {
    early = c.early;
    below = c.below;
    noted = noted;
    covered = λ is. ap (λ b. covers id asked b parts) calm ∙ covered
        ∙ covers_rest id asked false (Part.Unfolds choice) rest
        (sym (ap (λ b. covers id asked b (Part.Unfolds choice ∷ rest)) calm) ∙ c.covered is);
    told = λ is placed. ap (λ b. has_id ids id || b) (tells ∙ sym (ap (λ b. b || will_tell id asked rest) silent))
        ∙ c.told is placed;
  }

  judged_covers : {asked : Bool} (state : State) (item : Item) (rest : List Part) → is_bare id state.wishes ≡ false
      → Covers id asked state.wishes state.phase state.next_entry state.bound (Part.Unfolds Judges ∷ rest)
      → Covers id asked state.wishes state.phase state.next_entry state.bound (judged state item ++ rest)
  judged_covers {asked} state item rest calm c =
      becomes Judges (judged state item ++ rest) rest calm refl
      (judged_alike (will_tell id asked) (λ strikes parts. refl) state item rest)
      (judged_alike (covers id asked false) (λ strikes parts. refl) state item rest)
      (none_noted id asked state.phase state.next_entry (judged state item ++ rest)
      (judged_alike has_lists (λ strikes parts. refl) state item rest ∙ c.noted)) c

  decided_covers : {asked : Bool} (logged : List (List ℕ)) (stops : List Strike) (state : State) (item : Item)
      (rest : List Part) → is_bare id state.wishes ≡ false → Covers id asked state.wishes state.phase state.next_entry
      state.bound (Part.Unfolds (Decides logged stops) ∷ rest)
      → Covers id asked state.wishes state.phase state.next_entry state.bound (decided state logged stops item ++ rest)
  decided_covers {asked} logged stops state item rest calm c =
      becomes (Decides logged stops) (decided state logged stops item ++ rest) rest calm refl
      (decided_alike (will_tell id asked) (λ thrown parts. refl) (λ stopping parts. refl) (λ thread object parts. refl)
      (λ parts. refl) (λ parts. refl) (λ text texts strikes parts. refl) state logged stops item rest)
      (decided_alike (covers id asked false) (λ thrown parts. refl) (λ stopping parts. refl)
      (λ thread object parts. refl) (λ parts. refl) (λ parts. refl) (λ text texts strikes parts. refl) state logged stops
      item rest)
      (none_noted id asked state.phase state.next_entry (decided state logged stops item ++ rest)
      (decided_alike has_lists (λ thrown parts. refl) (λ stopping parts. refl) (λ thread object parts. refl)
      (λ parts. refl) (λ parts. refl) (λ text texts strikes parts. refl) state logged stops item rest ∙ c.noted)) c

  stepped_covers : {asked : Bool} (state : State) (code : Option ℕ) (rest : List Part) → is_bare id state.wishes ≡ false
      → Covers id asked state.wishes state.phase state.next_entry state.bound (Part.Unfolds Stepped ∷ rest)
      → Covers id asked state.wishes state.phase state.next_entry state.bound (stepped_by code ++ rest)
  stepped_covers state None rest calm c = becomes Stepped (stepped_by None ++ rest) rest calm refl refl refl c.noted c
  stepped_covers state (Some code) rest calm c =
      becomes Stepped (stepped_by (Some code) ++ rest) rest calm refl refl refl c.noted c

  written_covers : {asked : Bool} (state : State) (seen : Seen) (code : Option ℕ) (rest : List Part)
      → Covers id asked state.wishes state.phase state.next_entry state.bound (Part.Unfolds (Written seen) ∷ rest)
      → Covers id asked state.wishes state.phase state.next_entry state.bound (written_by seen code ++ rest)
  written_covers state seen None rest c =
      record { early = c.early; below = c.below; noted = c.noted; covered = c.covered; told = c.told }
  written_covers state seen (Some code) rest c =
      record { early = c.early; below = c.below; noted = c.noted; covered = c.covered; told = c.told }

  -- where it is decided how an item goes on no location is bare
  chosen_covers : {asked : Bool} (choice : Choice) (state : State) (hand : Hand) (rest : List Part)
      → is_gone state.phase ≡ false → (is_choice choice ≡ true → is_bare id state.wishes ≡ false)
      → Covers id asked state.wishes state.phase state.next_entry state.bound (Part.Unfolds choice ∷ rest)
      → Covers id asked state.wishes state.phase state.next_entry state.bound (chosen choice state hand ++ rest)
  chosen_covers (TellsNews below) state hand rest near calm c =
      news_covers state below hand.item rest state.phase refl near c
  chosen_covers Judges state hand rest near calm c = judged_covers state hand.item rest (calm refl) c
  chosen_covers (Decides logged stops) state hand rest near calm c =
      decided_covers logged stops state hand.item rest (calm refl) c
  chosen_covers Stepped state hand rest near calm c = stepped_covers state (refused_with hand.effect) rest (calm refl) c
  chosen_covers (Written seen) state hand rest near calm c =
      written_covers state seen (refused_with hand.effect) rest c
  chosen_covers (Leaves exits) state hand rest near calm c = leaves_covers state exits rest state.phase c

  -- Responses ---------------------------------------------------------------------------------------------------------

  told_still : (rooted : Bool) (w : Wishes) (listed : List ListedBreakpoint) (ids : List ℕ) → has_id ids id ≡ true
      → has_id (with_told ids (map (breakpoint_told rooted w) listed)) id ≡ true
  told_still rooted w [] ids is = is
  told_still rooted w (one ∷ listed) ids is =
      by_test (is_told_verified (breakpoint_told rooted w one).status)
      (λ ids is. told_still rooted w listed ids is)
    where
      by_test : (verified : Bool) → ((ids : List ℕ) → has_id ids id ≡ true
          → has_id (with_told ids (map (breakpoint_told rooted w) listed)) id ≡ true)
          → has_id (with_told (cond verified (with_id ids one.id) ids) (map (breakpoint_told rooted w) listed)) id
          ≡ true
      by_test true again = again (with_id ids one.id) (has_still id ids one.id is)
      by_test false again = again ids is

  told_shown : (w : Wishes) (listed : List ListedBreakpoint) (ids : List ℕ) → state_of w id ≡ Some Verified
      → list_any (is_shown id) listed ≡ true → has_id (with_told ids (map (breakpoint_told true w) listed)) id ≡ true
  told_shown w [] ids stands is = cc
  told_shown w (one ∷ listed) ids stands is =
      by_one (one.id == id) refl one.plain refl is
      (λ is. behind (is_told_verified (breakpoint_told true w one).status) (λ ids. told_shown w listed ids stands is))
    where
      behind : (verified : Bool)
          → ((ids : List ℕ) → has_id (with_told ids (map (breakpoint_told true w) listed)) id ≡ true)
          → has_id (with_told (cond verified (with_id ids one.id) ids) (map (breakpoint_told true w) listed)) id ≡ true
      behind true again = again (with_id ids one.id)
      behind false again = again ids

      by_one : (same : Bool) → (one.id == id) ≡ same → (plain : Bool) → one.plain ≡ plain
          → (cond same plain false || list_any (is_shown id) listed) ≡ true
          → (list_any (is_shown id) listed ≡ true
          → has_id (with_told (cond (is_told_verified (breakpoint_told true w one).status) (with_id ids one.id) ids)
          (map (breakpoint_told true w) listed)) id ≡ true)
          → has_id (with_told (cond (is_told_verified (breakpoint_told true w one).status) (with_id ids one.id) ids)
          (map (breakpoint_told true w) listed)) id ≡ true
      by_one true same true plain is again =
          rw (plain, ap (state_of w) (eqb-true one.id id same) ∙ stands)
          (told_still true w listed (with_id ids one.id) (has_now id ids one.id same))
      by_one _ same _ plain is again = again is

  list_told : (asked rooted : Bool) (w : Wishes) (listed : List ListedBreakpoint) (ids : List ℕ)
      → is_listed id w.wanted ≡ true → is_placed id w ≡ true
      → (has_id ids id || cond asked (cond rooted (list_any (is_shown id) listed) false) false) ≡ true
      → has_id (with_told ids (map (breakpoint_told rooted w) listed)) id ≡ true
  list_told asked rooted w listed ids is placed known = by_known (has_id ids id) refl asked rooted known
    where
      by_known : (had : Bool) → has_id ids id ≡ had → (asked rooted : Bool)
          → (had || cond asked (cond rooted (list_any (is_shown id) listed) false) false) ≡ true
          → has_id (with_told ids (map (breakpoint_told rooted w) listed)) id ≡ true
      by_known true had asked rooted known = told_still rooted w listed ids had
      by_known false had true true known = told_shown w listed ids (stands_verified id w is placed) known
      by_known false had _ _ known = cc

  -- a response that tells no breakpoint
  silent_covers : {asked : Bool} (outcome : Outcome) (state : State) (rest : List Part)
      → tells_it id asked (Part.Responds outcome) ≡ false
      → Covers id asked state.wishes state.phase state.next_entry state.bound (Part.Responds outcome ∷ rest)
      → Covers id asked state.wishes state.phase state.next_entry state.bound rest
  silent_covers outcome state rest silent c =
      skips id state.phase (Part.Responds outcome) rest c c.noted (as_bare id (is_bare id state.wishes))
      (λ fresh. fresh) silent

  responded_covers : {asked : Bool} (outcome : Outcome) (state : State) (rest : List Part)
      → Covers id asked state.wishes state.phase state.next_entry state.bound (Part.Responds outcome ∷ rest)
      → Covers id asked (numbered_by outcome state).wishes (numbered_by outcome state).phase
      (numbered_by outcome state).next_entry (numbered_by outcome state).bound rest
  responded_covers {asked} (Success (breakpoint_list rooted listed)) state rest c =
      passes id state.phase (with_told state.bound (map (breakpoint_told rooted state.wishes) listed))
      (Part.Responds (Success (breakpoint_list rooted listed))) rest c c.noted (as_bare id (is_bare id state.wishes))
      (λ fresh. fresh)
      (λ is placed known. list_told asked rooted state.wishes listed state.bound is placed known)
  responded_covers outcome state rest c = silent_covers outcome state rest refl c

  -- Runs --------------------------------------------------------------------------------------------------------------

  abbrev asked_in : Option Hand → Bool
  asked_in None = false
  asked_in (Some hand) = is_asked hand.item

  -- what is left of the item in hand covers id the breakpoint
  abbrev IsCovered : Machine → Type 0
  IsCovered m =
      Covers id (asked_in m.hand) m.state.wishes m.state.phase m.state.next_entry m.state.bound (parts_left m.hand)

  at_front : {m : Machine} {hand : Hand} {part : Part} {rest : List Part} → IsCovered m → IsAt m hand part rest
      → Covers id (is_asked hand.item) m.state.wishes m.state.phase m.state.next_entry m.state.bound (part ∷ rest)
  at_front {m} {hand} c at =
      subst (λ (parts : List Part). Covers id (is_asked hand.item) m.state.wishes m.state.phase m.state.next_entry
      m.state.bound parts) at.parts
      (subst (λ (held : Option Hand). Covers id (asked_in held) m.state.wishes m.state.phase m.state.next_entry
      m.state.bound (parts_left held)) at.in_hand c)

  learnt_next : (question : Question) (replied : Replied) (state : State)
      → (told_by question replied state).next_entry ≡ state.next_entry
  learnt_next question replied state = grind arith

  replied_asked : (command : TargetCommand) (replied : Replied) (hand : Option Hand)
      → asked_in (option_map (hand_replied command replied) hand) ≡ asked_in hand
  replied_asked command replied hand = grind arith

  want_asked : (want : Want) (hand : Option Hand) → asked_in (option_map (asked_hand want) hand) ≡ asked_in hand
  want_asked want hand = grind arith

  not_asked : (item : Item) → request_in item ≡ [] → is_asked item ≡ false
  not_asked item is = grind (arith, is)

  -- a response that goes to nobody
  untold : (asked : Bool) (outcome : Outcome) → asked ≡ false → tells_it id asked (Part.Responds outcome) ≡ false
  untold asked outcome is = grind (arith, is)

  -- what is found tells of no breakpoint
  plain_shown : (asked : Bool) (result : Result Finding)
      → tells_it id asked (Part.Responds (plain_outcome result)) ≡ false
  plain_shown asked result = grind arith

  none_shown : (asked : Bool) (numbers : InHand) (result : Result Finding)
      → tells_it id asked (Part.Responds (outcome_by numbers result)) ≡ false
  none_shown asked numbers (refused code) = refl
  none_shown asked numbers (gave finding) = by_room (has_room (things_of (body_of finding)) numbers) finding
    where
      by_room : (room : Bool) (finding : Finding)
          → tells_it id asked (Part.Responds (cond room (Success (body_of finding)) (Failed references_spent))) ≡ false
      by_room room finding = grind arith

  value_shown : (asked : Bool) (numbers : InHand) (result : Result Finding)
      → tells_it id asked (Part.Responds (value_outcome numbers result)) ≡ false
  value_shown asked numbers (refused code) = refl
  value_shown asked numbers (gave (no_value failure)) = refl
  value_shown asked numbers result = none_shown asked numbers result

  -- a look-up becomes a part that tells no breakpoint
  found_silent : {asked : Bool} {w : Wishes} {phase : Phase} {next : ℕ} {ids : List ℕ} (lookup : Lookup) (part : Part)
      (rest : List Part) → rebinds (Part.Looks lookup) ≡ false → tells_it id asked part ≡ false
      → covers id asked (is_bare id w) (part ∷ rest) ≡ covers id asked (is_bare id w) rest
      → AreNoted id asked phase next (part ∷ rest) → Covers id asked w phase next ids (Part.Looks lookup ∷ rest)
      → Covers id asked w phase next ids (part ∷ rest)
  found_silent {asked} {w} {ids = ids} lookup part rest binds silent same noted c = record {
    early = c.early;
    below = c.below;
    noted = noted;
    covered = λ is. same ∙ sym (ap (λ b. covers id asked b rest) (ap (λ b. is_bare id w || b) binds
        ∙ as_bare id (is_bare id w))) ∙ covers_rest id asked (is_bare id w) (Part.Looks lookup) rest (c.covered is);
    told = λ is placed. ap (λ b. has_id ids id || (b || will_tell id asked rest)) silent ∙ c.told is placed;
  }

  found_covers : {asked : Bool} {w : Wishes} {phase : Phase} {next : ℕ} {ids : List ℕ} (lookup : Lookup)
      (result : Result Finding) (state : State) (rest : List Part)
      → Covers id asked w phase next ids (Part.Looks lookup ∷ rest)
      → Covers id asked w phase next ids (finished lookup result state ++ rest)
  found_covers {asked} {w} (thread_frames thread start levels) result state rest c =
      found_silent (thread_frames thread start levels) (Part.Responds (outcome_by state.numbers result)) rest refl
      (none_shown asked state.numbers result) (ap (λ b. covers id asked b rest) (as_bare id (is_bare id w))) c.noted c
  found_covers {asked} {w} (container_children thing filter start count) result state rest c =
      found_silent (container_children thing filter start count) (Part.Responds (outcome_by state.numbers result)) rest
      refl (none_shown asked state.numbers result) (ap (λ b. covers id asked b rest) (as_bare id (is_bare id w)))
      c.noted c
  found_covers {asked} {w} (expression_value frame expression) result state rest c =
      found_silent (expression_value frame expression) (Part.Responds (value_outcome state.numbers result)) rest
      refl (value_shown asked state.numbers result) (ap (λ b. covers id asked b rest) (as_bare id (is_bare id w)))
      c.noted c
  found_covers {asked} {w} {phase} {next} {ids} (variable_write thing name text) result state rest c = by_result result
    where
      responds : (outcome : Outcome) → tells_it id asked (Part.Responds outcome) ≡ false
          → Covers id asked w phase next ids (Part.Responds outcome ∷ rest)
      responds outcome silent = found_silent (variable_write thing name text) (Part.Responds outcome) rest refl silent
          (ap (λ b. covers id asked b rest) (as_bare id (is_bare id w))) c.noted c

      by_result : (result : Result Finding) → Covers id asked w phase next ids (written_parts result ++ rest)
      by_result (refused code) = responds (Failed (refusal code)) refl
      by_result (gave (no_value failure)) = responds (Failed failure) refl
      by_result (gave (write_found write seen)) = record {
        early = c.early;
        below = c.below;
        noted = c.noted;
        covered = λ is. ap (λ b. covers id asked b rest) (as_bare id (is_bare id w || false)) ∙ c.covered is;
        told = c.told;
      }
      by_result _ = responds (Success Nothing) refl
  found_covers {asked} {w} (exception_text thread object) result state rest c =
      found_silent (exception_text thread object)
      (Part.Tells (a_stop (record { cause = by_exception (text_of result); thread = thread }))) rest refl refl
      (ap (λ b. covers id asked b rest) (as_bare id (is_bare id w))) c.noted c
  found_covers {asked} {w} (breakpoint_hits strikes) result state rest c =
      found_silent (breakpoint_hits strikes) (Part.Unfolds (Decides (logged_of result) (stops_of result))) rest refl refl
      (ap (λ b. covers id asked b rest) (as_bare id (is_bare id w))) c.noted c
  found_covers {asked} {w} class_facts result state rest c = record {
    early = c.early;
    below = c.below;
    noted = c.noted;
    covered = c.covered;
    told = c.told;
  }
  found_covers {asked} {w} lookup result state rest c =
      found_silent lookup (Part.Responds (plain_outcome result)) rest refl (plain_shown asked result) (ap (λ b. covers
      id asked b rest) (as_bare id (is_bare id w))) c.noted c

  -- where an item begins no location of a breakpoint that is listed is bare
  begun_calm : (m : Machine) → IsSet m → is_gone m.state.phase ≡ false → m.hand ≡ None
      → (is_fresh m.state.phase ≡ true → is_listed id m.state.wishes.wanted ≡ false)
      → is_listed id m.state.wishes.wanted ≡ true → is_bare id m.state.wishes ≡ false
  begun_calm m set near none early is =
      bare_none id m.state.wishes (set (ap (needs_set (is_attached m.state.phase)) (ap parts_left none)
      ∙ by_phase m.state.phase near (λ fresh. sym (early fresh) ∙ is)))
    where
      by_phase : (phase : Phase) → is_gone phase ≡ false → (is_fresh phase ≡ true → false ≡ true)
          → is_attached phase ≡ true
      by_phase Fresh near early = let no = early refl in cc
      by_phase Attached near early = refl
      by_phase Gone near early = cc

  decides_first : (attached : Bool) (choice : Choice) (rest : List Part) → is_choice choice ≡ true
      → needs_set attached (Part.Unfolds choice ∷ rest) ≡ true
  decides_first attached choice rest is = rw is refl

  covered_on : (messages : List Message) (m next : Machine) (said : Option Message) → Run messages m
      → is_gone m.state.phase ≡ false → is_gone next.state.phase ≡ false → IsCovered m → Moves m said next
      → IsCovered next
  covered_on messages m next said r near here c (Moves.begins picked free none is) =
      begun id m.state picked.item (begun_calm m (settling r near).set near none c.early)
      (subst (λ (held : Option Hand). Covers id (asked_in held) m.state.wishes m.state.phase m.state.next_entry
      m.state.bound (parts_left held)) none c)
  covered_on messages m next said r near here c (Moves.drops {hand} free is none) =
      let last = subst (λ (parts : List Part). Covers id (is_asked hand.item) m.state.wishes m.state.phase
      m.state.next_entry m.state.bound parts) none (subst (λ (held : Option Hand). Covers id (asked_in held) m.state.wishes
      m.state.phase m.state.next_entry m.state.bound (parts_left held)) is c) in record {
        early = last.early;
        below = last.below;
        noted = tt;
        covered = λ is. refl;
        told = last.told;
      }
  covered_on messages m next said r near here c (Moves.responds {rest = rest} {outcome = outcome} free at is) =
      responded_covers outcome m.state rest (at_front c at)
  covered_on messages m next said r near here c (Moves.finds {rest = rest} {lookup} found free at needs done) =
      found_covers lookup (result_of found) m.state rest (at_front c at)
  covered_on messages m next said r near here c (Moves.passes_over {rest = rest} free at (Skips.by_guard {guard} is)) =
      let front = at_front c at in
      skips id m.state.phase (Part.Awaits guard) rest front front.noted (as_bare id (is_bare id m.state.wishes))
      (λ fresh. fresh) refl
  covered_on messages m next said r near here c (Moves.passes_over {rest = rest} free at (Skips.by_wishes is)) =
      let front = at_front c at in
      skips id m.state.phase Part.Updates rest front front.noted (sym (bare_none id m.state.wishes is)) (λ fresh. fresh)
      refl
  covered_on messages m next said r near here c
      (Moves.passes_over {hand} {rest = rest} free at (Skips.no_request {outcome} is)) =
      let front = at_front c at in
      skips id m.state.phase (Part.Responds outcome) rest front front.noted (as_bare id (is_bare id m.state.wishes))
      (λ fresh. fresh)
      (untold (is_asked hand.item) outcome (not_asked hand.item is))
  covered_on messages m next said r near here c (Moves.tells {rest = rest} {event = Initialized} free at) =
      let front = at_front c at in
      skips id (attached_from m.state.phase) (Part.Tells Initialized) rest front front.noted
      (as_bare id (is_bare id m.state.wishes)) (once m.state.phase) refl
    where
      once : (phase : Phase) → is_fresh (attached_from phase) ≡ true → is_fresh phase ≡ true
      once phase is = grind (arith, is)
  covered_on messages m next said r near here c
      (Moves.tells {rest = rest} {event = some_news (entry_verified entry)} free at) =
      let front = at_front c at in
      passes id m.state.phase (with_id m.state.bound entry.id) (Part.Tells (some_news (entry_verified entry))) rest
      front front.noted (as_bare id (is_bare id m.state.wishes)) (λ fresh. fresh)
      (λ is placed known. by_known (has_id m.state.bound id) refl (entry.id == id) refl known)
    where
      by_known : (had : Bool) → has_id m.state.bound id ≡ had → (same : Bool) → (entry.id == id) ≡ same
          → (had || same) ≡ true → has_id (with_id m.state.bound entry.id) id ≡ true
      by_known true had same is known = has_still id m.state.bound entry.id had
      by_known false had true is known = has_now id m.state.bound entry.id is
      by_known false had false is known = cc
  covered_on messages m next said r near here c
      (Moves.tells {rest = rest} {event = some_news (thread_changed started thread)} free at) =
      let front = at_front c at in
      skips id m.state.phase (Part.Tells (some_news (thread_changed started thread))) rest front front.noted
      (as_bare id (is_bare id m.state.wishes)) (λ fresh. fresh) refl
  covered_on messages m next said r near here c (Moves.tells {rest = rest} {event = a_stop stopping} free at) =
      let front = at_front c at in
      skips id m.state.phase (Part.Tells (a_stop stopping)) rest front front.noted
      (as_bare id (is_bare id m.state.wishes)) (λ fresh. fresh) refl
  covered_on messages m next said r near here c (Moves.tells {rest = rest} {event = Logged text} free at) =
      let front = at_front c at in
      skips id m.state.phase (Part.Tells (Logged text)) rest front front.noted
      (as_bare id (is_bare id m.state.wishes)) (λ fresh. fresh) refl
  covered_on messages m next said r near here c (Moves.tells {rest = rest} {event = Terminated} free at) = cc
  covered_on messages m next said r near here c (Moves.sends {rest = rest} {deed} free at away) =
      let front = at_front c at in
      skips id m.state.phase (Part.Sends deed) rest front front.noted (as_bare id (is_bare id m.state.wishes))
      (λ fresh. fresh) refl
  covered_on messages m next said r near here c (Moves.updates free at is away) = at_front c at
  covered_on messages m next said r near here c (Moves.notes {note = note} {rest} free at) =
      noted_covers id note m.state rest (at_front c at)
  covered_on messages m next said r near here c (Moves.unfolds {hand} {choice} {rest} free at) =
      chosen_covers choice m.state hand rest near
      (λ is. bare_none id m.state.wishes (front_set m hand (Part.Unfolds choice) rest (settling r near).set at
      (decides_first (is_attached m.state.phase) choice rest is))) (at_front c at)
  covered_on messages m next said r near here c (Moves.queues free is) =
      subst (λ (held : Option Hand). Covers id (asked_in held) m.state.wishes m.state.phase m.state.next_entry
      m.state.bound (parts_left held)) is c
  covered_on messages m next said r near here c (Moves.asks {want = want} free room is are) =
      rw (want_asked want m.hand, asked_left want m.hand) c
  covered_on messages m next said r near here c (Moves.answers {question} {replied} is waits reply stays) =
      rw (
        replied_asked (a_question question) replied m.hand,
        learnt_wishes question replied m.state,
        same_replied (a_question question) replied m.state,
        learnt_next question replied m.state,
        learnt_bound question replied m.state,
        replied_left (a_question question) replied m.hand,
      ) c
  covered_on messages m next said r near here c (Moves.replies {effect} {replied} {hand} is flies reply stays) =
      let due = was_due m effect (settling r near).awaited (ap flying_in is ∙ ap flying_of flies) in
      rw (replied_asked (an_effect effect) replied m.hand, replied_left (an_effect effect) replied m.hand)
      (replied_covers m.state.wishes (parts_left m.hand) effect replied due c)
  covered_on messages m next said r near here c (Moves.loses late away why) = cc
  covered_on messages m next said r near here c _ = c

  covered : {messages : List Message} {m : Machine} → Run messages m → is_gone m.state.phase ≡ false → IsCovered m
  covered r = by_runs {Holds = λ (messages : List Message) (m : Machine). is_gone m.state.phase ≡ false → IsCovered m}
      (record {
        starts = λ near. record {
          early = λ is. refl;
          below = λ is. cc;
          noted = tt;
          covered = λ is. refl;
          told = λ is. cc;
        };
        moves = λ messages m next said before h moved after here. let near = near_before m next said moved here in
            covered_on messages m next said before near here (h near) moved;
        queues = λ messages m hand queue before may h. h;
      }) r

-- The law -------------------------------------------------------------------------------------------------------------

fold_all : (P : VerifiedEntry → Type 0) (start entries : List VerifiedEntry) → All P start → All P entries
    → All P (fold (insert_key (on (λ (entry : VerifiedEntry). entry.id) nat_cmp)) start entries)
fold_all P start [] all more = all
fold_all P start (entry ∷ entries) all more =
    fold_all P (insert_key (on (λ (entry : VerifiedEntry). entry.id) nat_cmp) start entry) entries
    (each-insert (on (λ (entry : VerifiedEntry). entry.id) nat_cmp) P entry start more.0 all) more.1

pub tells_all : (messages : List Message) (m : Machine) → Run messages m → IsAtRest m → m.state.phase ≡ Attached
    → All (λ (entry : VerifiedEntry). has_id m.state.bound entry.id ≡ true) (verified m.state.wishes)
tells_all messages m r rests attached =
    fold_all (λ (entry : VerifiedEntry). has_id m.state.bound entry.id ≡ true) []
    (filter (is_verified m.state.wishes) (all_entries m.state.wishes.wanted)) tt
    (all_told (all_entries m.state.wishes.wanted))
  where
    known : (had : Bool) → (had || false) ≡ true → had ≡ true
    known had is = grind (arith, is)

    each : (entry : VerifiedEntry) → is_verified m.state.wishes entry ≡ true → has_id m.state.bound entry.id ≡ true
    each entry is =
        let none = (settles messages m r rests attached).none_in_hand in
        let c = subst (λ (held : Option Hand). Covers entry.id (asked_in entry.id held) m.state.wishes m.state.phase
        m.state.next_entry m.state.bound (parts_left held)) none (covered entry.id r (ap is_gone attached)) in
        known (has_id m.state.bound entry.id) (c.told (placed_listed entry.id m.state.wishes.wanted
        (is_installed m.state.wishes.installed) is) is)

    all_told : (entries : List VerifiedEntry)
        → All (λ (entry : VerifiedEntry). has_id m.state.bound entry.id ≡ true)
        (filter (is_verified m.state.wishes) entries)
    all_told [] = tt
    all_told (entry ∷ entries) = by_test (is_verified m.state.wishes entry) refl (all_told entries)
      where
        by_test : (is : Bool) → is_verified m.state.wishes entry ≡ is
            → All (λ (entry : VerifiedEntry). has_id m.state.bound entry.id ≡ true)
            (filter (is_verified m.state.wishes) entries)
            → All (λ (entry : VerifiedEntry). has_id m.state.bound entry.id ≡ true)
            (cond is (entry ∷ filter (is_verified m.state.wishes) entries)
            (filter (is_verified m.state.wishes) entries))
        by_test true is again = (each entry is, again)
        by_test false is again = again
